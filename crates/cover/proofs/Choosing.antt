-- Choices, one at a time.
use Rattle.std.proofs.Common.{◌≡◌, ℕ, ◌+◌, ◌<◌, ◌≤◌, ◌⊎◌, ◌&&◌, ◌||◌, Bool, true, false, List, [], ◌∷◌, ◌++◌, length, map, take, drop, get_or, Contains, Option, Some, None, is_some, refl, sym, subst, ap, ap₂, ◌∙◌, inl, inr, ⊎_elim, arith, append_assoc, nat_eq, nat_lt}
use Rattle.std.specs.Prelude.{IsTrue}
use Rattle.std.specs.Bool.{beq}
use Rattle.std.specs.List.{flat_map}
use Rattle.std.proofs.lemmas.Bool.{cases_Bool, cases_lt, and_parts, and_from, eqb-true, eq-eqb, ltb-true, lt-ltb, cond-true, cond-false, true≢false, false≢true}
use Rattle.std.proofs.lemmas.List.{drop_more, map-append, take_more}
use Rattle.std.proofs.lemmas.List.Elements.{Contains-push, Contains-push_cases, Contains-append_left}
use Rattle.prefix.specs.declared.quant.Quant.{Quant}
use Rattle.prefix.specs.declared.quant.Quant.TheVariants.{Exists, Forall}
use Rattle.prefix.specs.Literal.{Literal}
use Rattle.prefix.specs.Scopes.{Scope, all_variables, quantifier_of}
use Rattle.truth.specs.Matrix.{Values, clause_true, is_true_of, literal_true, same}
use Rattle.calculus.specs.Rows.{Row, depth_of, is_of, is_pivot}
use Rattle.calculus.specs.Search.{IsOrderedAfter, IsOrderedTrail, Trail, value_on}
use Rattle.calculus.proofs.Levels.{has_quantifier}
use Rattle.calculus.proofs.Lists.{any_at, contains_cons, contains_head, contains_nil, contains_tail}
use Rattle.calculus.proofs.Trails.{value_past}
use Rattle.cover.specs.Choices.{AreChoices, AreChosenBut, AreHit, AreHitBut, AreHitWith, Choices, Chooses, IsHit, IsInnermost, MayCover, chosen_at, has_sign, is_chosen, is_better, is_true_one}

pub one_more : {X : Type 0} (xs : List X) (i : ℕ) (v : X) → i < length xs → v ≡ get_or xs i v
    → take (i + 1) xs ≡ take i xs ++ v ∷ []
one_more xs i v below is = take_more xs i v below ∙ ap (λ l. take i xs ++ l ∷ []) (sym is)

-- one more clause of a part is passed
pub one_longer : (before part : List Row) (i : ℕ) (clause : Row) → i < length part → clause ≡ get_or part i clause
    → before ++ take (i + 1) part ≡ (before ++ take i part) ++ clause ∷ []
one_longer before part i clause below is =
    ap (λ (r : List Row). before ++ r) (one_more part i clause below is)
    ∙ sym (append_assoc before (take i part) (clause ∷ []))

-- one more is listed
pub one_listed : {X : Type 0} (xs ys : List X) (x : X) → ys ≡ xs ++ x ∷ [] → (f : X → Row)
    → map f ys ≡ map f xs ++ f x ∷ []
one_listed xs ys x e f = ap (map f) e ∙ map-append f xs (x ∷ [])

-- of what is listed one is left behind
pub one_behind : {X : Type 0} (xs : List X) (i : ℕ) (x : X) → i < length xs → x ≡ get_or xs i x → (f : X → Row)
    → map f (drop i xs) ≡ f x ∷ map f (drop (i + 1) xs)
one_behind xs i x below is f =
    ap (map f) (drop_more xs i x below ∙ ap (λ y. y ∷ drop (i + 1) xs) (sym is))

-- one more part is passed
pub one_part : {X : Type 0} (f : X → List Row) (before : List Row) (xs : List X) (i : ℕ) (x : X) → i < length xs
    → x ≡ get_or xs i x
    → (before ++ f x) ++ flat_map f (drop (i + 1) xs) ≡ before ++ flat_map f (drop i xs)
one_part {X} f before xs i x below is =
    append_assoc before (f x) (flat_map f (drop (i + 1) xs))
    ∙ ap (λ (ys : List X). before ++ flat_map f ys) (ap (λ y. y ∷ drop (i + 1) xs) is ∙ sym (drop_more xs i x below))

clash : (b : Bool) → b ≡ true → b ≡ false → ⊥
clash b t f = true≢false (sym t ∙ f)

ltb_false : (m n : ℕ) → nat_lt m n ≡ false → n ≤ m
ltb_false m n e =
    ⊎_elim (λ below. absurd (clash (nat_lt m n) (lt-ltb m n below) e)) (λ at_least. at_least) (cases_lt m n)

-- what is taken is no earlier, and what isn't is no later
module _ (a b : ℕ) (c : Bool) where
  better_from : (s : Bool) → nat_lt a b ≡ s → (e : Bool) → nat_eq a b ≡ e → (s || (e && c)) ≡ true → a ≤ b
  better_from true f e g h = let below = ltb-true a b f in omega arith
  better_from false f true g h = let same = eqb-true a b g in omega arith
  better_from false f false g h = absurd (false≢true h)

  better_le : (nat_lt a b || (nat_eq a b && c)) ≡ true → a ≤ b
  better_le h = better_from (nat_lt a b) refl (nat_eq a b) refl h

  worse_from : (s : Bool) → nat_lt a b ≡ s → (s || (nat_eq a b && c)) ≡ false → b ≤ a
  worse_from true f h = absurd (true≢false h)
  worse_from false f h = ltb_false a b f

  worse_le : (nat_lt a b || (nat_eq a b && c)) ≡ false → b ≤ a
  worse_le h = worse_from (nat_lt a b) refl h

-- the innermost true literal

module _ (quantifier : Quant) (table : Choices) (scopes : List Scope) (values : Values) where
  pub innermost_nil : IsInnermost quantifier scopes values [] None
  innermost_nil l i = absurd (contains_nil l i)

  pub innermost_skip : (row : Row) (v : Literal) (taken : Option Literal)
      → is_true_one quantifier scopes values v ≡ false → IsInnermost quantifier scopes values row taken
      → IsInnermost quantifier scopes values (row ++ v ∷ []) taken
  innermost_skip row v None out before =
      λ l i. ⊎_elim (λ j. before l j) (λ e. ap (is_true_one quantifier scopes values) (sym e) ∙ out)
      (Contains-push_cases row v l i)
  innermost_skip row v (Some taken) out before = (
    Contains-append_left row (v ∷ []) taken before.0,
    before.1,
    λ l i one. ⊎_elim
        (λ j. before.2 l j one)
        (λ e. absurd (clash (is_true_one quantifier scopes values v)
        (ap (is_true_one quantifier scopes values) e ∙ one) out))
        (Contains-push_cases row v l i),
  )

  pub innermost_takes : (row : Row) (v : Literal) (taken : Option Literal)
      → is_true_one quantifier scopes values v ≡ true → is_better table scopes taken v ≡ true
      → IsInnermost quantifier scopes values row taken → IsInnermost quantifier scopes values (row ++ v ∷ []) (Some v)
  innermost_takes row v None is later before = (
    Contains-push row v,
    is,
    λ l i one. ⊎_elim
        (λ j. absurd (clash (is_true_one quantifier scopes values l) one (before l j)))
        (λ e. let same : depth_of scopes v.variable ≡ depth_of scopes l.variable =
        ap (λ (m : Literal). depth_of scopes m.variable) e in omega arith)
        (Contains-push_cases row v l i),
  )
  innermost_takes row v (Some taken) is later before = (
    Contains-push row v,
    is,
    λ l i one. ⊎_elim
        (λ j. let most = before.2 l j one in
        let below : depth_of scopes taken.variable ≤ depth_of scopes v.variable =
        better_le (depth_of scopes taken.variable) (depth_of scopes v.variable) (is_chosen table v) later in
        omega arith)
        (λ e. let same : depth_of scopes v.variable ≡ depth_of scopes l.variable =
        ap (λ (m : Literal). depth_of scopes m.variable) e in omega arith)
        (Contains-push_cases row v l i),
  )

  pub innermost_keeps : (row : Row) (v : Literal) (taken : Option Literal) → is_better table scopes taken v ≡ false
      → IsInnermost quantifier scopes values row taken → IsInnermost quantifier scopes values (row ++ v ∷ []) taken
  innermost_keeps row v None later before = absurd (true≢false later)
  innermost_keeps row v (Some taken) later before = (
    Contains-append_left row (v ∷ []) taken before.0,
    before.1,
    λ l i one. ⊎_elim
        (λ j. before.2 l j one)
        (λ e. let most : depth_of scopes v.variable ≤ depth_of scopes taken.variable =
        worse_le (depth_of scopes taken.variable) (depth_of scopes v.variable) (is_chosen table v) later in
        let same : depth_of scopes v.variable ≡ depth_of scopes l.variable =
        ap (λ (m : Literal). depth_of scopes m.variable) e in omega arith)
        (Contains-push_cases row v l i),
  )

-- literals by their truth

same_signs : (b p q : Bool) → same b p ≡ true → same b q ≡ true → p ≡ q
same_signs true true true e f = refl
same_signs true true false e f = absurd (false≢true f)
same_signs true false true e f = absurd (false≢true e)
same_signs true false false e f = refl
same_signs false true true e f = refl
same_signs false true false e f = absurd (false≢true e)
same_signs false false true e f = absurd (false≢true f)
same_signs false false false e f = refl

true_alike : (o : Option Bool) (p q : Bool) → is_true_of o p ≡ true → is_true_of o q ≡ true → p ≡ q
true_alike None p q e f = absurd (false≢true e)
true_alike (Some b) p q e f = same_signs b p q e f

-- two true literals over one variable are one
pub true_one : (values : Values) (l m : Literal) → l.variable ≡ m.variable → literal_true values l ≡ true
    → literal_true values m ≡ true → l ≡ m
true_one values l m e t u =
    let sign : l.positive ≡ m.positive =
    true_alike (values l.variable) l.positive m.positive t (ap (λ x. is_true_of (values x) m.positive) e ∙ u) in
    ap₂ (λ (x : ℕ) (b : Bool). record { variable = x; positive = b }) e sign

pub true_assigned : (o : Option Bool) (p : Bool) → is_true_of o p ≡ true → is_some o ≡ true
true_assigned None p t = t
true_assigned (Some b) p t = refl

-- an assigned variable is one of the prefix
pub known_on : (scopes : List Scope) (earlier trail : Trail) → IsOrderedAfter scopes earlier trail → (x : ℕ)
    → is_some (value_on trail x) ≡ true → Contains (all_variables scopes) x
known_on scopes earlier [] ordered x known = absurd (false≢true known)
known_on scopes earlier (p ∷ rest) ordered x known =
    ⊎_elim
    (λ t. subst (λ y. Contains (all_variables scopes) y) (eqb-true p.literal.variable x t) ordered.0)
    (λ f. known_on scopes (earlier ++ p ∷ []) rest ordered.3 x (ap is_some (sym (value_past p rest x f)) ∙ known))
    (cases_Bool (nat_eq p.literal.variable x))

either_of : (o : Option Quant) → is_some o ≡ true → (is_of o Exists ≡ true) ⊎ (is_of o Forall ≡ true)
either_of None known = absurd (false≢true known)
either_of (Some Exists) known = inl refl
either_of (Some Forall) known = inr refl

-- a true literal is existential or universal
pub quantified : (scopes : List Scope) (trail : Trail) → IsOrderedTrail scopes trail → (l : Literal)
    → literal_true (value_on trail) l ≡ true → (is_pivot Exists scopes l ≡ true) ⊎ (is_pivot Forall scopes l ≡ true)
quantified scopes trail ordered l t =
    either_of (quantifier_of scopes l.variable)
    (has_quantifier scopes l.variable
    (known_on scopes [] trail ordered l.variable (true_assigned (value_on trail l.variable) l.positive t)))

not_both : (o : Option Quant) → is_of o Exists ≡ true → is_of o Forall ≡ true → ⊥
not_both None e f = false≢true e
not_both (Some Exists) e f = false≢true f
not_both (Some Forall) e f = false≢true e

-- the table

signs : (a b : Bool) → beq a b ≡ true → a ≡ b
signs true true e = refl
signs true false e = absurd (false≢true e)
signs false true e = absurd (false≢true e)
signs false false e = refl

module _ (scopes : List Scope) (values : Values) (matrix : List Row) where
  pub choices_nil : AreChoices scopes values matrix []
  choices_nil x l e = absurd (let g : None ≡ Some l = e in true≢false (sym (ap is_some g)))

  signed : (table : Choices) (l : Literal) (o : Option Literal) → chosen_at table l.variable ≡ o
      → AreChoices scopes values matrix table → has_sign o l.positive ≡ true → chosen_at table l.variable ≡ Some l
  signed table l None at are sign = absurd (false≢true sign)
  signed table l (Some m) at are sign =
      let is = are l.variable m at in
      at ∙ ap Some
      (ap₂ (λ (x : ℕ) (b : Bool). record { variable = x; positive = b }) is.0 (signs m.positive l.positive sign))

  -- what the test finds is chosen
  pub chosen_is : (table : Choices) → AreChoices scopes values matrix table → (l : Literal) → is_chosen table l ≡ true
      → chosen_at table l.variable ≡ Some l
  chosen_is table are l sign = signed table l (chosen_at table l.variable) refl are sign

  -- one more choice
  module _ (old new : Choices) (m : Literal) (are : AreChoices scopes values matrix old) (chooses : Chooses old new m)
      (may : MayCover scopes values matrix m) where
    chosen_new : (x : ℕ) → x ≡ m.variable → chosen_at new x ≡ Some m
    chosen_new x e = chooses x ∙ cond-true (nat_eq x m.variable) (Some m) (chosen_at old x) (eq-eqb x m.variable e)

    pub choices_more : AreChoices scopes values matrix new
    choices_more x l at =
        ⊎_elim
        (λ t.
        let is : Some m ≡ Some l = sym (chosen_new x (eqb-true x m.variable t)) ∙ at in
        let same : m ≡ l = cc in
        subst (λ (k : Literal). (k.variable ≡ x) × MayCover scopes values matrix k) same
        (sym (eqb-true x m.variable t), may))
        (λ f. are x l (sym (chooses x ∙ cond-false (nat_eq x m.variable) (Some m) (chosen_at old x) f) ∙ at))
        (cases_Bool (nat_eq x m.variable))

    -- a clause that was hit is hit
    pub hit_stays : (clause : Row) → IsHit old clause → IsHit new clause
    hit_stays clause hit =
        let l = hit.0 in
        ⊎_elim
        (λ t.
        let e = eqb-true l.variable m.variable t in
        let was = are l.variable l hit.2 in
        let same : m ≡ l = true_one values m l (sym e) may.is_true was.1.is_true in
        (l, hit.1, chosen_new l.variable e ∙ ap Some same))
        (λ f. (
          l,
          hit.1,
          chooses l.variable
              ∙ (cond-false (nat_eq l.variable m.variable) (Some m) (chosen_at old l.variable) f ∙ hit.2),
        ))
        (cases_Bool (nat_eq l.variable m.variable))

    -- and so is one with the chosen literal
    pub hit_now : (clause : Row) → Contains clause m → IsHit new clause
    hit_now clause i = (m, i, chosen_new m.variable refl)

  -- what may stand in a cover

  pub may_existential : (clause : Row) (m : Literal) → Contains matrix clause
      → IsInnermost Exists scopes values clause (Some m) → MayCover scopes values matrix m
  may_existential clause m stands taken =
      let parts = and_parts (is_pivot Exists scopes m) (literal_true values m) taken.1 in
      record {
        is_true = parts.1;
        clause = clause;
        stands = stands;
        holds = taken.0;
        latest = λ existential l i one. taken.2 l i one;
        alone = λ universal l i. absurd (not_both (quantifier_of scopes m.variable) parts.0 universal);
      }

  pub may_universal : (clause : Row) (m : Literal) → Contains matrix clause → Contains clause m
      → is_true_one Forall scopes values m ≡ true
      → ((l : Literal) → Contains clause l → is_true_one Exists scopes values l ≡ false)
      → MayCover scopes values matrix m
  may_universal clause m stands holds one none =
      let parts = and_parts (is_pivot Forall scopes m) (literal_true values m) one in
      record {
        is_true = parts.1;
        clause = clause;
        stands = stands;
        holds = holds;
        latest = λ existential l i one. absurd (not_both (quantifier_of scopes m.variable) existential parts.0);
        alone = λ universal l i. none l i;
      }

  -- a clause of which nothing is chosen has no true existential literal
  pub none_existential : (table : Choices) (clause : Row) → Contains matrix clause
      → AreHitWith Exists scopes values matrix table → ((l : Literal) → Contains clause l → is_chosen table l ≡ false)
      → (l : Literal) → Contains clause l → is_true_one Exists scopes values l ≡ false
  none_existential table clause stands hit missed l i =
      ⊎_elim
      (λ t.
      let at = hit clause l stands i t in
      let m = at.0 in
      absurd (clash (is_chosen table m) (ap (λ (o : Option Literal). has_sign o m.positive) at.2 ∙ beq_self m.positive)
      (missed m at.1)))
      (λ f. f)
      (cases_Bool (is_true_one Exists scopes values l))
    where
      beq_self : (b : Bool) → beq b b ≡ true
      beq_self true = refl
      beq_self false = refl

-- with one clause more what may stand in a cover still may
choices_longer : (scopes : List Scope) (values : Values) (clauses : List Row) (clause : Row) (table : Choices)
    → AreChoices scopes values clauses table → AreChoices scopes values (clauses ++ clause ∷ []) table
choices_longer scopes values clauses clause table are x l at =
    let is = are x l at in (
      is.0,
      record {
        is_true = is.1.is_true;
        clause = is.1.clause;
        stands = Contains-append_left clauses (clause ∷ []) is.1.clause is.1.stands;
        holds = is.1.holds;
        latest = is.1.latest;
        alone = is.1.alone;
      },
    )

-- the first pass, one clause further
module _ (scopes : List Scope) (values : Values) (clauses others : List Row) (clause : Row) where
  pub existential_skip : (table : Choices) → IsInnermost Exists scopes values clause None
      → AreChosenBut scopes values others clauses table
      → AreChosenBut scopes values (others ++ clause ∷ []) (clauses ++ clause ∷ []) table
  existential_skip table none was = record {
    choices = choices_longer scopes values clauses clause table was.choices;
    existential =
        λ c l i j one. ⊎_elim
        (λ k. was.existential c l k j one)
        (λ e. absurd (clash (is_true_one Exists scopes values l) one
        (none l (subst (λ (r : Row). Contains r l) (sym e) j))))
        (Contains-push_cases clauses clause c i);
    hit =
        λ c i. ⊎_elim
        (λ k. ⊎_elim (λ o. inl (Contains-append_left others (clause ∷ []) c o)) inr (was.hit c k))
        (λ e. inl (subst (λ (r : Row). Contains (others ++ clause ∷ []) r) e (Contains-push others clause)))
        (Contains-push_cases clauses clause c i);
    among =
        λ c i. ⊎_elim
        (λ o. Contains-append_left clauses (clause ∷ []) c (was.among c o))
        (λ e. subst (λ (r : Row). Contains (clauses ++ clause ∷ []) r) e (Contains-push clauses clause))
        (Contains-push_cases others clause c i);
  }

  pub existential_takes : (old new : Choices) (m : Literal) → IsInnermost Exists scopes values clause (Some m)
      → Chooses old new m → AreChosenBut scopes values others clauses old
      → AreChosenBut scopes values others (clauses ++ clause ∷ []) new
  existential_takes old new m taken chooses was =
      let longer = clauses ++ clause ∷ [] in
      let are = choices_longer scopes values clauses clause old was.choices in
      let may = may_existential scopes values longer clause m (Contains-push clauses clause) taken in
      let stays = hit_stays scopes values longer old new m are chooses may in
      let now : (c : Row) → clause ≡ c → IsHit new c =
      λ c e. hit_now scopes values longer old new m are chooses may c
      (subst (λ (r : Row). Contains r m) e taken.0) in
      record {
        choices = choices_more scopes values longer old new m are chooses may;
        existential =
            λ c l i j one. ⊎_elim (λ k. stays c (was.existential c l k j one)) (now c)
            (Contains-push_cases clauses clause c i);
        hit =
            λ c i. ⊎_elim (λ k. ⊎_elim inl (λ h. inr (stays c h)) (was.hit c k)) (λ e. inr (now c e))
            (Contains-push_cases clauses clause c i);
        among = λ c o. Contains-append_left clauses (clause ∷ []) c (was.among c o);
      }

-- the second pass, one of the others further
module _ (scopes : List Scope) (values : Values) (clauses others : List Row) (clause : Row) where
  hit_next : (table : Choices) → IsHit table clause → AreHitBut (clause ∷ others) clauses table
      → AreHitBut others clauses table
  hit_next table hit before c i =
      ⊎_elim
      (λ listed. ⊎_elim (λ e. inr (subst (λ (r : Row). IsHit table r) e hit)) inl
      (contains_cons clause others c listed))
      inr
      (before c i)

  pub universal_skip : (table : Choices) → ((l : Literal) × Contains clause l × IsTrue (is_chosen table l))
      → AreChosenBut scopes values (clause ∷ others) clauses table → AreChosenBut scopes values others clauses table
  universal_skip table hit was = record {
    choices = was.choices;
    existential = was.existential;
    hit = hit_next table (hit.0, hit.1, chosen_is scopes values clauses table was.choices hit.0 hit.2) was.hit;
    among = λ c o. was.among c (contains_tail clause others c o);
  }

  pub universal_takes : (old new : Choices) (m : Literal) → IsInnermost Forall scopes values clause (Some m)
      → ((l : Literal) → Contains clause l → is_chosen old l ≡ false) → Chooses old new m
      → AreChosenBut scopes values (clause ∷ others) clauses old → AreChosenBut scopes values others clauses new
  universal_takes old new m taken missed chooses was =
      let stands : Contains clauses clause = was.among clause (contains_head clause others) in
      let may =
      may_universal scopes values clauses clause m stands taken.0 taken.1
      (none_existential scopes values clauses old clause stands was.existential missed) in
      let stays = hit_stays scopes values clauses old new m was.choices chooses may in
      record {
        choices = choices_more scopes values clauses old new m was.choices chooses may;
        existential = λ c l i j one. stays c (was.existential c l i j one);
        hit =
            hit_next new (hit_now scopes values clauses old new m was.choices chooses may clause taken.0)
            (λ c i. ⊎_elim inl (λ h. inr (stays c h)) (was.hit c i));
        among = λ c o. was.among c (contains_tail clause others c o);
      }

-- nothing is left
pub hit_all : (scopes : List Scope) (values : Values) (clauses : List Row) (table : Choices)
    → AreChosenBut scopes values [] clauses table → AreHit clauses table
hit_all scopes values clauses table was c i =
    ⊎_elim (λ listed. absurd (contains_nil c listed)) (λ there. there) (was.hit c i)

-- nothing is chosen yet
pub none_chosen : (scopes : List Scope) (values : Values) → AreChosenBut scopes values [] [] []
none_chosen scopes values = record {
  choices = choices_nil scopes values [];
  existential = λ c l i j one. absurd (contains_nil c i);
  hit = λ c i. absurd (contains_nil c i);
  among = λ c o. o;
}

-- a true clause without a true existential literal has a true universal one
pub universal_there : (scopes : List Scope) (trail : Trail) (matrix : List Row) (table : Choices) (clause : Row)
    → IsOrderedTrail scopes trail → clause_true (value_on trail) clause ≡ true → Contains matrix clause
    → AreHitWith Exists scopes (value_on trail) matrix table
    → ((l : Literal) → Contains clause l → is_chosen table l ≡ false)
    → IsInnermost Forall scopes (value_on trail) clause None → ⊥
universal_there scopes trail matrix table clause ordered satisfied stands hit missed none =
    let found = any_at (literal_true (value_on trail)) clause satisfied in
    let l = found.0 in
    ⊎_elim
    (λ e. clash (is_true_one Exists scopes (value_on trail) l)
    (and_from (is_pivot Exists scopes l) (literal_true (value_on trail) l) e found.2)
    (none_existential scopes (value_on trail) matrix table clause stands hit missed l found.1))
    (λ f. clash (is_true_one Forall scopes (value_on trail) l)
    (and_from (is_pivot Forall scopes l) (literal_true (value_on trail) l) f found.2) (none l found.1))
    (quantified scopes trail ordered l found.2)
