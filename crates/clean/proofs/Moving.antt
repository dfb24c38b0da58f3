-- Trails with the same literals.
use Rattle.std.proofs.Common.{◌≡◌, ℕ, zero, suc, ◌+◌, ◌<◌, Bool, true, false, List, [], ◌∷◌, length, take, set, get_or, Option, Some, None, is_some, refl, sym, subst, ap, ap₂, ◌∙◌, inl, inr, ⊎_elim, arith, nat_eq}
use Rattle.std.specs.Prelude.{IsTrue}
use Rattle.std.proofs.lemmas.Bool.{cases_Bool, cond-true, cond-false, eqb-true, ne_eqb, eq-eqb, false≢true, true≢false}
use Rattle.std.proofs.lemmas.List.{length-set, get_or-set_same, get_or-set_other}
use Rattle.prefix.specs.declared.quant.Quant.{Quant}
use Rattle.prefix.specs.declared.quant.Quant.TheVariants.{Exists, Forall}
use Rattle.prefix.specs.Literal.{Literal, negation}
use Rattle.prefix.specs.Scopes.{Scope, quantifier_of}
use Rattle.truth.specs.Matrix.{Values}
use Rattle.truth.specs.Truth.{assumed_value}
use Rattle.calculus.specs.Rows.{Row, is_bad_at, is_pivot}
use Rattle.calculus.specs.Search.{Cause, Placed, Trail, IsCleanBut, IsPending, IsUnitIn, before_on, cause_on, is_bad_if, is_bad_now, is_open, literals_on, place_on, value_on}
use Rattle.calculus.specs.Search.Cause.{Propagated}
use Rattle.calculus.proofs.RowLemmas.{same_true}
use Rattle.calculus.proofs.Trails.{cause_here, cause_past, places_apart}
use Rattle.trail.specs.State.{TrailState, IsPropagated, is_marked, with_clean, with_reason}
use Rattle.trail.proofs.Marking.{literals_stay, map_reason, places_same, reason_here, reason_past}
use Rattle.trail.proofs.Placing.{placed_known}
use Rattle.trail.proofs.Tables.{cause_none}
use Rattle.derive.specs.State.{State, row_of}
use Rattle.clean.specs.Marks.{MarksMore, kind_of, marks_in}
use Rattle.clean.specs.Reasons.{HaveReasons, IsCleanReason, IsOnTheWay, IsReason, IsReducedStep}
use Rattle.clean.proofs.Fronts.{before_take, place_some}

pub literals_take : (n : ℕ) (trail : Trail) → literals_on (take n trail) ≡ take n (literals_on trail)
literals_take zero trail = refl
literals_take (suc n) [] = refl
literals_take (suc n) (p ∷ trail) = ap (λ (ls : List Literal). p.literal ∷ ls) (literals_take n trail)

module _ (now t : Trail) (same : literals_on now ≡ literals_on t) where
  pub values : value_on now ≡ value_on t
  values = ap (λ (ls : List Literal). λ (x : ℕ). assumed_value ls x) same

  pub places : (y : ℕ) → place_on now y ≡ place_on t y
  places y = places_same now t y same

  pub front_literals : (n : ℕ) → literals_on (take n now) ≡ literals_on (take n t)
  front_literals n = literals_take n now ∙ (ap (take n) same ∙ sym (literals_take n t))

  pub front_values : (n : ℕ) → value_on (take n now) ≡ value_on (take n t)
  front_values n = ap (λ (ls : List Literal). λ (x : ℕ). assumed_value ls x) (front_literals n)

  pub before_values : (y : ℕ) → value_on (before_on now y) ≡ value_on (before_on t y)
  before_values y =
      ap value_on (before_take now y) ∙ (front_values (place_on now y)
      ∙ (ap (λ n. value_on (take n t)) (places y) ∙ sym (ap value_on (before_take t y))))

  pub clean_moves : (pivot : Quant) (kept : Literal) (row : Row) → IsCleanBut pivot t kept row
      → IsCleanBut pivot now kept row
  clean_moves pivot kept row clean l i =
      ⊎_elim inl
      (λ r. inr (
        ap (λ (v : Values). is_bad_now pivot v l) values ∙ r.0,
        λ known. let below = r.1 (ap (λ (v : Values). is_some (v kept.variable)) (sym values) ∙ known) in
            let a = places l.variable in let b = places kept.variable in omega arith,
      ))
      (clean l i)

-- a row on the way sees values alone
pub way_moves : (pivot : Quant) (scopes : List Scope) (a b : Trail) (kept : Option Literal) (row : Row)
    → value_on a ≡ value_on b → IsOnTheWay pivot scopes a kept row → IsOnTheWay pivot scopes b kept row
way_moves pivot scopes a b kept row same way = record {
  pending = subst (λ (v : Values). IsPending pivot scopes v kept row) same way.pending;
  keeps = λ k e. let was = way.keeps k e in (was.0, was.1, ap (λ (v : Values). is_open v k) (sym same) ∙ was.2);
}

pub reduced_of : (pivot : Quant) (scopes : List Scope) (d : State) (id : ℕ) → IsReducedStep pivot scopes d id
    → IsReducedStep pivot scopes d id
reduced_of pivot scopes d id s = s

-- a bad literal is told by its variable
pub bad_same : (pivot : Quant) (values : Values) (l m : Literal) → l.variable ≡ m.variable
    → is_bad_now pivot values l ≡ true → is_bad_now pivot values m ≡ true → l ≡ m
bad_same pivot values l m e bad_l bad_m =
    go (values m.variable) (ap (λ x. is_bad_if pivot (values x) l) (sym e) ∙ bad_l) bad_m
  where
    signs : (q : Quant) (b p k : Bool) (x : ℕ) → is_bad_at q b (record { variable = x; positive = p }) ≡ true
        → is_bad_at q b (record { variable = x; positive = k }) ≡ true → p ≡ k
    signs q b true true x f g = refl
    signs q b false false x f g = refl
    signs Exists true true false x f g = absurd (false≢true f)
    signs Exists false true false x f g = absurd (false≢true g)
    signs Forall true true false x f g = absurd (false≢true g)
    signs Forall false true false x f g = absurd (false≢true f)
    signs Exists true false true x f g = absurd (false≢true g)
    signs Exists false false true x f g = absurd (false≢true f)
    signs Forall true false true x f g = absurd (false≢true f)
    signs Forall false false true x f g = absurd (false≢true g)

    go : (o : Option Bool) → is_bad_if pivot o l ≡ true → is_bad_if pivot o m ≡ true → l ≡ m
    go None f g = absurd (false≢true f)
    go (Some b) f g = ap₂ (λ (x : ℕ) (p : Bool). record { variable = x; positive = p }) e
        (signs pivot b l.positive m.positive 0 f g)

-- a caused variable is assigned
pub caused : (trail : Trail) (x : ℕ) (c : Cause) → cause_on trail x ≡ Some c → is_some (value_on trail x) ≡ true
caused trail x c cause = by (value_on trail x) refl
  where
    by : (o : Option Bool) → value_on trail x ≡ o → is_some (value_on trail x) ≡ true
    by None e = absurd (false≢true (ap is_some (sym (cause_none trail x e) ∙ cause)))
    by (Some b) e = ap is_some e

-- causes where a reason changed
module _ (x id : ℕ) where
  pub cause_own : (trail : Trail) (c : Cause) → cause_on trail x ≡ Some c
      → cause_on (with_reason trail x id) x ≡ Some (Propagated id)
  cause_own [] c e = absurd (false≢true (ap is_some e))
  cause_own (p ∷ rest) c e =
      ⊎_elim
      (λ t. ap (λ (r : Trail). cause_on r x) (reason_here x id 0 p rest t)
      ∙ cause_here (record { literal = p.literal; cause = Propagated id }) rest x t)
      (λ f. ap (λ (r : Trail). cause_on r x) (reason_past x id 0 p rest f)
      ∙ (cause_past p (with_reason rest x id) x f ∙ cause_own rest c (sym (cause_past p rest x f) ∙ e)))
      (cases_Bool (nat_eq p.literal.variable x))

  pub cause_else : (trail : Trail) (y : ℕ) → (x ≡ y → ⊥) → cause_on (with_reason trail x id) y ≡ cause_on trail y
  cause_else [] y differs = refl
  cause_else (p ∷ rest) y differs =
      ⊎_elim
      (λ t.
      let is = eqb-true p.literal.variable x t in
      let past : nat_eq p.literal.variable y ≡ false = ne_eqb p.literal.variable y (λ e. differs (sym is ∙ e)) in
      ap (λ (r : Trail). cause_on r y) (reason_here x id 0 p rest t)
      ∙ (cause_past (record { literal = p.literal; cause = Propagated id }) rest y past
      ∙ sym (cause_past p rest y past)))
      (λ f.
      ap (λ (r : Trail). cause_on r y) (reason_past x id 0 p rest f)
      ∙ ⊎_elim
      (λ h. cause_here p (with_reason rest x id) y h ∙ sym (cause_here p rest y h))
      (λ h. cause_past p (with_reason rest x id) y h ∙ (cause_else rest y differs ∙ sym (cause_past p rest y h)))
      (cases_Bool (nat_eq p.literal.variable y)))
      (cases_Bool (nat_eq p.literal.variable x))

pub marks_set : (marks : List Bool) (n : ℕ) → n < length marks → get_or marks n false ≡ false
    → marks_in (set marks n true) ≡ marks_in marks + 1
marks_set [] n below off = absurd (omega arith)
marks_set (b ∷ marks) zero below off =
    let none : marks_in (b ∷ marks) ≡ marks_in marks = cond-false b (suc (marks_in marks)) (marks_in marks) off in
    let one : marks_in (set (b ∷ marks) zero true) ≡ suc (marks_in marks) = refl in
    omega arith
marks_set (b ∷ marks) (suc n) below off =
    let later : marks_in (set marks n true) ≡ marks_in marks + 1 = marks_set marks n (omega arith) off in
    ⊎_elim
    (λ t. let one = cond-true b (suc (marks_in (set marks n true))) (marks_in (set marks n true)) t in
    let two = cond-true b (suc (marks_in marks)) (marks_in marks) t in
    let is : marks_in (set (b ∷ marks) (suc n) true) ≡ marks_in (b ∷ set marks n true) = refl in omega arith)
    (λ f. let one = cond-false b (suc (marks_in (set marks n true))) (marks_in (set marks n true)) f in
    let two = cond-false b (suc (marks_in marks)) (marks_in marks) f in
    let is : marks_in (set (b ∷ marks) (suc n) true) ≡ marks_in (b ∷ set marks n true) = refl in omega arith)
    (cases_Bool b)

-- a marked trail
module _ (t : TrailState) (x id was : ℕ) (cause : cause_on t.placed x ≡ Some (Propagated was))
    (long : length t.marks ≡ length t.placed) where
  abbrev now : TrailState
  now = with_clean t x id

  pub same_literals : literals_on now.placed ≡ literals_on t.placed
  same_literals = literals_stay x id was t.placed cause

  within : place_on t.placed x < length t.marks
  within = let low = place_some t.placed x (caused t.placed x (Propagated was) cause) in omega arith

  pub marked_own : is_marked now x ≡ true
  marked_own = ap (λ n. get_or (set t.marks (place_on t.placed x) true) n false)
      (places now.placed t.placed same_literals x) ∙ get_or-set_same t.marks (place_on t.placed x) true false within

  pub marked_else : (y : ℕ) → (x ≡ y → ⊥) → is_marked now y ≡ is_marked t y
  marked_else y differs =
      ap (λ n. get_or (set t.marks (place_on t.placed x) true) n false) (places now.placed t.placed same_literals y)
      ∙ get_or-set_other t.marks (place_on t.placed x) (place_on t.placed y) true false (λ e.
      let low = place_some t.placed x (caused t.placed x (Propagated was) cause) in
      let at : place_on t.placed y ≡ place_on t.placed x = e in
      let known = placed_known t.placed y (omega arith) in
      differs (places_apart t.placed x y (caused t.placed x (Propagated was) cause) known (sym at)))

  pub marks_more : is_marked t x ≡ false → MarksMore t now 1
  marks_more off = record {
    kinds = map_reason x id was (λ (p : Placed). record { literal = p.literal; cause = kind_of p.cause }) t.placed
        (λ l. refl) cause;
    depths = refl;
    long = length-set t.marks (place_on t.placed x) true;
    finished = refl;
    assigned = refl;
    restarts = refl;
    room = refl;
    allowed = refl;
    stay = λ y on.
        ⊎_elim
        (λ e. absurd (true≢false (sym on ∙ (ap (is_marked t) (sym (eqb-true x y e)) ∙ off))))
        (λ f. let differs : x ≡ y → ⊥ = (λ e. true≢false (sym (eq-eqb x y e) ∙ f)) in
        (marked_else y differs ∙ on, cause_else x id t.placed y differs))
        (cases_Bool (nat_eq x y));
    others = λ y off_now.
        ⊎_elim
        (λ e. absurd (true≢false (sym marked_own ∙ (ap (is_marked now) (eqb-true x y e) ∙ off_now))))
        (λ f. let differs : x ≡ y → ⊥ = (λ e. true≢false (sym (eq-eqb x y e) ∙ f)) in
        cause_else x id t.placed y differs)
        (cases_Bool (nat_eq x y));
    marked = marks_set t.marks (place_on t.placed x) within off;
  }

-- reasons where one is marked
pub reasons_marked : (pivot side : Quant) (scopes : List Scope) (d : State) (t : TrailState) (bad : Literal) (id : ℕ)
    → length t.marks ≡ length t.placed → IsTrue (is_pivot pivot scopes bad)
    → IsTrue (is_bad_now pivot (value_on t.placed) bad) → IsPropagated t.placed bad.variable
    → IsUnitIn pivot scopes (value_on (before_on t.placed bad.variable)) (row_of d id) (negation bad)
    → IsCleanReason pivot scopes d t.placed (negation bad) id → HaveReasons side scopes d t
    → HaveReasons side scopes d (with_clean t bad.variable id)
reasons_marked pivot side scopes d t bad id long pivot_type is_bad propagated unit reason have l at pivot_l bad_l
    cause = let x = bad.variable in
    let was = propagated.0 in
    let new = with_clean t x id in
    let same = same_literals t x id was propagated.1 long in
    let bad_then : is_bad_now side (value_on t.placed) l ≡ true = ap
    (λ (v : Values). is_bad_now side v l) (sym (values new.placed t.placed same)) ∙ bad_l in
    ⊎_elim
    (λ t_e.
    let e = eqb-true x l.variable t_e in
    let ids : Some (Propagated id) ≡ Some (Propagated at) =
    sym (cause_own x id t.placed (Propagated was) propagated.1) ∙ (ap (cause_on new.placed) e ∙ cause) in
    let is : id ≡ at = cc in
    let quant : Some side ≡ Some pivot = sym (same_true (quantifier_of scopes l.variable) side pivot_l)
    ∙ (ap (quantifier_of scopes) (sym e) ∙ same_true (quantifier_of scopes x) pivot pivot_type) in
    let sides : pivot ≡ side = cc in
    let literal : bad ≡ l = bad_same pivot (value_on t.placed) bad l e is_bad (subst
    (λ (q : Quant). is_bad_now q (value_on t.placed) l ≡ true) (sym sides) bad_then) in
    let own : IsReason pivot scopes d new (negation bad) id = record {
      step = reason.step;
      unit = subst (λ (v : Values). IsUnitIn pivot scopes v (row_of d id) (negation bad))
          (sym (before_values new.placed t.placed same x)) unit;
      clean = λ m. clean_moves new.placed t.placed same pivot (negation bad) (row_of d id) reason.clean;
    } in
    subst (λ (n : ℕ). IsReason side scopes d new (negation l) n) is (subst
    (λ (q : Quant). IsReason q scopes d new (negation l) id) sides (subst
    (λ (m : Literal). IsReason pivot scopes d new (negation m) id) literal own)))
    (λ f.
    let differs : x ≡ l.variable → ⊥ = (λ e. true≢false (sym (eq-eqb x l.variable e) ∙ f)) in
    let old = have l at pivot_l bad_then (sym (cause_else x id t.placed l.variable differs) ∙ cause) in
    record {
      step = old.step;
      unit = subst (λ (v : Values). IsUnitIn side scopes v (row_of d at) (negation l))
          (sym (before_values new.placed t.placed same l.variable)) old.unit;
      clean = λ m. clean_moves new.placed t.placed same side (negation l) (row_of d at)
          (old.clean (sym (marked_else t x id was propagated.1 long l.variable differs) ∙ m));
    })
    (cases_Bool (nat_eq x l.variable))
