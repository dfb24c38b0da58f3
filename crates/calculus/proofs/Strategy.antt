-- A side that always has a value to choose decides the truth of a quantified matrix.
use Rattle.std.proofs.Common.{◌≡◌, ◌≢◌, ℕ, ◌<◌, ◌≤◌, ◌⊎◌, Bool, true, false, cond, List, [], ◌∷◌, Contains, Option, Some, None, sym, refl, ap, ◌∙◌, inl, inr, ⊎_elim, arith, nat_eq}
use mathlib.Core.Path.{fun_ext}
use Rattle.std.proofs.lemmas.Bool.{eq-eqb, ne_eqb, eqb-true, cond-true, cond-false, cases_Bool, true≢false}
use Rattle.prefix.specs.declared.quant.Quant.{Quant}
use Rattle.prefix.specs.declared.quant.Quant.TheVariants.{Exists, Forall}
use Rattle.prefix.specs.Literal.{Literal}
use Rattle.prefix.specs.Scopes.{BoundVariable, variables_of}
use Rattle.prefix.specs.Sides.{bad_of}
use Rattle.truth.specs.Matrix.{Values, matrix_true, with_value}
use Rattle.truth.specs.Truth.{assumed_value, joined, joined_under, truth_under_from}
use Rattle.calculus.specs.Rows.{Row, Assignment}
use Rattle.calculus.specs.Plays.{assign}
use Rattle.calculus.proofs.Lists.{contains_cons, contains_nil, contains_head, contains_tail}

-- levels never fall along the list, and no variable stands twice
abbrev pub IsOrdered : (ℕ → ℕ) → List ℕ → Type 0
IsOrdered level [] = Unit {0}
IsOrdered level (x ∷ xs) = ((y : ℕ) → Contains xs y → level x ≤ level y) × (Contains xs x → ⊥) × IsOrdered level xs

pub assign_here : (v : Assignment) (x : ℕ) (b : Bool) → assign v x b x ≡ b
assign_here v x b = cond-true (nat_eq x x) b (v x) (eq-eqb x x refl)

pub assign_other : (v : Assignment) (x : ℕ) (b : Bool) (y : ℕ) → (x ≡ y → ⊥) → assign v x b y ≡ v y
assign_other v x b y h = cond-false (nat_eq x y) b (v y) (ne_eqb x y h)

-- the values of some variables alone
unfoldable pub within : (ℕ → Bool) → Assignment → Values
within inside v y = cond (inside y) (Some (v y)) None

pub within_in : (inside : ℕ → Bool) (v : Assignment) (y : ℕ) → inside y ≡ true → within inside v y ≡ Some (v y)
unfolding within
within_in inside v y t = cond-true (inside y) (Some (v y)) None t

within_same : (inside : ℕ → Bool) (v w : Assignment) (y : ℕ) → v y ≡ w y → within inside v y ≡ within inside w y
unfolding within
within_same inside v w y e = ap (λ b. cond (inside y) (Some b) None) e

pub within_none : (inside : ℕ → Bool) (v : Assignment) (y : ℕ) → inside y ≡ false → within inside v y ≡ None
unfolding within
within_none inside v y f = cond-false (inside y) (Some (v y)) None f

joined_winner : (pivot q : Quant) (c : Bool) (f : Bool → Bool) → q ≢ pivot → f c ≡ bad_of pivot → joined q (f false)
    (f true) ≡ bad_of pivot
joined_winner Exists Exists c f ne h = absurd (ne refl)
joined_winner Forall Forall c f ne h = absurd (ne refl)
joined_winner Exists Forall true f ne h = and_right (f false) (f true) h
  where
    and_right : (a b : Bool) → b ≡ false → joined Forall a b ≡ false
    and_right true b h = h
    and_right false b h = refl
joined_winner Exists Forall false f ne h = and_left (f false) (f true) h
  where
    and_left : (a b : Bool) → a ≡ false → joined Forall a b ≡ false
    and_left true b h = absurd (true≢false h)
    and_left false b h = refl
joined_winner Forall Exists true f ne h = or_right (f false) (f true) h
  where
    or_right : (a b : Bool) → b ≡ true → joined Exists a b ≡ true
    or_right true b h = refl
    or_right false b h = h
joined_winner Forall Exists false f ne h = or_left (f false) (f true) h
  where
    or_left : (a b : Bool) → a ≡ true → joined Exists a b ≡ true
    or_left true b h = refl
    or_left false b h = absurd (true≢false (sym h))

joined_loser : (pivot q : Quant) (s t : Bool) → q ≡ pivot → s ≡ bad_of pivot → t ≡ bad_of pivot
    → joined q s t ≡ bad_of pivot
joined_loser Exists Exists true t e h k = absurd (true≢false h)
joined_loser Exists Exists false t e h k = k
joined_loser Exists Forall s t e h k = absurd (cc)
joined_loser Forall Exists s t e h k = absurd (cc)
joined_loser Forall Forall true t e h k = k
joined_loser Forall Forall false t e h k = absurd (true≢false (sym h))

pub same_quantifier_cases : (a : Option Quant) (b : Quant) → (a ≡ Some b) ⊎ (a ≢ Some b)
same_quantifier_cases None b = inr (λ e. cc)
same_quantifier_cases (Some Exists) Exists = inl refl
same_quantifier_cases (Some Forall) Forall = inl refl
same_quantifier_cases (Some Exists) Forall = inr (λ e. cc)
same_quantifier_cases (Some Forall) Exists = inr (λ e. cc)

joined_by : (pivot q : Quant) (o : Option Bool) (f : Bool → Bool) → ((b : Bool) → o ≡ Some b → f b ≡ bad_of pivot)
    → (o ≡ None → q ≢ pivot → (c : Bool) × (f c ≡ bad_of pivot))
    → (o ≡ None → q ≡ pivot → (f false ≡ bad_of pivot) × (f true ≡ bad_of pivot)) → joined_under o q f ≡ bad_of pivot
joined_by pivot q (Some b) f assumed winner loser = assumed b refl
joined_by pivot q None f assumed winner loser =
    ⊎_elim (λ e. let same : q ≡ pivot = cc in let r = loser refl same in joined_loser pivot q (f false) (f true) same
    r.0 r.1)
    (λ ne. let r = winner refl (λ e. ne (ap Some e)) in joined_winner pivot q r.0 f (λ e. ne (ap Some e)) r.1)
    (same_quantifier_cases (Some q) pivot)

-- values that are as assumed and as chosen on a list of variables
pub record Plays (pivot : Quant) (quantifier : ℕ → Option Quant) (assumed : ℕ → Option Bool)
    (strategy : Assignment → ℕ → Bool) (xs : List ℕ) (w : Assignment) : Type 0 where
  pub given : (y : ℕ) (b : Bool) → Contains xs y → assumed y ≡ Some b → w y ≡ b
  pub chosen : (y : ℕ) → Contains xs y → quantifier y ≢ Some pivot → assumed y ≡ None → w y ≡ strategy w y

-- what is fixed about the values of the variables outside the list
abbrev pub AgreesOff : List ℕ → Assignment → Assignment → Type 0
AgreesOff xs w v = (y : ℕ) → (Contains xs y → ⊥) → w y ≡ v y

module _ (pivot : Quant) (quantifier : ℕ → Option Quant) (level : ℕ → ℕ) (assumptions : List Literal)
    (clauses : List Row) (inside : ℕ → Bool) (strategy : Assignment → ℕ → Bool)
    (local : (v w : Assignment) (x : ℕ) → ((y : ℕ) → level y < level x → v y ≡ w y) → strategy v x ≡ strategy w x) where
  abbrev wins_from : List ℕ → Assignment → Type 0
  wins_from xs v = (w : Assignment) → AgreesOff xs w v → Plays pivot quantifier (assumed_value assumptions) strategy xs
      w → matrix_true (within inside w) clauses ≡ bad_of pivot

  -- one more variable with a value that plays
  wins_on : (x : ℕ) (xs : List ℕ) (v : Assignment) (c : Bool) → (Contains xs x → ⊥) → wins_from (x ∷ xs) v
      → ((w : Assignment) → AgreesOff (x ∷ xs) w v → w x ≡ c
      → ((b : Bool) → assumed_value assumptions x ≡ Some b → w x ≡ b)
      × (quantifier x ≢ Some pivot → assumed_value assumptions x ≡ None → w x ≡ strategy w x))
      → wins_from xs (assign v x c)
  wins_on x xs v c new wins here w agrees plays =
      let at_x : w x ≡ c = agrees x new ∙ assign_here v x c in
      let off : AgreesOff (x ∷ xs) w v = λ y out. agrees y (λ i. out (contains_tail x xs y i)) ∙ assign_other v x c y
      (λ e. out (rw e (contains_head y xs))) in
      let now = here w off at_x in
      wins w off (record {
        given = λ y b i e. ⊎_elim (λ same. rw (← same) (now.0 b (rw same e))) (λ j. plays.given y b j e)
            (contains_cons x xs y i);
        chosen = λ y i q n. ⊎_elim (λ same. rw (← same) (now.1 (rw same q) (rw same n))) (λ j. plays.chosen y j q n)
            (contains_cons x xs y i);
      })

  -- the partial values so far are the total ones outside the list
  abbrev Fits : List ℕ → Values → Assignment → Type 0
  Fits xs σ v = (y : ℕ) → (Contains xs y → ⊥) → σ y ≡ within inside v y

  fits_on : (x : ℕ) (xs : List ℕ) (σ : Values) (v : Assignment) (b : Bool) → inside x ≡ true → Fits (x ∷ xs) σ v
      → Fits xs (with_value x b σ) (assign v x b)
  fits_on x xs σ v b in_x fits y out =
      ⊎_elim
      (λ t. let e : y ≡ x = eqb-true y x t in cond-true (nat_eq y x) (Some b) (σ y) t
      ∙ (sym (ap Some (ap (assign v x b) e ∙ assign_here v x b))
      ∙ sym (within_in inside (assign v x b) y (ap inside e ∙ in_x))))
      (λ f.
      let apart : x ≡ y → ⊥ = λ e. true≢false (sym (eq-eqb y x (sym e)) ∙ f) in
      cond-false (nat_eq y x) (Some b) (σ y) f
      ∙ (fits y (λ i. ⊎_elim (λ e. apart e) (λ j. out j) (contains_cons x xs y i)) ∙ within_same inside v
      (assign v x b) y (sym (assign_other v x b y apart))))
      (cases_Bool (nat_eq y x))

  pub decided : (order : List BoundVariable)
      → ((b : BoundVariable) → Contains order b → (quantifier b.variable ≡ Some b.quantifier)
      × (inside b.variable ≡ true)) → IsOrdered level (variables_of order) → (σ : Values) (v : Assignment)
      → Fits (variables_of order) σ v → wins_from (variables_of order) v → truth_under_from assumptions order clauses
      σ ≡ bad_of pivot
  decided [] bound ordered σ v fits wins =
      let leaf : σ ≡ within inside v = fun_ext (λ y. fits y (λ i. contains_nil y i)) in
      ap (λ u. matrix_true u clauses) leaf ∙ wins v (λ y out. refl)
      (record { given = λ y b i e. absurd (contains_nil y i); chosen = λ y i q n. absurd (contains_nil y i) })
  decided (a ∷ order) bound ordered σ v fits wins =
      let x = a.variable in
      let xs = variables_of order in
      let of_x = bound a (contains_head a order) in
      let T = λ (c : Bool). truth_under_from assumptions order clauses (with_value x c σ) in
      let earlier : (w : Assignment) → AgreesOff (x ∷ xs) w v → strategy v x ≡ strategy w x = λ w off. local v w x
      (λ y below. sym (off y (λ i.
      ⊎_elim (λ e. let same : level x ≡ level y = ap level e in omega arith)
      (λ j. let above : level x ≤ level y = ordered.0 y j in omega arith) (contains_cons x xs y i)))) in
      let c = strategy v x in
      let go : (b : Bool) → wins_from xs (assign v x b) → T b ≡ bad_of pivot = λ b won. decided order
      (λ d i. bound d (contains_tail a order d i)) ordered.2 (with_value x b σ) (assign v x b)
      (fits_on x xs σ v b of_x.1 fits) won in
      joined_by pivot a.quantifier (assumed_value assumptions x) T
      (λ b e. go b
      (wins_on x xs v b ordered.1 wins
      (λ w off at_x. (
        (λ d f. let g : Some b ≡ Some d = sym e ∙ f in cc),
        (λ ne n. absurd (let g : Some b ≡ None = sym e ∙ n in cc)),
      ))))
      (λ n ne. (
        c,
        go c (wins_on x xs v c ordered.1 wins
            (λ w off at_x. ((λ d f. absurd (let g : Some d ≡ None = sym f ∙ n in cc)), (λ k m. at_x ∙ earlier w off)))),
      ))
      (λ n same.
      let both : (b : Bool) → T b ≡ bad_of pivot =
      λ b. go b
      (wins_on x xs v b ordered.1 wins
      (λ w off at_x. (
        (λ d f. absurd (let g : Some d ≡ None = sym f ∙ n in cc)),
        (λ ne k. absurd (ne (of_x.0 ∙ ap Some same))),
      ))) in
      (both false, both true))
