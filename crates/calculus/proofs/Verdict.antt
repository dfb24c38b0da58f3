-- A proof decides the truth of the formula under its assumptions.
use Rattle.std.proofs.Common.{◌≡◌, ℕ, ◌<◌, ◌⊎◌, Bool, true, false, List, [], ◌∷◌, Contains, Option, Some, None, unwrap_or, sym, refl, ap, ◌∙◌, inl, inr, ⊎_elim}
use mathlib.Core.Path.{fun_ext}
use Rattle.std.specs.List.{list_any}
use Rattle.prefix.specs.Literal.{Literal}
use Rattle.prefix.specs.Scopes.{AreDistinct, Scope, all_variables, quantifier_of, is_among, prefix_order, variables_of}
use Rattle.prefix.specs.Sides.{bad_of}
use Rattle.prefix.specs.declared.quant.Quant.{Quant}
use Rattle.prefix.specs.declared.quant.Quant.TheVariants.{Exists, Forall}
use Rattle.truth.specs.Matrix.{same as same_bool, matrix_true, literal_true, clause_true, is_true_of, no_values, Values}
use Rattle.truth.specs.Truth.{assumed_value, truth_under}
use Rattle.calculus.specs.Derivations.{Inference, IsInput}
use Rattle.calculus.specs.Plays.{Follows, IsAllowed, first_forced}
use Rattle.calculus.specs.Rows.{Assignment, Row, depth_of, is_bad, is_bad_throughout, IsRow}
use Rattle.calculus.specs.Verdicts.{AreOuter}
use Rattle.calculus.proofs.Sound.{AreSoundSteps, IsSound}
use Rattle.std.proofs.lemmas.Bool.{true≢false, false_from_ne_true, false≢true}
use Rattle.std.proofs.lemmas.List.Elements.{Contains-append_right}
use Rattle.calculus.proofs.Lists.{among_at, among_from, contains_nil, contains_head, all_at, all_from, any_at, any_from}
use Rattle.calculus.proofs.Levels.{order_ordered, outer_level, bound_quantifier, bound_among}
use Rattle.truth.proofs.OrderLemmas.{variables_of-prefix_order}
use Rattle.calculus.proofs.Strategy.{decided, same_quantifier_cases, Plays, within, within_in, within_none}
use Rattle.calculus.proofs.Leaf.{bad_input}
use Rattle.calculus.proofs.Locality.{first_forced_same}

-- a bad literal has the bad value
bad_is_false : (b positive : Bool) → same_bool (same_bool b positive) false ≡ true → same_bool b positive ≡ false
bad_is_false true true e = absurd (false≢true e)
bad_is_false true false e = refl
bad_is_false false true e = refl
bad_is_false false false e = absurd (false≢true e)

bad_is_true : (b positive : Bool) → same_bool (same_bool b positive) true ≡ true → same_bool b positive ≡ true
bad_is_true true true e = refl
bad_is_true true false e = absurd (false≢true e)
bad_is_true false true e = absurd (false≢true e)
bad_is_true false false e = refl

-- a bad input row decides the matrix, under all values that are the same on the prefix
bad_matrix : (pivot : Quant) (scopes : List Scope) (clauses : List Row) (values : Assignment) (σ : Values)
    → ((x : ℕ) → Contains (all_variables scopes) x → σ x ≡ Some (values x)) → (row : Row) → IsRow scopes row
    → IsInput pivot clauses row → is_bad_throughout pivot values row ≡ true → matrix_true σ clauses ≡ bad_of pivot
bad_matrix Exists scopes clauses values σ gives row is_row input bad =
    false_from_ne_true (matrix_true σ clauses) (λ t.
    let r = any_at (literal_true σ) row (all_at (clause_true σ) clauses t row input) in
    let l = r.0 in
    let known : literal_true σ l ≡ same_bool (values l.variable) l.positive = ap (λ o. is_true_of o l.positive)
    (gives l.variable (is_row.over_prefix l r.1)) in
    true≢false
    (sym r.2 ∙ (known ∙ bad_is_false (values l.variable) l.positive (all_at (is_bad Exists values) row bad l r.1))))
bad_matrix Forall scopes clauses values σ gives row is_row input bad =
    all_from (clause_true σ) clauses (λ clause i.
    let r = input clause i in
    let l = r.0 in
    let known : literal_true σ l ≡ same_bool (values l.variable) l.positive = ap (λ o. is_true_of o l.positive)
    (gives l.variable (is_row.over_prefix l r.2)) in
    any_from (literal_true σ) clause l r.1
    (known ∙ bad_is_true (values l.variable) l.positive (all_at (is_bad Forall values) row bad l r.2)))

pub respects : {pivot : Quant} {scopes : List Scope} {assumptions : List Literal} {steps : List Inference}
    {values : Assignment} → IsAllowed pivot scopes assumptions values → Follows pivot scopes assumptions steps values
    → (x : ℕ) (b : Bool) → assumed_value assumptions x ≡ Some b → values x ≡ b
respects {pivot} {scopes} allowed follows x b e = ⊎_elim (λ same. allowed x b e same) (λ ne. follows.given x b e ne)
    (same_quantifier_cases (quantifier_of scopes x) pivot)

-- values that follow the rule of a proof decide the matrix
pub following_decides : (pivot : Quant) (scopes : List Scope) (clauses : List Row) (assumptions : List Literal)
    (steps : List Inference) (values : Assignment) → AreOuter scopes assumptions → IsSound pivot scopes clauses
    assumptions steps → IsAllowed pivot scopes assumptions values → Follows pivot scopes assumptions steps values
    → (σ : Values) → ((x : ℕ) → Contains (all_variables scopes) x → σ x ≡ Some (values x))
    → matrix_true σ clauses ≡ bad_of pivot
following_decides pivot scopes clauses assumptions steps values outer proof allowed follows σ gives =
    let level : (x : ℕ) (b : Bool) → assumed_value assumptions x ≡ Some b → depth_of scopes x ≡ 1 =
    λ x b e. (outer_level scopes assumptions outer x b e).1 in
    let last_bad : is_bad_throughout pivot values proof.last.row ≡ true = all_from (is_bad pivot values) proof.last.row
    (λ l i. let d = proof.decided l i in rw (respects allowed follows l.variable d.0 d.1) d.2) in
    let stands : Contains steps proof.last = rw proof.parts
    (Contains-append_right proof.front (proof.last ∷ []) proof.last (contains_head proof.last [])) in
    let some : list_any (λ s. is_bad_throughout pivot values s.row) steps ≡ true =
    any_from (λ (s : Inference). is_bad_throughout pivot values s.row) steps proof.last stands last_bad in
    let r = bad_input pivot scopes clauses assumptions level values [] (λ r i. absurd (contains_nil r i)) steps
    proof.last_step follows.ruled some in
    bad_matrix pivot scopes clauses values σ gives r.0 r.3 r.1 r.2

-- the values with those of assumed variables put in
unfoldable pub override : List Literal → Assignment → Assignment
override assumptions values x = unwrap_or (assumed_value assumptions x) (values x)

pub override_assumed : (assumptions : List Literal) (values : Assignment) (x : ℕ) (b : Bool)
    → assumed_value assumptions x ≡ Some b → override assumptions values x ≡ b
unfolding override
override_assumed assumptions values x b e = ap (λ o. unwrap_or o (values x)) e

pub override_free : (assumptions : List Literal) (values : Assignment) (x : ℕ) → assumed_value assumptions x ≡ None
    → override assumptions values x ≡ values x
unfolding override
override_free assumptions values x e = ap (λ o. unwrap_or o (values x)) e

pub option_cases : {A : Type 0} (o : Option A) → (o ≡ None) ⊎ ((a : A) × (o ≡ Some a))
option_cases None = inl refl
option_cases (Some a) = inr (a, refl)

pub override_same : (assumptions : List Literal) (values : Assignment)
    → ((x : ℕ) (b : Bool) → assumed_value assumptions x ≡ Some b → values x ≡ b) → override assumptions values ≡ values
override_same assumptions values respects = fun_ext (λ x.
    ⊎_elim (λ n. override_free assumptions values x n) (λ r. override_assumed assumptions values x r.0 r.1
    ∙ sym (respects x r.0 r.1)) (option_cases (assumed_value assumptions x)))

-- what the winner plays
unfoldable pub play_of : Quant → List Literal → List Inference → Assignment → ℕ → Bool
play_of pivot assumptions steps values x = unwrap_or (first_forced pivot (override assumptions values) x steps) false

pub play_local : (pivot : Quant) (scopes : List Scope) (clauses : List Row) (assumptions : List Literal)
    (steps : List Inference) → AreOuter scopes assumptions → AreSoundSteps pivot scopes clauses assumptions [] steps
    → (v w : Assignment) (x : ℕ) → ((y : ℕ) → depth_of scopes y < depth_of scopes x → v y ≡ w y)
    → play_of pivot assumptions steps v x ≡ play_of pivot assumptions steps w x
unfolding play_of
play_local pivot scopes clauses assumptions steps outer are v w x below =
    let level : (x : ℕ) (b : Bool) → assumed_value assumptions x ≡ Some b → depth_of scopes x ≡ 1 =
    λ x b e. (outer_level scopes assumptions outer x b e).1 in
    ap (λ o. unwrap_or o false) (first_forced_same pivot scopes clauses assumptions level (override assumptions v)
    (override assumptions w) x
    (λ y i lower. ⊎_elim
    (λ n. override_free assumptions v y n ∙ (below y lower ∙ sym (override_free assumptions w y n)))
    (λ r. override_assumed assumptions v y r.0 r.1 ∙ sym (override_assumed assumptions w y r.0 r.1))
    (option_cases (assumed_value assumptions y)))
    (λ y b e q. override_assumed assumptions v y b e ∙ sym (override_assumed assumptions w y b e))
    [] steps are)

-- a strategy that always wins decides the truth
pub strategy_decides : (pivot : Quant) (scopes : List Scope) (clauses : List Row) (assumptions : List Literal)
    (strategy : Assignment → ℕ → Bool)
    → ((v w : Assignment) (x : ℕ) → ((y : ℕ) → depth_of scopes y < depth_of scopes x → v y ≡ w y)
    → strategy v x ≡ strategy w x) → AreDistinct (all_variables scopes)
    → ((w : Assignment) → Plays pivot (quantifier_of scopes) (assumed_value assumptions) strategy (all_variables scopes)
    w → (σ : Values) → ((x : ℕ) → Contains (all_variables scopes) x → σ x ≡ Some (w x))
    → matrix_true σ clauses ≡ bad_of pivot)
    → truth_under assumptions scopes clauses ≡ bad_of pivot
strategy_decides pivot scopes clauses assumptions strategy local distinct wins =
    let inside : ℕ → Bool = λ y. is_among y (all_variables scopes) in
    let same : variables_of (prefix_order scopes) ≡ all_variables scopes = variables_of-prefix_order scopes in
    decided pivot (quantifier_of scopes) (depth_of scopes) assumptions clauses inside strategy local
    (prefix_order scopes)
    (λ b i. (bound_quantifier scopes distinct b i, bound_among scopes b i))
    (rw same (order_ordered scopes distinct)) no_values (λ (x : ℕ). false)
    (λ y out. sym
    (within_none inside (λ x. false) y
    (false_from_ne_true (inside y) (λ t. out (rw same (among_at (all_variables scopes) y t))))))
    (λ w off plays. wins w (rw same at plays) (within inside w)
    (λ x i. within_in inside w x (among_from (all_variables scopes) x i)))

-- a proof decides the truth under its assumptions
pub proof_decides : (pivot : Quant) (scopes : List Scope) (clauses : List Row) (assumptions : List Literal)
    (steps : List Inference) → AreDistinct (all_variables scopes) → AreOuter scopes assumptions
    → IsSound pivot scopes clauses assumptions steps → truth_under assumptions scopes clauses ≡ bad_of pivot
unfolding play_of
proof_decides pivot scopes clauses assumptions steps distinct outer proof =
    strategy_decides pivot scopes clauses assumptions (play_of pivot assumptions steps)
    (play_local pivot scopes clauses assumptions steps outer proof.last_step) distinct
    (λ w plays.
    let respected : (x : ℕ) (b : Bool) → assumed_value assumptions x ≡ Some b → w x ≡ b = λ x b e. plays.given x b
    (outer_level scopes assumptions outer x b e).0 e in
    following_decides pivot scopes clauses assumptions steps w outer proof (λ x b e q. respected x b e) (record {
      given = λ x b e q. respected x b e;
      ruled = λ x i q n. plays.chosen x i q n ∙ ap (λ u. unwrap_or (first_forced pivot u x steps) false)
          (override_same assumptions w respected);
    }))
