-- A circuit that wins and looks back decides the truth.
use Rattle.std.proofs.Common.{◌≡◌, ◌≢◌, ℕ, ◌<◌, Bool, true, false, not, ◌&&◌, cond, List, [], ◌∷◌, Contains, Some, sym, refl, ap, ap₂, ◌∙◌, ⊎_elim}
use Rattle.std.proofs.lemmas.Bool.{cases_Bool, cond-true, cond-false, and_parts, and_from, true≢false, false_from_ne_true, not_from_false, not-true}
use Rattle.prefix.specs.declared.quant.Quant.{Quant}
use Rattle.prefix.specs.Literal.{Literal}
use Rattle.prefix.specs.Scopes.{Scope, all_variables, is_among, quantifier_of, AreDistinct}
use Rattle.prefix.specs.Sides.{bad_of}
use Rattle.truth.specs.Matrix.{Values, matrix_true, literal_true, is_true_of}
use Rattle.truth.specs.Truth.{assumed_value, truth_under}
use Rattle.calculus.specs.Rows.{Row, Assignment, is_of, depth_of, AreOverPrefix}
use Rattle.calculus.specs.Verdicts.{AreOuter}
use Rattle.calculus.specs.Plays.{Circuit, KeepsInputs, Wins, DependsOnEarlier, IsAllowed, total}
use Rattle.calculus.proofs.Lists.{any_same, contains_head, contains_tail, among_at, among_from}
use Rattle.calculus.proofs.Levels.{outer_level}
use Rattle.calculus.proofs.RowLemmas.{same_true, same_from}
use Rattle.calculus.proofs.Strategy.{Plays, same_quantifier_cases}
use Rattle.calculus.proofs.Verdict.{strategy_decides, option_cases}

-- values that are the same on the variables of the clauses
matrix_same : (σ τ : Values) (clauses : List Row)
    → ((clause : Row) (l : Literal) → Contains clauses clause → Contains clause l → σ l.variable ≡ τ l.variable)
    → matrix_true σ clauses ≡ matrix_true τ clauses
matrix_same σ τ [] same = refl
matrix_same σ τ (c ∷ cs) same =
    ap₂ (λ a b. a && b)
    (any_same (literal_true σ) (literal_true τ) c
    (λ l i. ap (λ o. is_true_of o l.positive) (same c l (contains_head c cs) i)))
    (matrix_same σ τ cs (λ d l i j. same d l (contains_tail c cs d i) j))

module _ (pivot : Quant) (scopes : List Scope) (clauses : List Row) (assumptions : List Literal) (circuit : Circuit)
    (outer : AreOuter scopes assumptions) (over : AreOverPrefix scopes clauses)
    (keeps : KeepsInputs pivot scopes circuit) (wins : Wins pivot scopes clauses assumptions circuit)
    (earlier : DependsOnEarlier pivot scopes circuit) where
  -- whether a variable is an output
  is_output : ℕ → Bool
  is_output x = is_among x (all_variables scopes) && not (is_of (quantifier_of scopes x) pivot)

  output_parts : (x : ℕ) → is_output x ≡ true → Contains (all_variables scopes) x
      × (quantifier_of scopes x ≢ Some pivot)
  unfolding is_output
  output_parts x t =
      let parts = and_parts (is_among x (all_variables scopes)) (not (is_of (quantifier_of scopes x) pivot)) t in (
        among_at (all_variables scopes) x parts.0,
        λ e. true≢false (sym (same_from (quantifier_of scopes x) pivot e)
            ∙ not-true (is_of (quantifier_of scopes x) pivot) parts.1),
      )

  output_from : (x : ℕ) → Contains (all_variables scopes) x → quantifier_of scopes x ≢ Some pivot → is_output x ≡ true
  unfolding is_output
  output_from x i ne =
      and_from (is_among x (all_variables scopes)) (not (is_of (quantifier_of scopes x) pivot))
      (among_from (all_variables scopes) x i)
      (not_from_false (is_of (quantifier_of scopes x) pivot)
      (false_from_ne_true (is_of (quantifier_of scopes x) pivot)
      (λ t. ne (same_true (quantifier_of scopes x) pivot t))))

  strategy : Assignment → ℕ → Bool
  strategy v x = cond (is_output x) (circuit v x) false

  strategy_local : (v w : Assignment) (x : ℕ) → ((y : ℕ) → depth_of scopes y < depth_of scopes x → v y ≡ w y)
      → strategy v x ≡ strategy w x
  unfolding strategy
  strategy_local v w x below =
      ⊎_elim
      (λ t. let r = output_parts x t in cond-true (is_output x) (circuit v x) false t
      ∙ (earlier x r.0 r.1 v w (λ y j p lower. below y lower)
      ∙ sym (cond-true (is_output x) (circuit w x) false t)))
      (λ f. cond-false (is_output x) (circuit v x) false f ∙ sym (cond-false (is_output x) (circuit w x) false f))
      (cases_Bool (is_output x))

  strategy_wins : (w : Assignment) → Plays pivot (quantifier_of scopes) (assumed_value assumptions) strategy
      (all_variables scopes) w → (σ : Values) → ((x : ℕ) → Contains (all_variables scopes) x → σ x ≡ Some (w x))
      → matrix_true σ clauses ≡ bad_of pivot
  unfolding strategy
  strategy_wins w plays σ gives =
      let allowed : IsAllowed pivot scopes assumptions w = λ x b e q. plays.given x b
      (outer_level scopes assumptions outer x b e).0 e in
      let won = wins w allowed in
      let same : (x : ℕ) → Contains (all_variables scopes) x → w x ≡ circuit w x = λ x i.
      ⊎_elim (λ e. sym (keeps w x e))
      (λ ne. ⊎_elim
      (λ n. plays.chosen x i ne n ∙ cond-true (is_output x) (circuit w x) false (output_from x i ne))
      (λ r. plays.given x r.0 i r.1 ∙ sym (won.1 x r.0 r.1 ne))
      (option_cases (assumed_value assumptions x)))
      (same_quantifier_cases (quantifier_of scopes x) pivot) in
      matrix_same σ (total (circuit w)) clauses (λ c l i j. gives l.variable (over c l i j)
      ∙ ap Some (same l.variable (over c l i j))) ∙ won.0

  pub winning_decides : AreDistinct (all_variables scopes) → truth_under assumptions scopes clauses ≡ bad_of pivot
  winning_decides distinct = strategy_decides pivot scopes clauses assumptions strategy strategy_local distinct
      strategy_wins
