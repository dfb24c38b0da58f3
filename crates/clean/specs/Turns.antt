-- Resolutions with reasons, and what they count.
use Rattle.std.specs.Prelude.{◌≡◌, ℕ, ◌+◌, ◌*◌, ◌≤◌, Bool, true, false, ◌||◌, IsTrue, IsFalse, Contains, List, count_by}
use Rattle.prefix.specs.declared.quant.Quant.{Quant}
use Rattle.prefix.specs.Literal.{Literal, negation}
use Rattle.prefix.specs.Scopes.{Scope}
use Rattle.steps.specs.Counter.{Counter, after}
use Rattle.calculus.specs.Rows.{is_pivot, reduce}
use Rattle.calculus.specs.Derivations.{Step, Why}
use Rattle.calculus.specs.Derivations.Why.{Given, ReducedFrom, ResolvedFrom, FinishedFrom}
use Rattle.calculus.specs.Search.{clashes_with, resolved_with}
use Rattle.derive.specs.State.{State, IsLegalFor, is_live, is_step, has_rows, side_at, why_at, row_of, steps_of, clauses_of}
use Rattle.derive.specs.Growing.{AreUnlinked}
use Rattle.derive.specs.Theorems.{Grows}

-- whether a step is a reduction
abbrev pub is_reduction : Why → Bool
is_reduction Given = false
is_reduction (ReducedFrom a) = true
is_reduction (ResolvedFrom a b x) = false
is_reduction (FinishedFrom a) = false

-- whether a step is a resolvent
abbrev pub is_resolvent : Why → Bool
is_resolvent Given = false
is_resolvent (ReducedFrom a) = false
is_resolvent (ResolvedFrom a b x) = true
is_resolvent (FinishedFrom a) = false

-- how many live steps are reductions
abbrev pub reductions_in : State → ℕ
reductions_in d = count_by (λ (s : Step). is_reduction s.why) (steps_of d)

-- how many live steps are resolvents
abbrev pub resolvents_in : State → ℕ
resolvents_in d = count_by (λ (s : Step). is_resolvent s.why) (steps_of d)

-- each step that came in is a resolvent or a reduction
abbrev pub AreInferred : State → State → Type 0
AreInferred old new = (id : ℕ) → IsFalse (is_live old id) → IsTrue (is_live new id)
    → IsTrue (is_resolvent (why_at new id) || is_reduction (why_at new id))

-- that many resolvents came in and that many reductions, no more of these, and nothing else: what was live stays as it
-- was, the open clauses are the same, a row that came in has no links, and what was legal is
pub record Resolves (scopes : List Scope) (old new : State) (count reduced : ℕ) : Type 0 where
  pub grows : Grows old new
  pub has_rows : IsTrue (has_rows new)
  pub unlinked : AreUnlinked old old → AreUnlinked old new
  pub clauses : clauses_of new ≡ clauses_of old
  pub resolvents : resolvents_in new ≡ resolvents_in old + count
  pub reductions : reductions_in new ≡ reductions_in old + reduced
  pub inferred : AreInferred old new
  pub fewer : reduced ≤ count
  pub legal : IsLegalFor scopes old → IsLegalFor scopes new

-- a row may be resolved on one of its literals with another row of its side, which holds the opposite literal; both are
-- reduced
pub record IsResolvable (pivot : Quant) (scopes : List Scope) (d : State) (row : ℕ) (literal : Literal)
    (reason : ℕ) : Type 0 where
  pub row_step : IsTrue (is_step d row)
  pub row_side : side_at d row ≡ pivot
  pub row_reduced : reduce pivot scopes (row_of d row) ≡ row_of d row
  pub reason_step : IsTrue (is_step d reason)
  pub reason_side : side_at d reason ≡ pivot
  pub reason_reduced : reduce pivot scopes (row_of d reason) ≡ row_of d reason
  pub stands : Contains (row_of d row) literal
  pub opposes : Contains (row_of d reason) (negation literal)
  pub pivot_type : IsTrue (is_pivot pivot scopes literal)
  pub no_clash : IsFalse (clashes_with (row_of d row) (row_of d reason) literal)

-- that resolvent came in
pub record AddsResolvent (pivot : Quant) (scopes : List Scope) (old new : State) (row : ℕ) (literal : Literal)
    (reason id : ℕ) : Type 0 where
  pub resolves : Resolves scopes old new 1 0
  pub step : IsTrue (is_step new id)
  pub of_side : side_at new id ≡ pivot
  pub result : row_of new id ≡ resolved_with (row_of old row) (row_of old reason) literal

-- that resolvent came in, and its reduction, each of which counts a step
pub record Turns (pivot : Quant) (scopes : List Scope) (old new : State) (before now : Counter) (row : ℕ)
    (literal : Literal) (reason id : ℕ) : Type 0 where
  pub reduced : ℕ
  pub resolves : Resolves scopes old new 1 reduced
  pub counted : now ≡ after before (1 + reduced)
  pub step : IsTrue (is_step new id)
  pub of_side : side_at new id ≡ pivot
  pub result : row_of new id ≡ reduce pivot scopes (resolved_with (row_of old row) (row_of old reason) literal)

-- at most twice that many steps were counted, and for each at most one resolvent or reduction came in
pub record StopsAfter (scopes : List Scope) (most : ℕ) (old new : State) (before now : Counter) : Type 0 where
  pub taken : ℕ
  pub came : ℕ
  pub reduced : ℕ
  pub few : taken ≤ 2 * most
  pub fewer : came + reduced ≤ taken
  pub counted : now ≡ after before taken
  pub resolves : Resolves scopes old new came reduced

-- at most one resolvent came in, for which a step was counted
pub record MayResolve (scopes : List Scope) (old new : State) (before now : Counter) : Type 0 where
  pub came : ℕ
  pub few : came ≤ 1
  pub counted : now ≡ after before came
  pub resolves : Resolves scopes old new came 0
