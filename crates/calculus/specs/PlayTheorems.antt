-- Theorems on plays, circuits and their size, as statements for contracts.
use Rattle.std.specs.Prelude.{◌≡◌, ◌≢◌, ℕ, ◌+◌, ◌*◌, ◌≤◌, List, length, Contains, Some}
use Rattle.prefix.specs.declared.quant.Quant.{Quant}
use Rattle.prefix.specs.Literal.{Literal}
use Rattle.prefix.specs.Scopes.{Scope, level_of, quantifier_of, all_variables, AreDistinct}
use Rattle.prefix.specs.Sides.{bad_of}
use Rattle.truth.specs.Matrix.{matrix_true}
use Rattle.truth.specs.Truth.{truth_under}
use Rattle.calculus.specs.Rows.{Row, Assignment, AreOverPrefix}
use Rattle.calculus.specs.Derivations.{Inference}
use Rattle.calculus.specs.Verdicts.{AreOuter, IsProof}
use Rattle.calculus.specs.Plays.{first_forced, forced, Follows, IsAllowed, AgreeBefore, played, total, Circuit, KeepsInputs, Wins, DependsOnEarlier, FollowsProof}
use Rattle.calculus.specs.Limits.{gate_weight, removals_of, removal_bound, weight_bound}

-- Values that follow a proof decide the matrix against all allowed values of the loser.
abbrev pub PlaysWin : Type 0
PlaysWin = (pivot : Quant) (scopes : List Scope) (clauses : List Row) (assumptions : List Literal)
    (steps : List Inference) (values : Assignment) → AreOuter scopes assumptions
    → IsProof pivot scopes clauses assumptions steps → Follows pivot scopes assumptions steps values
    → IsAllowed pivot scopes assumptions values → matrix_true (total values) clauses ≡ bad_of pivot

-- In such values a variable of the winner rests on the loser's variables of earlier scopes alone.
abbrev pub PlaysLookBack : Type 0
PlaysLookBack = (pivot : Quant) (scopes : List Scope) (clauses : List Row) (assumptions : List Literal)
    (steps : List Inference) (v w : Assignment) (x : ℕ) → AreOuter scopes assumptions
    → IsProof pivot scopes clauses assumptions steps
    → Follows pivot scopes assumptions steps v → Follows pivot scopes assumptions steps w
    → Contains (all_variables scopes) x → quantifier_of scopes x ≢ Some pivot → AgreeBefore pivot scopes x v w
    → v x ≡ w x

-- There are such values for each choice of the loser's.
abbrev pub PlaysExist : Type 0
PlaysExist = (pivot : Quant) (scopes : List Scope) (clauses : List Row) (assumptions : List Literal)
    (steps : List Inference) (inputs : Assignment) → AreDistinct (all_variables scopes) → AreOuter scopes assumptions
    → IsProof pivot scopes clauses assumptions steps
    → Follows pivot scopes assumptions steps (played pivot scopes assumptions steps inputs)
    × ((x : ℕ) → quantifier_of scopes x ≡ Some pivot → played pivot scopes assumptions steps inputs x ≡ inputs x)

-- A circuit that follows a proof wins, and each output rests on inputs of earlier scopes alone.
abbrev pub CircuitsWin : Type 0
CircuitsWin = (pivot : Quant) (scopes : List Scope) (clauses : List Row) (assumptions : List Literal)
    (steps : List Inference) (circuit : Circuit) → AreOuter scopes assumptions
    → IsProof pivot scopes clauses assumptions steps → KeepsInputs pivot scopes circuit
    → FollowsProof pivot scopes assumptions steps circuit
    → Wins pivot scopes clauses assumptions circuit × DependsOnEarlier pivot scopes circuit

-- A circuit that wins, and whose outputs depend on earlier inputs alone, decides the truth: such a circuit is a
-- certificate.
abbrev pub WinningDecides : Type 0
WinningDecides = (pivot : Quant) (scopes : List Scope) (clauses : List Row) (assumptions : List Literal)
    (circuit : Circuit) → AreDistinct (all_variables scopes) → AreOuter scopes assumptions
    → AreOverPrefix scopes clauses → KeepsInputs pivot scopes circuit → Wins pivot scopes clauses assumptions circuit
    → DependsOnEarlier pivot scopes circuit → truth_under assumptions scopes clauses ≡ bad_of pivot

-- On the first scope the rule reads the last step of the proof alone.
abbrev pub LastStepsDecide : Type 0
LastStepsDecide = (pivot : Quant) (scopes : List Scope) (clauses : List Row) (assumptions : List Literal)
    (steps : List Inference) (proof : IsProof pivot scopes clauses assumptions steps) (values : Assignment) (x : ℕ)
    → level_of scopes x ≡ Some 1
    → first_forced pivot values x steps ≡ forced pivot values x proof.last.row proof.last.reason

-- A proof costs at most n * (n + 1) gates for each step that removes literals.
abbrev pub GatesAreFew : Type 0
GatesAreFew = (pivot : Quant) (scopes : List Scope) (clauses : List Row) (assumptions : List Literal)
    (steps : List Inference) → IsProof pivot scopes clauses assumptions steps
    → gate_weight steps ≤ removals_of steps * (length (all_variables scopes) * (length (all_variables scopes) + 1))

-- So with few removals a proof's gates are within the weight bound.
abbrev pub GatesAreBounded : Type 0
GatesAreBounded = (pivot : Quant) (scopes : List Scope) (clauses : List Row) (assumptions : List Literal)
    (steps : List Inference) (accepted solves budget restarts n : ℕ) → IsProof pivot scopes clauses assumptions steps
    → length (all_variables scopes) ≤ n → removals_of steps ≤ removal_bound accepted solves budget restarts n
    → gate_weight steps ≤ weight_bound accepted solves budget restarts n
