-- The truth of a quantified circuit in prenex form (QCIR-14, semantics of QCIR): the recursion over its quantified
-- variables in prefix order, with the value of its output as the matrix.
use Rattle.std.specs.Prelude.{ℕ, Bool, true, false, List, [], ◌∷◌, map}
use Rattle.prefix.specs.Literal.{Literal}
use Rattle.prefix.specs.Scopes.{BoundVariable, prefix_order}
use Rattle.truth.specs.Matrix.{Values, no_values, with_value, literal_true, clause_true, cube_true}
use Rattle.truth.specs.Truth.{joined}
use Rattle.qcir.specs.declared.circuit.Circuit.{Circuit}
use Rattle.qcir.specs.declared.circuit.Gate.{Gate}
use Rattle.qcir.specs.declared.circuit.GateKind.{GateKind}
use Rattle.qcir.specs.declared.circuit.GateKind.TheVariants.{And, Or}

-- the value of a gate by those of its inputs; without inputs a conjunction is true and a disjunction false
abbrev pub gate_value : GateKind → Values → List Literal → Bool
gate_value And σ inputs = cube_true σ inputs
gate_value Or σ inputs = clause_true σ inputs

-- the values with those of the gates, one after the other
abbrev pub with_gates : List Gate → Values → Values
with_gates [] σ = σ
with_gates (g ∷ gates) σ = with_gates gates (with_value g.var (gate_value g.kind σ g.inputs) σ)

-- the value of the output
abbrev pub output_true : List Gate → Literal → Values → Bool
output_true gates output σ = literal_true (with_gates gates σ) output

-- the truth of what is left, under the values so far
abbrev pub circuit_truth_from : List BoundVariable → List Gate → Literal → Values → Bool
circuit_truth_from [] gates output σ = output_true gates output σ
circuit_truth_from (x ∷ xs) gates output σ =
    joined x.quantifier (circuit_truth_from xs gates output (with_value x.variable false σ))
    (circuit_truth_from xs gates output (with_value x.variable true σ))

-- the truth of a quantified circuit
abbrev pub circuit_truth : Circuit → Bool
circuit_truth c = circuit_truth_from (prefix_order c.prefix) c.gates c.output no_values

-- the variables of gates
abbrev pub gate_names : List Gate → List ℕ
gate_names gates = map (λ (g : Gate). g.var) gates
