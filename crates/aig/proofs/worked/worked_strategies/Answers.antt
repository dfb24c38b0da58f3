use Rattle.std.proofs.Common.{◌≡◌, ◌<◌, ℕ, zero, suc, [], ◌∷◌, get_or, refl, arith}
use Rattle.aig.specs.Circuits.{IsEdge, value_of}
use Rattle.aig.specs.Strategies.{IsStrategy}
use Rattle.aig.specs.Worked.{both, conjunction, gate}
use Rattle.aig.specs.declared.strategy.Output.{Output}
use Rattle.aig.proofs.worked.worked_strategies.Goals as goal

apart : (m n : ℕ) → n < m → m ≡ n → ⊥
apart m n h e = omega arith

abbrev output : Output
output = record { var = 3; edge = gate 0 }

stands : (k : ℕ) (d : Output) → k < 1 → IsEdge both (get_or (output ∷ []) k d).edge
unfolding IsEdge
stands zero d h = omega arith
stands (suc k) d h = absurd (omega arith)

not_loose : IsStrategy (record conjunction { outputs = record { var = 3; edge = gate 1 } ∷ [] }) → ⊥
unfolding IsEdge
not_loose h = let below : 1 < 1 = h.outputs 0 output (omega arith) in omega arith

pub returns : goal.returns
unfolding value_of
returns c = record {
  output_rises = refl;
  output_falls = refl;
  input_stays = refl;
  other_input_stays = refl;
  other_stays = refl;
  whole = record { inputs = refl; outputs = stands };
  unnamed_input = λ h. apart 2 1 (omega arith) h.inputs;
  loose_output = not_loose;
}
