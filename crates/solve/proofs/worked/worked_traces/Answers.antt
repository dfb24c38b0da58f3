use Rattle.std.proofs.Common.{Bool, false, List, [], ◌∷◌, ap}
use Rattle.std.proofs.lemmas.Bool.{true≢false}
use Rattle.calculus.specs.Derivations.{Inference, is_input}
use Rattle.solve.proofs.TraceValues.{other_prefix, other_proof, other_winner, trace_is, unused_step}
use Rattle.solve.proofs.worked.worked_traces.Goals as goal

begins_with_input : List Inference → Bool
begins_with_input [] = false
begins_with_input (s ∷ steps) = is_input s.reason

pub returns : goal.returns
unfolding begins_with_input
returns c = record {
  trace_is = trace_is;
  other_winner = other_winner;
  other_proof = other_proof;
  other_prefix = other_prefix;
  unused_step = unused_step;
  input_behind = λ text h. absurd (true≢false (ap begins_with_input h.inputs_first));
}
