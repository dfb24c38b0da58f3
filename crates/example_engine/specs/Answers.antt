-- What an answer to a formula is to say.
use Rattle.std.specs.Prelude.{◌≡◌}
use Rattle.truth.specs.Truth.{truth_under}
use Rattle.calculus.specs.Plays.{DependsOnEarlier, Wins}
use Rattle.frames.specs.State.{OpenFormula, open_clauses}
use Rattle.aig.specs.Strategies.{IsStrategy, values_of}
use Rattle.engine.specs.Verdicts.{loser_of}
use Rattle.example_engine.specs.declared.answer.Answer.{Answer}

-- The truth under the assumptions; and a circuit that wins for the side that this truth is for, whose outputs rest
-- on inputs of earlier scopes alone.
pub record IsRight (formula : OpenFormula) (a : Answer) : Type 0 where
  pub truth : a.truth ≡ truth_under formula.assumptions formula.scopes (open_clauses formula)
  pub wins : Wins (loser_of a.truth) formula.scopes (open_clauses formula) formula.assumptions
      (values_of a.circuit)
  pub earlier : DependsOnEarlier (loser_of a.truth) formula.scopes (values_of a.circuit)
  pub circuit : IsStrategy a.circuit
