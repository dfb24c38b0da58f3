use Rattle.calculus.proofs.Sound.{sound}
use Rattle.calculus.proofs.EndRows.{relevant_truth}
use Rattle.calculus.proofs.verdicts.relevant_ones_decide.Goals as goal

pub returns : goal.returns
unfolding sound
returns c pivot scopes clauses assumptions steps distinct outer proof = relevant_truth pivot scopes clauses assumptions
    steps distinct outer (sound pivot scopes clauses assumptions steps proof)
