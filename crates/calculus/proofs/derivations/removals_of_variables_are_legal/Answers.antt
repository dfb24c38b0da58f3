use Rattle.calculus.proofs.Removing.{agreed_derivation}
use Rattle.calculus.proofs.derivations.removals_of_variables_are_legal.Goals as goal

pub returns : goal.returns
returns c old new before after steps agree inputs d = agreed_derivation old new before after steps agree inputs d
