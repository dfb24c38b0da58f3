use Rattle.calculus.proofs.StepLemmas.{kept_derivation}
use Rattle.calculus.proofs.derivations.drops_are_legal.Goals as goal

pub returns : goal.returns
returns c = kept_derivation
