use Rattle.calculus.proofs.StepLemmas.{side_legal}
use Rattle.calculus.proofs.derivations.sides_are_legal.Goals as goal

pub returns : goal.returns
returns c = side_legal
