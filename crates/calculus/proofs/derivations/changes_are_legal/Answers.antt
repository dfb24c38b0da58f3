use Rattle.calculus.proofs.Changes.{changed_derivation}
use Rattle.calculus.proofs.derivations.changes_are_legal.Goals as goal

pub returns : goal.returns
returns c = changed_derivation
