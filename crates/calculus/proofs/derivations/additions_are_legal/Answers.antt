use Rattle.calculus.proofs.StepLemmas.{one_more_step}
use Rattle.calculus.proofs.derivations.additions_are_legal.Goals as goal

pub returns : goal.returns
returns c scopes clauses steps new d above is_row legal = one_more_step scopes clauses steps new d above is_row legal
