use Rattle.std.proofs.Common.{[]}
use Rattle.calculus.proofs.TrailLaws.{reason_on}
use Rattle.calculus.proofs.trail.reasons_are_unit.Goals as goal

pub returns : goal.returns
returns c scopes steps trail have x id e = reason_on scopes steps [] trail have x id e
