use Rattle.std.proofs.Common.{Contains}
use Rattle.std.specs.Prelude.{IfSome}
use Rattle.prefix.specs.Literal.{Literal}
use Rattle.analyse.proofs.minimise.latest_implied.Given as goal

abbrev pub invariant-loop-lit : goal.invariant-loop-lit
invariant-loop-lit l = IfSome l.latest (λ (lit : Literal). Contains l.row lit)
