use Rattle.analyse.proofs.Minimising.{IsShortening}
use Rattle.analyse.proofs.minimise.resolve_all.Given as goal

abbrev pub invariant-loop-taken : goal.invariant-loop-taken
invariant-loop-taken g l = IsShortening g.S.Side.PIVOT l.prefix l.fn.derivation l.derivation l.trail l.fn.steps l.steps
    l.row l._taken
