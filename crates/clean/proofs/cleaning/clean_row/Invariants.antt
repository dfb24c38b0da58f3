use Rattle.clean.proofs.Looping.{IsCleaning}
use Rattle.clean.proofs.cleaning.clean_row.Given as goal

abbrev pub invariant-loop-taken : goal.invariant-loop-taken
invariant-loop-taken g l = IsCleaning g.S.Side.PIVOT l.prefix l.fn.kept l.end l.fn.derivation l.derivation l.fn.trail
    l.trail l.fn.steps l.steps l.fn.row l.row l._taken
