use Rattle.std.proofs.Common.{◌≡◌, take}
use Rattle.qcir.proofs.scopes.first_scopes.Given as goal

-- the scopes so far are put
abbrev pub invariant-loop-s : goal.invariant-loop-s
invariant-loop-s l = l.prefix ≡ take l.s l.old
