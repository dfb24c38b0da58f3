use Rattle.std.proofs.Common.{◌≡◌, ◌++◌, take}
use Rattle.frames.specs.Groups.{active_in}
use Rattle.frames.proofs.groups.Groups.put_active.Given as goal

-- the clauses of the active groups so far are behind the others
abbrev pub invariant-loop-group : goal.invariant-loop-group
invariant-loop-group l = l.matrix ≡ l.initial.matrix ++ active_in (take l.group-index l.groups)
