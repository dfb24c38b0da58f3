use Rattle.std.proofs.Common.{◌≡◌, take}
use Rattle.engine.specs.Cores.{active_parts as active_parts_of}
use Rattle.engine.proofs.group_core.active_parts.Given as goal

abbrev pub invariant-loop-place : goal.invariant-loop-place
invariant-loop-place l = l.parts.items ≡ active_parts_of (take l.place l.frames.formula.groups)
