use Rattle.std.proofs.Common.{◌≡◌, map, take}
use Rattle.step_core.specs.Cores.{line_at}
use Rattle.step_core.proofs.gather.lines_of.Given as goal

abbrev pub invariant-loop-id : goal.invariant-loop-id
invariant-loop-id l = l.lines.items ≡ map (line_at l.derivation l.ids) (take l.id-index l.ids)
