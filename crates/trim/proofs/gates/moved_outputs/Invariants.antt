use Rattle.std.proofs.Common.{◌≡◌, map, take}
use Rattle.trim.specs.Marks.{output_through}
use Rattle.trim.proofs.gates.moved_outputs.Given as goal

-- the outputs so far
abbrev pub invariant-loop-output : goal.invariant-loop-output
invariant-loop-output l = l.outputs.items ≡ map (output_through l.table) (take l.output-index l.s.outputs)
