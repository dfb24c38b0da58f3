use Rattle.std.proofs.Common.{length}
use Rattle.trim.proofs.Rebuilding.{output_known}
use Rattle.trim.proofs.gates.moved_outputs.Goals as goal

pub moved-requires-clause-known : goal.moved-requires-clause-known
moved-requires-clause-known c =
    output_known c.args.s.now c.outputs-output-items.result.now c.loop-output.output-index (length c.args.table.now)
    c.output-item.result c.requires.strategy c.outputs-output-items.ensures c.loop-output-test.true c.output-item.is
    c.requires.table
