use Rattle.std.proofs.Common.{length}
use Rattle.trim.proofs.Moves.{edge_known}
use Rattle.trim.proofs.edges.moved.Goals as goal

pub gate_place-requires : goal.gate_place-requires
gate_place-requires c =
    edge_known c.args.old.now (length c.args.table.now) c.args.e c.requires.few c.requires.known
