use Rattle.std.proofs.Common.{Some, ap, ◌∙◌}
use Rattle.rows.proofs.Blocking.{block_there}
use Rattle.rows.proofs.rows.Rows.link.Goals as goal

pub read-requires-clause-block : goal.read-requires-clause-block
read-requires-clause-block c b e =
    (c.self.invariant.blocked.has c.args.id b
    (block_there c.self.inside.places c.args.id c.place_of.result c.place_of.ensures.value ∙ ap Some e)).0
