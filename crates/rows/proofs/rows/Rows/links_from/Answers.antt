use Rattle.std.proofs.Common.{Some, ap, ◌∙◌}
use Rattle.rows.proofs.Blocking.{block_there}
use Rattle.rows.proofs.rows.Rows.links_from.Goals as goal

pub read_three-requires-clause-block : goal.read_three-requires-clause-block
read_three-requires-clause-block c b e =
    (c.self.invariant.blocked.has c.args.id b
    (block_there c.self.inside.places c.args.id c.place_of.result c.place_of.ensures.value ∙ ap Some e)).0
