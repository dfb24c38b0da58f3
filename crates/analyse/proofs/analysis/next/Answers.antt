use Rattle.analyse.proofs.Learning.{ends_without, no_pivots}
use Rattle.analyse.proofs.analysis.next.Goals as goal

pub returns-in-None : goal.returns-in-None
returns-in-None g c =
    let trail = c.args.trail.now.placed in
    ends_without g.S.Side.PIVOT c.args.prefix.now trail c.args.row.now
    (no_pivots g.S.Side.PIVOT c.args.prefix.now trail c.args.row.now c.len.result c.in-None.ensures) c.requires.bad
