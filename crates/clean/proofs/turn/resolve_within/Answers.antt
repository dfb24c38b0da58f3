use Rattle.std.proofs.Common.{arith}
use Rattle.clean.proofs.Turning.{turned, joined_both, paired}
use Rattle.clean.proofs.Trying.{tick_left}
use Rattle.clean.proofs.turn.resolve_within.Goals as goal

pub returns-clause-ok : goal.returns-clause-ok
returns-clause-ok g c =
    let first = c.in_ok-resolvent.ensures.ok in
    joined_both c.reduce_within.result _ _ _ _
    (λ id removes step both. turned g.S.Side.PIVOT c.args.prefix.now c.args.derivation.now c.resolve_on.new.derivation
    c.reduce_within.new.derivation c.args.steps.now c.tick.new.self c.reduce_within.new.steps c.args.row c.args.lit
    c.args.reason c.in_ok-resolvent.resolvent id _ first (tick_left c.tick.result _ _ _ c.tick.ensures.ok c.tick.ensures.spent (λ e. let l = c.requires.left in omega arith)) removes step both.0 both.1)
    c.reduce_within.ensures.ok c.reduce_within.ensures.step
    (paired c.reduce_within.result _ _ c.reduce_within.ensures.counted
    (paired c.reduce_within.result _ _ c.reduce_within.ensures.legal c.reduce_within.ensures.gains))
