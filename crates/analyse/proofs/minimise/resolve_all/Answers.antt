use Rattle.std.proofs.Common.{◌+◌, arith}
use Rattle.analyse.proofs.Learning.{cleans_wider}
use Rattle.analyse.proofs.Minimising.{order_twice, shortening_goes_on, shortening_starts, still_cleanable}
use Rattle.clean.proofs.Looping.{cleans_more}
use Rattle.analyse.proofs.minimise.resolve_all.Goals as goal

pub loop-taken-init : goal.loop-taken-init
loop-taken-init g c =
    shortening_starts g.S.Side.PIVOT c.args.prefix.now c.args.derivation.now c.args.trail.now c.args.steps.now
    c.args.given c.requires.cleanable c.requires.row

pub try_resolving-requires-clause-cleanable : goal.try_resolving-requires-clause-cleanable
try_resolving-requires-clause-cleanable g c =
    still_cleanable g.S.Side.PIVOT c.args.prefix.now c.args.derivation.now c.loop-taken.derivation c.args.trail.now
    c.requires.cleanable c.loop-taken.invariant.order

pub returns-in_default-try_resolving-clause-counted : goal.returns-in_default-try_resolving-clause-counted
returns-in_default-try_resolving-clause-counted g c =
    let below = c.loop-taken-test.true in
    cleans_wider c.args.prefix.now c.args.derivation.now c.try_resolving.new.derivation c.args.trail.now
    c.args.trail.now c.args.steps.now c.try_resolving.new.steps (c.loop-taken._taken + 1) c.args.most (omega arith)
    (cleans_more c.args.prefix.now c.args.derivation.now c.loop-taken.derivation c.try_resolving.new.derivation
    c.args.trail.now c.args.trail.now c.args.trail.now c.args.steps.now c.loop-taken.steps c.try_resolving.new.steps
    c.loop-taken._taken 1 c.loop-taken.invariant.cleans c.in_default-try_resolving.ensures.counted)

pub returns-in_default-try_resolving-clause-cleanable : goal.returns-in_default-try_resolving-clause-cleanable
returns-in_default-try_resolving-clause-cleanable g c =
    order_twice c.args.prefix.now c.args.derivation.now c.loop-taken.derivation c.try_resolving.new.derivation
    c.args.trail.now c.args.trail.now c.args.trail.now c.loop-taken.invariant.order
    c.in_default-try_resolving.ensures.cleanable

pub loop-taken-preserved : goal.loop-taken-preserved
loop-taken-preserved g c =
    shortening_goes_on g.S.Side.PIVOT c.args.prefix.now c.args.derivation.now c.loop-taken.derivation
    c.try_resolving.new.derivation c.args.trail.now c.args.steps.now c.loop-taken.steps c.try_resolving.new.steps
    c.loop-taken.row c.loop-taken._taken c.in-Some-try_resolving.next c.loop-taken.invariant
    c.in-Some-try_resolving.ensures.counted c.in-Some-try_resolving.ensures.cleanable
    c.in-Some-try_resolving.ensures.some.step
