use Rattle.std.proofs.Common.{◌≡◌, ◌+◌, ap, arith}
use Rattle.steps.specs.Counter.{Counter}
use Rattle.clean.proofs.Rounds.{on_err}
use Rattle.clean.proofs.Turning.{turned, tried_none, tried_only, tried_reduction, joined_both, grows_on, on_err_two, paired}
use Rattle.clean.proofs.turn.resolve_with_reason.Goals as goal

pub returns-clause-ok : goal.returns-clause-ok
returns-clause-ok g c =
    let first = c.in_ok-resolvent.ensures.ok in
    joined_both c.reduce_counted.result _ _ _ _
    (λ id removes step both. turned g.S.Side.PIVOT c.args.prefix.now c.args.derivation.now c.resolve_on.new.derivation
    c.reduce_counted.new.self c.args.steps.now c.tick.new.self c.reduce_counted.new.steps c.args.row c.args.lit
    c.args.reason c.in_ok-resolvent.resolvent id _ first c.in_ok-tick.ensures.ok removes step both.0 both.1)
    c.reduce_counted.ensures.ok c.reduce_counted.ensures.step
    (paired c.reduce_counted.result _ _ c.reduce_counted.ensures.counted
    (paired c.reduce_counted.result _ _ c.reduce_counted.ensures.legal c.reduce_counted.ensures.gains))

pub returns-clause-grows : goal.returns-clause-grows
returns-clause-grows g c =
    let first = c.in_ok-resolvent.ensures.ok in
    grows_on c.reduce_counted.result c.args.derivation.now c.resolve_on.new.derivation c.reduce_counted.new.self _ _ _
    first.resolves.grows c.reduce_counted.ensures.ok c.reduce_counted.ensures.err

pub returns-clause-stopped : goal.returns-clause-stopped
returns-clause-stopped g c =
    on_err_two c.reduce_counted.result
    (λ same tried. tried_reduction g.S.Side.PIVOT c.args.prefix.now c.args.derivation.now c.resolve_on.new.derivation
    c.reduce_counted.new.self c.args.steps.now c.tick.new.self c.reduce_counted.new.steps c.args.row c.args.lit
    c.args.reason c.in_ok-resolvent.resolvent c.in_ok-resolvent.ensures.ok c.in_ok-tick.ensures.ok same tried)
    c.reduce_counted.ensures.err c.reduce_counted.ensures.tried

pub returns-clause-spent : goal.returns-clause-spent
returns-clause-spent g c = λ e.
    let own = c.reduce_counted.ensures.spent e in
    let one = c.in_ok-tick.ensures.ok in
    let full : c.tick.new.self.spent ≡ c.tick.new.self.budget = own.1 in
    let spent : c.tick.new.self.spent ≡ c.args.steps.now.spent + 1 = ap (λ (n : Counter). n.spent) one in
    let budget : c.tick.new.self.budget ≡ c.args.steps.now.budget = ap (λ (n : Counter). n.budget) one in
    (rw own.2 full, omega arith)

pub returns-in_err-tick-clause-stopped : goal.returns-in_err-tick-clause-stopped
returns-in_err-tick-clause-stopped g c =
    on_err _ (tried_none c.args.prefix.now c.args.derivation.now c.args.steps.now c.tick.new.self c.requires.rows
    c.in_err-tick.ensures.err)

pub returns-in_err-resolvent-clause-stopped : goal.returns-in_err-resolvent-clause-stopped
returns-in_err-resolvent-clause-stopped g c =
    on_err _ (tried_only c.args.prefix.now c.args.derivation.now c.resolve_on.new.derivation c.args.steps.now
    c.tick.new.self c.requires.rows c.in_err-resolvent.ensures.err c.in_ok-tick.ensures.ok)
