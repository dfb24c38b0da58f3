use Rattle.std.proofs.Common.{◌+◌, ◌*◌, length, arith}
use Rattle.std.proofs.lemmas.Result.{IfOk-weaker}
use Rattle.steps.specs.Counter.{left}
use Rattle.clean.specs.Marks.{marks_left}
use Rattle.clean.proofs.Ends.{cleans_counted, gains_on, rises_on, under_limit, unlinked_now}
use Rattle.analyse.proofs.analysis.analyse.Goals as goal

pub returns-clause-lesson : goal.returns-clause-lesson
returns-clause-lesson g c = IfOk-weaker c.learn.result _ _ (λ lesson learns. learns.is) c.learn.ensures.ok

pub returns-clause-counted : goal.returns-clause-counted
returns-clause-counted g c = cleans_counted c.learn.result _ _
    (λ id cleans. cleans.cleans) c.learn.ensures.ok

pub returns-clause-gains : goal.returns-clause-gains
returns-clause-gains g c =
    gains_on c.args.prefix.now c.args.derivation.now c.learn.new.derivation c.args.trail.now
    c.learn.new.trail c.args.steps.now c.learn.new.steps (length c.args.trail.now.placed)
    (marks_left c.args.trail.now * length c.args.trail.now.placed + length c.args.trail.now.placed)
    c.learn.result
    (unlinked_now c.args.derivation.now c.requires.rows c.next_id.ensures.fits)
    (cleans_counted c.learn.result _ _
    (λ id cleans. cleans.cleans) c.learn.ensures.ok) c.learn.ensures.err

pub returns-clause-rises : goal.returns-clause-rises
returns-clause-rises g c =
    rises_on c.args.prefix.now c.args.derivation.now c.learn.new.derivation c.args.trail.now
    c.learn.new.trail c.args.steps.now c.learn.new.steps (length c.args.trail.now.placed)
    (marks_left c.args.trail.now * length c.args.trail.now.placed + length c.args.trail.now.placed)
    c.learn.result
    (cleans_counted c.learn.result _ _
    (λ id cleans. cleans.cleans) c.learn.ensures.ok) c.learn.ensures.err

pub returns-clause-limit : goal.returns-clause-limit
returns-clause-limit g c = λ e. under_limit c.args.trail.now (left c.args.steps.now)
    (length c.args.trail.now.placed) (c.learn.ensures.spent e).1 (omega arith)
