use Rattle.std.proofs.Common.{◌+◌, ◌*◌, length, arith}
use Rattle.std.proofs.lemmas.Result.{IfOk-weaker}
use Rattle.steps.specs.Counter.{left}
use Rattle.clean.specs.Marks.{marks_left}
use Rattle.clean.proofs.Ends.{cleans_counted, gains_on, rises_on, under_limit, unlinked_now}
use Rattle.clean.proofs.cleaning.clean.Goals as goal

pub returns-clause-step : goal.returns-clause-step
returns-clause-step g c = IfOk-weaker c.clean_row.result _ _ (λ id cleans. cleans.step) c.clean_row.ensures.ok

pub returns-clause-cleaned : goal.returns-clause-cleaned
returns-clause-cleaned g c = IfOk-weaker c.clean_row.result _ _ (λ id cleans. cleans.cleaned) c.clean_row.ensures.ok

pub returns-clause-counted : goal.returns-clause-counted
returns-clause-counted g c = cleans_counted c.clean_row.result _ _ (λ id cleans. cleans.cleans) c.clean_row.ensures.ok

pub returns-clause-gains : goal.returns-clause-gains
returns-clause-gains g c =
    gains_on c.args.prefix.now c.args.derivation.now c.clean_row.new.derivation c.args.trail.now c.clean_row.new.trail
    c.args.steps.now c.clean_row.new.steps (length c.args.trail.now.placed)
    (marks_left c.args.trail.now * length c.args.trail.now.placed + length c.args.trail.now.placed)
    c.clean_row.result
    (unlinked_now c.args.derivation.now c.requires.rows c.next_id.ensures.fits) (cleans_counted c.clean_row.result _ _
    (λ id cleans. cleans.cleans) c.clean_row.ensures.ok) c.clean_row.ensures.err

pub returns-clause-rises : goal.returns-clause-rises
returns-clause-rises g c =
    rises_on c.args.prefix.now c.args.derivation.now c.clean_row.new.derivation c.args.trail.now c.clean_row.new.trail
    c.args.steps.now c.clean_row.new.steps (length c.args.trail.now.placed)
    (marks_left c.args.trail.now * length c.args.trail.now.placed + length c.args.trail.now.placed)
    c.clean_row.result
    (cleans_counted c.clean_row.result _ _ (λ id cleans. cleans.cleans) c.clean_row.ensures.ok) c.clean_row.ensures.err

pub returns-clause-limit : goal.returns-clause-limit
returns-clause-limit g c = λ e. under_limit c.args.trail.now (left c.args.steps.now) (length c.args.trail.now.placed)
    (c.clean_row.ensures.spent e).1 (omega arith)
