use Rattle.std.proofs.Common.{◌*◌, length, arith}
use Rattle.steps.specs.Counter.{left}
use Rattle.clean.specs.Marks.{marks_left}
use Rattle.clean.proofs.Ends.{gains_on, rises_on, under_limit, unlinked_now}
use Rattle.clean.proofs.reason.clean_reason.Goals as goal

pub returns-clause-gains : goal.returns-clause-gains
returns-clause-gains g c =
    gains_on c.args.prefix.now c.args.derivation.now c.clean_marked.new.derivation c.args.trail.now
    c.clean_marked.new.trail c.args.steps.now c.clean_marked.new.steps 0
    (marks_left c.args.trail.now * length c.args.trail.now.placed) c.clean_marked.result
    (unlinked_now c.args.derivation.now c.requires.rows c.next_id.ensures.fits) c.clean_marked.ensures.cleans
    c.clean_marked.ensures.err

pub returns-clause-rises : goal.returns-clause-rises
returns-clause-rises g c =
    rises_on c.args.prefix.now c.args.derivation.now c.clean_marked.new.derivation c.args.trail.now
    c.clean_marked.new.trail c.args.steps.now c.clean_marked.new.steps 0
    (marks_left c.args.trail.now * length c.args.trail.now.placed) c.clean_marked.result
    c.clean_marked.ensures.cleans c.clean_marked.ensures.err

pub returns-clause-limit : goal.returns-clause-limit
returns-clause-limit g c = λ e. let few = (c.clean_marked.ensures.spent e).1 in
    under_limit c.args.trail.now (left c.args.steps.now) 0 (omega arith) (omega arith)
