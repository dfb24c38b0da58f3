use Rattle.std.proofs.Common.{◌≡◌, subst, sym}
use Rattle.files.specs.Checks.{IsFinished}
use Rattle.program.specs.Asked.{RoomForTask, SteadyFor, known_for, task_on}
use Rattle.program.specs.Work.{IsDue}
use Rattle.program.proofs.commands.carry_out_on.Goals as goal

pub returns-in-Check-clause-outside : goal.returns-in-Check-clause-outside
returns-in-Check-clause-outside g c =
    let content = g.D.Desk.content c.args.desk.now in
    subst (λ d. IsDue g.D.Desk.faults g.O.Sink.written g.O.Sink.flushed g.O.Sink.faults
    (SteadyFor (task_on d c.args.input.now) (g.D.Desk.steady c.args.desk.now))
    (RoomForTask (task_on d c.args.input.now) (known_for content (task_on d c.args.input.now)) (g.O.Sink.has_room c.args.out.now))
    (c.args.desk.now, c.check.new.desk) (c.args.out.now, c.check.new.out) (λ e. c.check.result ≡ e)
    (IsFinished c.check.result)) (sym c.in-Check.is) c.check.ensures.outside
