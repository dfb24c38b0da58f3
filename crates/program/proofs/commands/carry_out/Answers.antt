use Rattle.std.proofs.Common.{◌≡◌, subst, sym}
use Rattle.files.specs.Checks.{IsFinished}
use Rattle.program.specs.Asked.{RoomForTask, SteadyFor, known_for, task_of}
use Rattle.program.specs.Work.{IsDue}
use Rattle.program.proofs.Sampling.{made_due}
use Rattle.program.proofs.commands.carry_out.Goals as goal

pub returns-in-Gen-clause-outside : goal.returns-in-Gen-clause-outside
returns-in-Gen-clause-outside g c =
    let content = g.D.Desk.content c.args.desk.now in
    let did = c.write_sample.ensures in
    subst (λ d. IsDue g.D.Desk.faults g.O.Sink.written g.O.Sink.flushed g.O.Sink.faults
    (SteadyFor (task_of d) (g.D.Desk.steady c.args.desk.now))
    (RoomForTask (task_of d) (known_for content (task_of d)) (g.O.Sink.has_room c.args.out.now))
    (c.args.desk.now, c.args.desk.now) (c.args.out.now, c.write_sample.new.sink) (λ e. c.write_sample.result ≡ e)
    (IsFinished c.write_sample.result)) (sym c.in-Gen.is) (made_due g.D.Desk.faults g.O.Sink.written g.O.Sink.flushed
    g.O.Sink.faults _ _ c.args.desk.now c.args.out.now c.write_sample.new.sink _ c.write_sample.result did.output did.write_fault
    did.room did.flushed)

pub returns-in-Demo-clause-outside : goal.returns-in-Demo-clause-outside
returns-in-Demo-clause-outside g c =
    let content = g.D.Desk.content c.args.desk.now in
    let did = c.count_samples.ensures in
    subst (λ d. IsDue g.D.Desk.faults g.O.Sink.written g.O.Sink.flushed g.O.Sink.faults
    (SteadyFor (task_of d) (g.D.Desk.steady c.args.desk.now))
    (RoomForTask (task_of d) (known_for content (task_of d)) (g.O.Sink.has_room c.args.out.now))
    (c.args.desk.now, c.args.desk.now) (c.args.out.now, c.count_samples.new.sink) (λ e. c.count_samples.result ≡ e)
    (IsFinished c.count_samples.result)) (sym c.in-Demo.is) (made_due g.D.Desk.faults g.O.Sink.written g.O.Sink.flushed
    g.O.Sink.faults _ _ c.args.desk.now c.args.out.now c.count_samples.new.sink _ c.count_samples.result did.output did.write_fault
    did.room did.flushed)
