use Rattle.std.proofs.Common.{Option, ap, map, sym, subst, ◌∙◌}
use Rattle.std.specs.Prelude.{string_bytes}
use Rattle.command.specs.Forms.{Text}
use Rattle.files.specs.Solve.{HasAnswer}
use Rattle.program.specs.Run.{IsVerdict, line_of, status_of}
use Rattle.program.specs.Told.{IsOutput}
use Rattle.program.proofs.Endings as by
use Rattle.program.specs.Complete.{IsComplete}
use Rattle.program.proofs.Completing.{complete}
use Rattle.program.proofs.Limiting.{limit_is}
use Rattle.program.proofs.commands.run.Goals as goal

pub returns-clause-statuses : goal.returns-clause-statuses
returns-clause-statuses g c =
    rw c.report.ensures.status (by.statuses (map string_bytes c.args.words.now) (g.D.Desk.content c.args.desk.now)
    (g.D.Desk.left c.ending_of-ending.new.desk)
    (g.O.Sink.written c.args.out.now, g.O.Sink.written c.ending_of-ending.new.out)
    (c.args.stops.now.items, c.ending_of-ending.new.stops.items) c.ending_of-ending.result
    c.ending_of-ending.ensures.carried)

pub returns-clause-verdict : goal.returns-clause-verdict
returns-clause-verdict g c = subst (IsVerdict _ _) (sym c.report.ensures.status)
    (by.verdict _ _ _ _ _ c.ending_of-ending.result c.ending_of-ending.ensures.carried)

pub returns-clause-whole_input : goal.returns-clause-whole_input
returns-clause-whole_input g c h = by.whole_input _ _ _ _ _ c.ending_of-ending.result
    c.ending_of-ending.ensures.carried (subst HasAnswer c.report.ensures.status h)

pub returns-clause-output : goal.returns-clause-output
returns-clause-output g c =
    let words = map string_bytes c.args.words.now in
    let content = g.D.Desk.content c.args.desk.now in
    let written : Option Text × Option Text =
    (g.O.Sink.written c.args.out.now, g.O.Sink.written c.ending_of-ending.new.out) in
    subst (IsOutput words content written c.ending_of-ending.new.stops.items) (sym c.report.ensures.status)
    (by.output_is words content (g.D.Desk.left c.ending_of-ending.new.desk) written
    (c.args.stops.now.items, c.ending_of-ending.new.stops.items) c.requires c.ending_of-ending.result
    c.ending_of-ending.ensures.carried)

pub returns-clause-error : goal.returns-clause-error
returns-clause-error g c = record {
  line = line_of c.ending_of-ending.result;
  is = by.error_at _ _ _ _ _ c.ending_of-ending.result c.ending_of-ending.ensures.carried _ c.report.ensures.status;
  front = c.report.ensures.front;
  whole = c.report.ensures.whole;
}

pub returns-clause-complete : goal.returns-clause-complete
returns-clause-complete g c valid reads writes = subst (IsComplete _ _) (sym c.report.ensures.status)
    (complete _ _ _ _ _ valid
    c.ending_of-ending.result c.ending_of-ending.ensures.carried
    (λ is. reads (c.report.ensures.status ∙ ap status_of is))
    (λ is. writes (c.report.ensures.status ∙ ap status_of is)))

pub returns-clause-read_fault : goal.returns-clause-read_fault
returns-clause-read_fault g c =
    let counted = c.ending_of-ending.ensures.outside.read_fault in
    let e = c.ending_of-ending.result in
    record {
      later = counted.later;
      rose = λ is. counted.rose (by.is_read_fault (map string_bytes c.args.words.now) (g.D.Desk.content c.args.desk.now)
          (g.D.Desk.left c.ending_of-ending.new.desk)
          (g.O.Sink.written c.args.out.now, g.O.Sink.written c.ending_of-ending.new.out)
          (c.args.stops.now.items, c.ending_of-ending.new.stops.items) e c.ending_of-ending.ensures.carried
          (sym c.report.ensures.status ∙ is));
      kept = λ h. counted.kept (by.answered e (subst HasAnswer c.report.ensures.status h));
    }

pub returns-clause-write_fault : goal.returns-clause-write_fault
returns-clause-write_fault g c =
    let counted = c.ending_of-ending.ensures.outside.write_fault in
    let e = c.ending_of-ending.result in
    record {
      later = counted.later;
      rose = λ is. counted.rose
          (by.is_write_fault (map string_bytes c.args.words.now) (g.D.Desk.content c.args.desk.now)
          (g.D.Desk.left c.ending_of-ending.new.desk)
          (g.O.Sink.written c.args.out.now, g.O.Sink.written c.ending_of-ending.new.out)
          (c.args.stops.now.items, c.ending_of-ending.new.stops.items) e c.ending_of-ending.ensures.carried
          (sym c.report.ensures.status ∙ is));
      kept = λ h. counted.kept (by.answered e (subst HasAnswer c.report.ensures.status h));
    }

pub returns-clause-steady : goal.returns-clause-steady
returns-clause-steady g c steady is = c.ending_of-ending.ensures.outside.steady steady
    (by.is_read_fault (map string_bytes c.args.words.now) (g.D.Desk.content c.args.desk.now)
    (g.D.Desk.left c.ending_of-ending.new.desk)
    (g.O.Sink.written c.args.out.now, g.O.Sink.written c.ending_of-ending.new.out)
    (c.args.stops.now.items, c.ending_of-ending.new.stops.items) c.ending_of-ending.result
    c.ending_of-ending.ensures.carried
    (sym c.report.ensures.status ∙ is))

pub returns-clause-room : goal.returns-clause-room
returns-clause-room g c room is = c.ending_of-ending.ensures.outside.room room
    (by.is_write_fault (map string_bytes c.args.words.now) (g.D.Desk.content c.args.desk.now)
    (g.D.Desk.left c.ending_of-ending.new.desk)
    (g.O.Sink.written c.args.out.now, g.O.Sink.written c.ending_of-ending.new.out)
    (c.args.stops.now.items, c.ending_of-ending.new.stops.items) c.ending_of-ending.result
    c.ending_of-ending.ensures.carried
    (sym c.report.ensures.status ∙ is))

pub returns-clause-flushed : goal.returns-clause-flushed
returns-clause-flushed g c h = c.ending_of-ending.ensures.outside.flushed
    (by.answered c.ending_of-ending.result (subst HasAnswer c.report.ensures.status h))

pub returns-clause-limit : goal.returns-clause-limit
returns-clause-limit g c is = limit_is (map string_bytes c.args.words.now) (g.D.Desk.content c.args.desk.now)
    (g.D.Desk.left c.ending_of-ending.new.desk)
    (g.O.Sink.written c.args.out.now, g.O.Sink.written c.ending_of-ending.new.out)
    (c.args.stops.now.items, c.ending_of-ending.new.stops.items) c.requires
    (g.E.Sink.faults c.args.err.now, g.E.Sink.faults c.report.new.err)
    (g.E.Sink.written c.args.err.now, g.E.Sink.written c.report.new.err) _ c.ending_of-ending.result
    c.ending_of-ending.ensures.carried (c.report.ensures.front, c.report.ensures.whole)
    (λ ended. record {
      no_read_fault = c.ending_of-ending.ensures.outside.read_fault.kept ended;
      no_write_fault = c.ending_of-ending.ensures.outside.write_fault.kept ended;
      all_flushed = c.ending_of-ending.ensures.outside.flushed ended;
    })
    (sym c.report.ensures.status ∙ is)
