use Rattle.std.proofs.lemmas.Result.{err_from_is_err_and}
use Rattle.solve.specs.Terms.{terms_of}
use Rattle.files.proofs.Jobs.{answers_known, ending_known, no_read_fault, output_known, sends_known, unread_undone}
use Rattle.solve.proofs.Taking.{taken_before, taken_in_vain}
use Rattle.files.proofs.file.answer.Goals as goal

pub returns-clause-answer : goal.returns-clause-answer
returns-clause-answer g c =
    let made = c.in_ok-engine.ensures.formula in
    answers_known g.S.Sink.written g.S.Sink.flushed g.S.Sink.faults g.S.Sink.has_room c.args.job
    (terms_of c.args.budget c.args.restarts c.args.kept) (g.D.Desk.left c.args.desk.now)
    made.0 made.3 c.args.sink.now c.reply.new.sink c.args.stops.now.items c.reply.new.stops.items c.reply.result
    (c.reply.ensures made.0 made.1 made.2)

pub returns-clause-ending : goal.returns-clause-ending
returns-clause-ending g c =
    let made = c.in_ok-engine.ensures.formula in
    ending_known g.S.Sink.written g.S.Sink.flushed g.S.Sink.faults g.S.Sink.has_room c.args.job
    (terms_of c.args.budget c.args.restarts c.args.kept) (g.D.Desk.left c.args.desk.now)
    made.0 made.3 c.args.sink.now c.reply.new.sink c.args.stops.now.items c.reply.new.stops.items c.reply.result
    (c.reply.ensures made.0 made.1 made.2)

pub returns-clause-output : goal.returns-clause-output
returns-clause-output g c =
    let made = c.in_ok-engine.ensures.formula in
    output_known g.S.Sink.written g.S.Sink.flushed g.S.Sink.faults g.S.Sink.has_room c.args.job
    (terms_of c.args.budget c.args.restarts c.args.kept) (g.D.Desk.left c.args.desk.now)
    made.0 made.3 c.args.sink.now c.reply.new.sink c.args.stops.now.items c.reply.new.stops.items c.reply.result
    (c.reply.ensures made.0 made.1 made.2)

pub returns-in_err-engine-clause-ending : goal.returns-in_err-engine-clause-ending
returns-in_err-engine-clause-ending g c =
    let p = err_from_is_err_and c.from_residual.result c.from_residual.ensures.1 in
    let ending = c.in_err-engine.ensures.ending in
    rw (p.1, p.2) (
      unread_undone c.in_err-engine.field-0.0 ending.0,
      ending.1 (terms_of c.args.budget c.args.restarts
          c.args.kept),
    )

pub returns-clause-sink : goal.returns-clause-sink
returns-clause-sink g c =
    let made = c.in_ok-engine.ensures.formula in
    sends_known g.S.Sink.written g.S.Sink.flushed g.S.Sink.faults g.S.Sink.has_room c.args.job
    (terms_of c.args.budget c.args.restarts c.args.kept) (g.D.Desk.left c.args.desk.now)
    made.0 made.3 c.args.sink.now c.reply.new.sink c.args.stops.now.items c.reply.new.stops.items c.reply.result
    (c.reply.ensures made.0 made.1 made.2)

pub returns-in_err-engine-clause-desk : goal.returns-in_err-engine-clause-desk
returns-in_err-engine-clause-desk g c =
    let p = err_from_is_err_and c.from_residual.result c.from_residual.ensures.1 in
    rw (p.1, p.2) (taken_in_vain g.D.Desk.content g.D.Desk.left g.D.Desk.faults g.D.Desk.steady g.D.Desk.flows
    c.args.desk.now c.load.new.desk _ c.in_err-engine.field-0.0 c.in_err-engine.ensures.desk)

pub returns-clause-desk : goal.returns-clause-desk
returns-clause-desk g c =
    let made = c.in_ok-engine.ensures.formula in
    taken_before g.D.Desk.content g.D.Desk.left g.D.Desk.faults g.D.Desk.steady g.D.Desk.flows
    c.args.desk.now c.load.new.desk _ c.reply.result c.in_ok-engine.ensures.desk
    (no_read_fault g.S.Sink.written g.S.Sink.flushed g.S.Sink.faults g.S.Sink.has_room c.args.job
    (terms_of c.args.budget c.args.restarts c.args.kept) (g.D.Desk.left c.args.desk.now)
    made.0 made.3 c.args.sink.now c.reply.new.sink c.args.stops.now.items c.reply.new.stops.items c.reply.result
    (c.reply.ensures made.0 made.1 made.2))
