use Rattle.std.proofs.lemmas.Result.{err_from_is_err_and}
use Rattle.solve.specs.Terms.{terms_of}
use Rattle.files.proofs.Checking.{check_ended, check_output, check_read, check_sends}
use Rattle.solve.proofs.Taking.{taken_before, taken_in_vain}
use Rattle.files.proofs.check.check.Goals as goal

pub returns-clause-ending : goal.returns-clause-ending
returns-clause-ending g c =
    let made = c.in_ok-engine.ensures.formula in
    check_ended g.S.Sink.written g.S.Sink.flushed g.S.Sink.faults g.S.Sink.has_room c.args.request.decide
    (terms_of c.args.request.budget c.args.request.restarts c.args.request.kept) (g.D.Desk.left c.args.desk.now)
    c.in_ok-engine.f made.2
    c.args.sink.now c.check_held.new.sink c.args.stops.now.items c.check_held.new.stops.items c.check_held.result
    c.check_held.ensures

pub returns-clause-output : goal.returns-clause-output
returns-clause-output g c =
    let made = c.in_ok-engine.ensures.formula in
    check_output g.S.Sink.written g.S.Sink.flushed g.S.Sink.faults g.S.Sink.has_room c.args.request.decide
    (terms_of c.args.request.budget c.args.request.restarts c.args.request.kept) (g.D.Desk.left c.args.desk.now)
    c.in_ok-engine.f made.2
    c.args.sink.now c.check_held.new.sink c.args.stops.now.items c.check_held.new.stops.items c.check_held.result
    c.check_held.ensures

pub returns-clause-sink : goal.returns-clause-sink
returns-clause-sink g c =
    let made = c.in_ok-engine.ensures.formula in
    check_sends g.S.Sink.written g.S.Sink.flushed g.S.Sink.faults g.S.Sink.has_room c.args.request.decide
    (terms_of c.args.request.budget c.args.request.restarts c.args.request.kept) (g.D.Desk.left c.args.desk.now)
    c.in_ok-engine.f made.2
    c.args.sink.now c.check_held.new.sink c.args.stops.now.items c.check_held.new.stops.items c.check_held.result
    c.check_held.ensures

pub returns-in_err-engine-clause-desk : goal.returns-in_err-engine-clause-desk
returns-in_err-engine-clause-desk g c =
    let p = err_from_is_err_and c.from_residual.result c.from_residual.ensures.1 in
    rw (p.1, p.2) (taken_in_vain g.D.Desk.content g.D.Desk.left g.D.Desk.faults g.D.Desk.steady g.D.Desk.flows
    c.args.desk.now c.load.new.desk _ c.in_err-engine.field-0.0 c.in_err-engine.ensures.desk)

pub returns-clause-desk : goal.returns-clause-desk
returns-clause-desk g c =
    let made = c.in_ok-engine.ensures.formula in
    taken_before g.D.Desk.content g.D.Desk.left g.D.Desk.faults g.D.Desk.steady g.D.Desk.flows
    c.args.desk.now c.load.new.desk _ c.check_held.result c.in_ok-engine.ensures.desk
    (check_read g.S.Sink.written g.S.Sink.flushed g.S.Sink.faults g.S.Sink.has_room c.args.request.decide
    (terms_of c.args.request.budget c.args.request.restarts c.args.request.kept) (g.D.Desk.left c.args.desk.now)
    c.in_ok-engine.f made.2
    c.args.sink.now c.check_held.new.sink c.args.stops.now.items c.check_held.new.stops.items c.check_held.result
    c.check_held.ensures)
