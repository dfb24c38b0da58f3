use Rattle.std.proofs.Common.{◌≡◌, List, Err, Some, subst}
use Rattle.trail.specs.State.{Account}
use Rattle.aiger_out.specs.Aag.{IsAagText}
use Rattle.certcheck.specs.Building.{IsAnswer, limit_of}
use Rattle.files.specs.Checks.{IsCheck, IsCheckReply, check_of}
use Rattle.solve.specs.Terms.{terms_of}
use Rattle.files.specs.declared.check.Outcome.TheVariants.{Beyond}
use Rattle.files.proofs.Checking.{beyond, has_circuit, is_false, is_for, of_reply, outcome_map}
use Rattle.files.proofs.check.check_verdict.Goals as goal

pub check_formula-requires : goal.check_formula-requires
check_formula-requires g c =
    let terms = terms_of c.args.request.budget c.args.request.restarts c.args.request.kept in
    let made = c.in_ok-circuit.ensures in
    is_for terms c.args.f.now c.args.value c.in_ok-circuit.circuit
    (has_circuit terms c.args.f.now c.args.value c.args.engine.now c.in_ok-circuit.circuit c.requires.decided
    made.strategy made.certifies) c.requires.formed

pub write_checked-requires-clause-unsatisfiable : goal.write_checked-requires-clause-unsatisfiable
write_checked-requires-clause-unsatisfiable g c =
    let terms = terms_of c.args.request.budget c.args.request.restarts c.args.request.kept in
    let made = c.in_ok-circuit.ensures in
    is_false terms c.args.f.now c.args.value c.in_ok-circuit.circuit
    (has_circuit terms c.args.f.now c.args.value c.args.engine.now c.in_ok-circuit.circuit c.requires.decided
    made.strategy made.certifies) c.in-Ok.g c.in-Ok.ensures.decides

pub returns-in-Ok : goal.returns-in-Ok
returns-in-Ok g c =
    let terms = terms_of c.args.request.budget c.args.request.restarts c.args.request.kept in
    let f = c.args.f.now in
    let circuit = c.in_ok-circuit.circuit in
    let made = c.in_ok-circuit.ensures in
    let has = has_circuit terms f c.args.value c.args.engine.now circuit c.requires.decided made.strategy
    made.certifies in
    let stops : List Account × List Account = (c.args.stops.now.items, c.write_checked.new.stops.items) in
    outcome_map g.S.Sink.written g.S.Sink.flushed g.S.Sink.faults g.S.Sink.has_room
    (IsCheckReply c.args.request.decide terms c.in-Ok.g c.args.value stops)
    (IsCheck c.args.request.decide terms f stops)
    (of_reply terms f c.args.value circuit has c.in-Ok.g c.in-Ok.ensures.answer.0 c.in-Ok.ensures.answer.1
    (is_false terms f c.args.value circuit has c.in-Ok.g c.in-Ok.ensures.decides) c.args.request.decide stops)
    c.args.sink.now c.write_checked.new.sink stops c.write_checked.result c.write_checked.ensures

pub returns-in-Err-Limit : goal.returns-in-Err-Limit
returns-in-Err-Limit g c =
    let terms = terms_of c.args.request.budget c.args.request.restarts c.args.request.kept in
    let f = c.args.f.now in
    let circuit = c.in_ok-circuit.circuit in
    let quantity = c.in-Err-Limit.quantity in
    let made = c.in_ok-circuit.ensures in
    let has = has_circuit terms f c.args.value c.args.engine.now circuit c.requires.decided made.strategy
    made.certifies in
    let limit : limit_of (check_of f circuit) ≡ Some quantity =
    subst (λ e. IsAnswer (Err e) (check_of f circuit)) c.in-Err-Limit.field-0-is c.in-Err-Limit.ensures.answer in
    let stops : List Account × List Account = (c.args.stops.now.items, c.args.stops.now.items) in
    outcome_map g.S.Sink.written g.S.Sink.flushed g.S.Sink.faults g.S.Sink.has_room
    (λ o text. (o ≡ Beyond quantity) × IsAagText text circuit) (IsCheck c.args.request.decide terms f stops)
    (beyond terms f c.args.value circuit has c.args.request.decide c.args.stops.now.items quantity limit)
    c.args.sink.now c.write_instead.new.sink stops c.write_instead.result
    (rw c.in-Err-Limit.field-0-is at (c.write_instead.ensures c.args.stops.now.items))
