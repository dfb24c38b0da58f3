use Rattle.std.proofs.Common.{◌≡◌, ◌∙◌, Err, ap, refl}
use Rattle.std.proofs.lemmas.Result.{err_from_is_err_and}
use Rattle.aiger_out.specs.Aag.{IsAagText}
use Rattle.files.proofs.Checking.{text_failed, text_sent}
use Rattle.files.proofs.check.write_instead.Goals as goal

pub returns-in_err-write_circuit : goal.returns-in_err-write_circuit
returns-in_err-write_circuit g c stops =
    let p = err_from_is_err_and c.from_residual.result c.from_residual.ensures.1 in
    let wrote = c.in_err-write_circuit.ensures in
    text_failed g.S.Sink.written g.S.Sink.flushed g.S.Sink.faults g.S.Sink.has_room
    (λ o text. (o ≡ c.args.outcome) × IsAagText text c.args.circuit.now) c.args.sink.now c.write_circuit.new.sink
    (stops, stops) c.args.outcome wrote.0 wrote.0 refl (refl, wrote.1) wrote.2 c.from_residual.result
    (p.1 ∙ ap Err p.2)

pub returns : goal.returns
returns g c stops =
    let wrote = c.in_ok-write_circuit.ensures in
    text_sent g.S.Sink.written g.S.Sink.flushed g.S.Sink.faults g.S.Sink.has_room
    (λ o text. (o ≡ c.args.outcome) × IsAagText text c.args.circuit.now) c.args.sink.now c.write_circuit.new.sink
    (stops, stops) c.args.outcome c.args.outcome wrote.0 wrote.0 refl refl (refl, wrote.1) wrote.2
