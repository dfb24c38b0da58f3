use Rattle.std.proofs.Common.{◌≡◌}
use Rattle.std.proofs.lemmas.Result.{on_ok_weaker}
use Rattle.aiger_out.specs.Binary.{IsAigBytes}
use Rattle.aiger_out.specs.Written.{written}
use Rattle.aiger_out.specs.declared.line.Form.TheVariants.{Binary}
use Rattle.ports.proofs.Pieces.{cause_of, front_of, kept_of, on_ok, room_of}
use Rattle.aiger_out.proofs.SameBytes.{have_one_form}
use Rattle.aiger_out.proofs.Texts.{bytes_are}
use Rattle.aiger_out.proofs.write.write_aig.Goals as goal

pub returns-clause-ok : goal.returns-clause-ok
returns-clause-ok g c =
    let s = c.args.strategy.now in
    let denotes : IsAigBytes (written Binary s) s = bytes_are s c.requires c.put_circuit.ensures.gates in
    on_ok_weaker c.put_circuit.result (λ whole. (written Binary s, denotes, whole))
    (on_ok g.S.Sink.written g.S.Sink.flushed g.S.Sink.faults g.S.Sink.has_room c.put_circuit.result c.args.sink.now
    c.put_circuit.new.sink (written Binary s) c.put_circuit.ensures.written)

pub returns-clause-front : goal.returns-clause-front
returns-clause-front g c =
    let s = c.args.strategy.now in (
      written Binary s,
      bytes_are s c.requires c.put_circuit.ensures.gates,
      front_of g.S.Sink.written g.S.Sink.flushed g.S.Sink.faults g.S.Sink.has_room c.put_circuit.result
          c.args.sink.now c.put_circuit.new.sink (written Binary s) c.put_circuit.ensures.written,
    )

pub returns-clause-flushed : goal.returns-clause-flushed
returns-clause-flushed g c =
    kept_of g.S.Sink.written g.S.Sink.flushed g.S.Sink.faults g.S.Sink.has_room c.put_circuit.result c.args.sink.now
    c.put_circuit.new.sink (written Binary c.args.strategy.now) c.put_circuit.ensures.written

pub returns-clause-cause : goal.returns-clause-cause
returns-clause-cause g c =
    cause_of g.S.Sink.written g.S.Sink.flushed g.S.Sink.faults g.S.Sink.has_room c.put_circuit.result c.args.sink.now
    c.put_circuit.new.sink (written Binary c.args.strategy.now) c.put_circuit.ensures.written

pub returns-clause-room : goal.returns-clause-room
returns-clause-room g c = λ bytes n is within has.
    let s = c.args.strategy.now in
    let denotes : IsAigBytes (written Binary s) s = bytes_are s c.requires c.put_circuit.ensures.gates in
    let same : bytes ≡ written Binary s = have_one_form s bytes (written Binary s) is denotes in
    rw same
    (room_of g.S.Sink.written g.S.Sink.flushed g.S.Sink.faults g.S.Sink.has_room c.put_circuit.result
    c.args.sink.now c.put_circuit.new.sink (written Binary s) c.put_circuit.ensures.written n (rw same at within) has)
