use Rattle.aiger_out.specs.Binary.{IsAigBytes}
use Rattle.aiger_out.proofs.SameBytes.{have_one_form}
use Rattle.ports.proofs.Pieces.{writes_all}
use Rattle.solve.proofs.Written.{appended_whole}
use Rattle.solve.proofs.lines.write_bytes.Goals as goal

pub returns : goal.returns
returns g c =
    let s = c.args.strategy.now in
    let front = c.write_aig.ensures.front in
    let bytes = front.0 in (
      bytes,
      front.1,
      writes_all g.S.Sink.written g.S.Sink.flushed g.S.Sink.faults g.S.Sink.has_room c.write_aig.result c.args.sink.now
          c.write_aig.new.sink bytes
          (appended_whole (λ t. IsAigBytes t s) c.write_aig.result bytes _ _
          (λ other is. have_one_form s other bytes is front.1) c.write_aig.ensures.ok)
          front.2 c.write_aig.ensures.flushed c.write_aig.ensures.cause
          (λ n le has. c.write_aig.ensures.room bytes n front.1 le has),
    )
