use Rattle.aiger_out.specs.Aag.{IsAagText}
use Rattle.aiger_out.proofs.Same.{have_one_text}
use Rattle.ports.proofs.Pieces.{writes_all}
use Rattle.solve.proofs.Written.{appended_whole}
use Rattle.solve.proofs.lines.write_text.Goals as goal

pub returns : goal.returns
returns g c =
    let s = c.args.strategy.now in
    let front = c.write_aag.ensures.front in
    let text = front.0 in (
      text,
      front.1,
      writes_all g.S.Sink.written g.S.Sink.flushed g.S.Sink.faults g.S.Sink.has_room c.write_aag.result c.args.sink.now
          c.write_aag.new.sink text
          (appended_whole (λ t. IsAagText t s) c.write_aag.result text _ _
          (λ other is. have_one_text s other text is front.1) c.write_aag.ensures.ok)
          front.2 c.write_aag.ensures.flushed c.write_aag.ensures.cause
          (λ n le has. c.write_aag.ensures.room text n front.1 le has),
    )
