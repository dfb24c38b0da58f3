use Rattle.std.proofs.Common.{◌++◌, ap, ◌∙◌}
use Rattle.buffers.specs.Filled.{Drafted}
use Rattle.qrp_trace.specs.Texts.{qrp_text}
use Rattle.qbf_c.proofs.Telling.{trace_told}
use Rattle.qbf_c.proofs.texts.trace_text.Goals as goal

pub returns-in-Ok-write_trace-clause-text : goal.returns-in-Ok-write_trace-clause-text
returns-in-Ok-write_trace-clause-text c =
    let e = c.args.engine.now in
    trace_told e e.verdict c.in-Ok.core c.prefix.result.now c.derivation-proof.result.now c.write_trace.new.sink.bytes
    c.in-Ok.ensures.list c.in-Ok.ensures.winner c.in-Ok.ensures.numbered c.in-Ok.ensures.few
    c.derivation-proof.ensures.proof c.prefix.ensures.value
    (c.in-Ok-write_trace.ensures.ok
    ∙ ap (λ (d : Drafted). d.bytes ++ qrp_text c.prefix.result.now c.in-Ok.core) c.new-draft.ensures)
