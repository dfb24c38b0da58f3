use Rattle.qscript.specs.declared.command.Command.TheVariants.{Trace}
use Rattle.session.proofs.Telling.{tells, tells_trace, unrefused}
use Rattle.qrp_trace.specs.Texts.{qrp_text}
use Rattle.session.proofs.session.tell_trace.Goals as goal

pub returns-in-Ok : goal.returns-in-Ok
returns-in-Ok g c terms s holds =
    let e = c.args.engine.now in
    let core = c.in-Ok.core in
    tells g.S.Sink.written g.S.Sink.flushed g.S.Sink.faults g.S.Sink.has_room terms Trace s c.args.sink.now
    c.write_core.new.sink e (qrp_text c.prefix.result.now core) c.write_core.result c.send.result
    (tells_trace terms e s holds core c.prefix.result.now c.derivation-proof.result.now c.prefix.ensures.value
    (unrefused _ _ c.trace_core.result core c.in-Ok.is c.trace_core.ensures.refused) c.in-Ok.ensures.winner
    c.in-Ok.ensures.list c.in-Ok.ensures.numbered c.derivation-proof.ensures.proof) holds c.write_core.ensures
    c.send.ensures
