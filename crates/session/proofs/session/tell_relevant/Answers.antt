use Rattle.qscript.specs.declared.command.Command.TheVariants.{Relevant}
use Rattle.session.proofs.Telling.{tells, tells_relevant, unrefused}
use Rattle.session.specs.Replies.{relevant_text}
use Rattle.session.proofs.session.tell_relevant.Goals as goal

pub returns-in-Ok : goal.returns-in-Ok
returns-in-Ok g c terms s holds =
    let e = c.args.engine.now in
    let lits = c.in-Ok.lits in
    tells g.S.Sink.written g.S.Sink.flushed g.S.Sink.faults g.S.Sink.has_room terms Relevant s c.args.sink.now
    c.write_relevant.new.sink e (relevant_text lits.now) c.write_relevant.result c.send.result
    (tells_relevant terms e s holds lits.now (unrefused _ _ c.relevant.result lits c.in-Ok.is
    c.relevant.ensures.refused) c.in-Ok.ensures.value c.relevant.ensures.verdict) holds c.write_relevant.ensures
    c.send.ensures
