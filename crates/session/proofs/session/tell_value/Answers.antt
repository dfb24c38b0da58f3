use Rattle.qscript.specs.declared.command.Command.TheVariants.{Value}
use Rattle.session.proofs.Telling.{tells, tells_value, unrefused}
use Rattle.session.specs.Replies.{value_text}
use Rattle.session.proofs.session.tell_value.Goals as goal

pub returns-in-Ok : goal.returns-in-Ok
returns-in-Ok g c terms s holds =
    let e = c.args.engine.now in
    let lit = c.in-Ok.lit in
    tells g.S.Sink.written g.S.Sink.flushed g.S.Sink.faults g.S.Sink.has_room terms (Value c.args.var) s c.args.sink.now
    c.write_value.new.sink e (value_text lit) c.write_value.result c.send.result
    (tells_value terms e s holds c.args.var lit (unrefused _ _ c.value.result lit c.in-Ok.is c.value.ensures.refused)
    c.in-Ok.ensures.value) holds c.write_value.ensures c.send.ensures
