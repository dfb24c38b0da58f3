use Rattle.qscript.specs.declared.command.Command.TheVariants.{Cert}
use Rattle.session.proofs.Telling.{tells, tells_circuit, unrefused}
use Rattle.session.proofs.session.tell_circuit.Goals as goal

pub returns-in-Ok : goal.returns-in-Ok
returns-in-Ok g c terms s holds =
    let e = c.args.engine.now in
    let strategy = c.in-Ok.strategy in
    let text = c.write_circuit.ensures.0 in
    tells g.S.Sink.written g.S.Sink.flushed g.S.Sink.faults g.S.Sink.has_room terms Cert s c.args.sink.now
    c.write_circuit.new.sink e text c.write_circuit.result c.send.result
    (tells_circuit terms e s holds strategy text c.write_circuit.ensures.1 (unrefused _ _ c.certificate.result strategy
    c.in-Ok.is c.certificate.ensures.refused) c.in-Ok.ensures.certifies c.in-Ok.ensures.few) holds
    c.write_circuit.ensures.2 c.send.ensures
