use Rattle.solve.proofs.Certified.{certifies_after}
use Rattle.files.proofs.file.whole_circuit.Goals as goal

pub returns-in-Ok-clause-certifies : goal.returns-in-Ok-clause-certifies
returns-in-Ok-clause-certifies c terms s holds = certifies_after terms c.args.engine.now s holds c.in-Ok.strategy
    c.in-Ok.ensures.certifies c.in-Ok.ensures.few
