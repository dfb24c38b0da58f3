use Rattle.qbf_c.proofs.Telling.{circuit_told}
use Rattle.qbf_c.proofs.texts.circuit_text.Goals as goal

pub returns-clause-text : goal.returns-clause-text
returns-clause-text c =
    let e = c.args.engine.now in
    circuit_told c.args.form.binary c.args.form.trimmed e e.verdict c.in_ok-strategy.strategy c.written.result
    c.in_ok-strategy.ensures.told c.written.ensures.text
