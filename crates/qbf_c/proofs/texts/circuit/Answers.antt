use Rattle.qbf_c.proofs.Telling.{told_cut, told_whole}
use Rattle.qbf_c.proofs.texts.circuit.Goals as goal

pub returns-then-not-trimmed-clause-told : goal.returns-then-not-trimmed-clause-told
returns-then-not-trimmed-clause-told c =
    let e = c.args.engine.now in
    told_whole c.args.trimmed e e.verdict c.in_ok-whole.whole c.if-not-trimmed.true c.in_ok-whole.ensures.strategy
    c.in_ok-whole.ensures.few c.in_ok-whole.ensures.certifies

pub returns-in-Ok-clause-told : goal.returns-in-Ok-clause-told
returns-in-Ok-clause-told c =
    let e = c.args.engine.now in
    told_cut c.args.trimmed e e.verdict c.in_ok-whole.whole c.in-Ok.strategy c.if-not-trimmed.false
    c.in-Ok.ensures.trimmed c.in-Ok.ensures.gates c.in-Ok.ensures.plays c.in_ok-whole.ensures.few
    c.in_ok-whole.ensures.certifies
