use Rattle.example_engine.proofs.Answering.{is_right}
use Rattle.example_engine.proofs.answer.decide.Goals as goal

pub returns-in-Ok-certificate : goal.returns-in-Ok-certificate
returns-in-Ok-certificate c =
    let solved = c.in-Ok.ensures in
    let certified = c.in-Ok-certificate.ensures in
    is_right c.args.engine.now.formula c.in-Ok.verdict c.solve.new.self c.in-Ok-certificate.circuit solved.truth
    solved.proof solved.emptied certified.strategy certified.certifies
