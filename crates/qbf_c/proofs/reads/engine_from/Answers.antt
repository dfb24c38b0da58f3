use Rattle.std.proofs.Common.{Err, subst}
use Rattle.std.specs.Prelude.{IfSome}
use Rattle.std.proofs.lemmas.Result.{err_from_is_err_and}
use Rattle.qdimacs.specs.Answers.{IsAnswer}
use Rattle.qbf_c.proofs.Reading.{unread}
use Rattle.qbf_c.proofs.reads.engine_from.Goals as goal

pub returns-in_err-f-clause-refused : goal.returns-in_err-f-clause-refused
returns-in_err-f-clause-refused c =
    let p = err_from_is_err_and c.from_residual-in_err-f.result c.from_residual-in_err-f.ensures.1 in
    rw (p.1, p.2) (unread c.args.text.now c.in_err-f.field-0.0
    (subst (λ o. IfSome o (IsAnswer (Err c.in_err-f.field-0.0))) c.in_ok-desk.ensures.left c.in_err-f.ensures.outcome)
    (c.in_err-f.ensures.flows c.in_ok-desk.ensures.flows).0)
