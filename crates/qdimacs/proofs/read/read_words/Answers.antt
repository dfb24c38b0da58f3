use Rattle.std.proofs.Common.{subst}
use Rattle.std.proofs.lemmas.Result.{err_from_is_err_and}
use Rattle.lexer.specs.State.{upcoming}
use Rattle.lexer.specs.Answers.{Gives, Ends}
use Rattle.qdimacs.specs.Rules.{first_of, end_rules}
use Rattle.qdimacs.specs.Step.{Closes}
use Rattle.qdimacs.proofs.Steps.{word_refused, lexer_refused, closed}
use Rattle.qdimacs.proofs.read.read_words.Goals as goal

pub returns-in_err-take-in-Ok-Some-clause-outcome : goal.returns-in_err-take-in-Ok-Some-clause-outcome
returns-in_err-take-in-Ok-Some-clause-outcome g c =
    let left = g.D.Desk.left in
    let given : Gives c.in-Ok-Some.token (upcoming c.loop-token.lexer (left c.loop-token.desk))
    (upcoming c.next.new.self (left c.next.new.desk)) = rw c.in-Ok-Some.field-0-is at c.in-Ok-Some.ensures.items in
    let p = err_from_is_err_and c.from_residual.result c.from_residual.ensures.1 in
    rw (p.1, p.2) (word_refused (left c.args.desk.now) (upcoming c.loop-token.lexer (left c.loop-token.desk))
    (upcoming c.next.new.self (left c.next.new.desk)) c.loop-token.invariant.front c.in-Ok-Some.token
    c.in_err-take-in-Ok-Some.field-0.0 c.loop-token.invariant.items given
    (c.in_err-take-in-Ok-Some.ensures c.loop-token.invariant.front c.loop-token.invariant.represents))

pub returns-in-Ok-None-clause-outcome : goal.returns-in-Ok-None-clause-outcome
returns-in-Ok-None-clause-outcome g c =
    let left = g.D.Desk.left in
    let ends : Ends c.next.new.self.line (upcoming c.loop-token.lexer (left c.loop-token.desk))
    (upcoming c.next.new.self (left c.next.new.desk)) = rw c.in-Ok-None.field-0-is at c.in-Ok-None.ensures.items in
    let front = c.loop-token.invariant.front in
    closed (left c.args.desk.now) (upcoming c.loop-token.lexer (left c.loop-token.desk))
    (upcoming c.next.new.self (left c.next.new.desk)) front c.next.new.self.line c.close.result
    c.loop-token.invariant.items ends
    (subst (λ n. Closes c.close.result (first_of (end_rules front n))) c.line.ensures
    (c.close.ensures.closing front c.loop-token.invariant.represents))

pub returns-in-Err-clause-outcome : goal.returns-in-Err-clause-outcome
returns-in-Err-clause-outcome g c =
    let left = g.D.Desk.left in
    rw c.refusal_of.ensures (lexer_refused (left c.args.desk.now) (upcoming c.loop-token.lexer (left c.loop-token.desk))
    c.loop-token.invariant.front c.in-Err.e c.loop-token.invariant.items c.in-Err.ensures.items)
