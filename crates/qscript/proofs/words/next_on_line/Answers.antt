use Rattle.std.proofs.Common.{sym, subst}
use Rattle.lexer.specs.State.{upcoming}
use Rattle.qscript.specs.Run.{within}
use Rattle.qscript.specs.State.{EndsReading, reading_ahead}
use Rattle.qscript.proofs.Lining.{line_telling, line_fault, err_is, no_want, unread}
use Rattle.qscript.proofs.words.next_on_line.Goals as goal

pub returns-in-Ok-clause-telling : goal.returns-in-Ok-clause-telling
returns-in-Ok-clause-telling g c =
    line_telling c.args.lexer.now c.next_on_line.new.self (g.D.Desk.left c.args.desk.now) (g.D.Desk.left c.next_on_line.new.desk)
    c.in-Ok.word _ c.in-Ok.ensures.items

pub returns-in-Err-clause-err : goal.returns-in-Err-clause-err
returns-in-Err-clause-err g c = λ named draft.
    subst (λ r. EndsReading r (reading_ahead (within named c.args.lexer.now.line draft) c.args.lexer.now
    (g.D.Desk.left c.args.desk.now))) (sym c.refusal_of.ensures)
    (line_fault c.in-Err.e named c.args.lexer.now.line draft
    (upcoming c.args.lexer.now (g.D.Desk.left c.args.desk.now)) c.in-Err.ensures.items.0 c.in-Err.ensures.items.1)

pub returns-in-Err-clause-memory : goal.returns-in-Err-clause-memory
returns-in-Err-clause-memory g c = λ is.
    no_want c.in-Err.e c.refusal_of.result c.refusal_of.ensures (err_is _ _ is)

pub returns-in-Err-clause-cause : goal.returns-in-Err-clause-cause
returns-in-Err-clause-cause g c = record {
  later = c.in-Err.ensures.cause.later;
  rose = λ is. c.in-Err.ensures.cause.rose (unread c.in-Err.e c.refusal_of.result c.refusal_of.ensures (err_is _ _ is));
  kept = λ ok. absurd (cc);
}

pub returns-in-Err-clause-flows : goal.returns-in-Err-clause-flows
returns-in-Err-clause-flows g c = λ flows.
    let on = c.in-Err.ensures.flows flows in
    (λ is. on.0 (unread c.in-Err.e c.refusal_of.result c.refusal_of.ensures (err_is _ _ is)), on.1)
