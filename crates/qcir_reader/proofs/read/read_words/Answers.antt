use Rattle.std.proofs.Common.{refl, sym, subst, ◌∙◌}
use Rattle.std.specs.Prelude.{option_map}
use Rattle.std.proofs.lemmas.Result.{err_from_is_err_and}
use Rattle.lexer.specs.State.{upcoming}
use Rattle.lexer.specs.Answers.{Gives, Ends}
use Rattle.qcir_reader.specs.Rules.{first_of, end_rules}
use Rattle.qcir_reader.specs.Answers.{Closes}
use Rattle.lexer.specs.declared.token.Comments.TheVariants.{Hash}
use Rattle.lexer.specs.Words.{items}
use Rattle.qcir_reader.specs.Grammar.{sign_of}
use Rattle.qcir_reader.specs.Run.{noted}
use Rattle.qcir_reader.specs.Answers.{Remains}
use Rattle.qcir_reader.proofs.Steps.{taken, word_refused, lexer_refused, closed}
use Rattle.qcir_reader.proofs.read.read_words.Goals as goal

pub returns-in_err-take-in-Ok-Some-clause-outcome : goal.returns-in_err-take-in-Ok-Some-clause-outcome
returns-in_err-take-in-Ok-Some-clause-outcome g c =
    let left = g.D.Desk.left in
    let given : Gives c.in-Ok-Some.token (upcoming c.loop-token.lexer (left c.loop-token.desk))
    (upcoming c.next.new.self (left c.next.new.desk)) = rw c.in-Ok-Some.field-0-is at c.in-Ok-Some.ensures.items in
    let p = err_from_is_err_and c.from_residual.result c.from_residual.ensures.1 in
    rw (p.1, p.2) (word_refused (left c.args.desk.now) (upcoming c.loop-token.lexer (left c.loop-token.desk))
    (upcoming c.next.new.self (left c.next.new.desk)) c.loop-token.reader.stage c.loop-token.invariant.front
    c.in-Ok-Some.token c.in_err-take-in-Ok-Some.field-0.0 c.loop-token.invariant.items given
    (c.in_err-take-in-Ok-Some.ensures c.loop-token.invariant.front c.loop-token.invariant.represents))

pub returns-in-Ok-None-clause-outcome : goal.returns-in-Ok-None-clause-outcome
returns-in-Ok-None-clause-outcome g c =
    let left = g.D.Desk.left in
    let ends : Ends c.next.new.self.line (upcoming c.loop-token.lexer (left c.loop-token.desk))
    (upcoming c.next.new.self (left c.next.new.desk)) = rw c.in-Ok-None.field-0-is at c.in-Ok-None.ensures.items in
    let front = c.loop-token.invariant.front in
    let stage = c.loop-token.reader.stage in
    closed (left c.args.desk.now) (upcoming c.loop-token.lexer (left c.loop-token.desk))
    (upcoming c.next.new.self (left c.next.new.desk)) stage front c.next.new.self.line c.close.result
    c.loop-token.invariant.items ends
    (subst (λ n. Closes c.close.result (first_of (end_rules stage front n))) c.line.ensures
    (c.close.ensures.closing front c.loop-token.invariant.represents))

pub returns-in-Err-clause-outcome : goal.returns-in-Err-clause-outcome
returns-in-Err-clause-outcome g c =
    let left = g.D.Desk.left in
    rw c.refusal_of.ensures (lexer_refused (left c.args.desk.now) (upcoming c.loop-token.lexer (left c.loop-token.desk))
    c.loop-token.reader.stage c.loop-token.invariant.front c.in-Err.e c.loop-token.invariant.items
    c.in-Err.ensures.items)

pub loop-token-preserved : goal.loop-token-preserved
loop-token-preserved g c =
    let left = g.D.Desk.left in
    let given : Gives c.in-Ok-Some.token (upcoming c.loop-token.lexer (left c.loop-token.desk))
    (upcoming c.next.new.self (left c.next.new.desk)) = rw c.in-Ok-Some.field-0-is at c.in-Ok-Some.ensures.items in
    let t = c.in-Ok-Some.token in
    let stage = c.loop-token.reader.stage in
    let front = c.loop-token.invariant.front in
    let on = c.in_ok-take-in-Ok-Some.ensures front c.loop-token.invariant.represents in
    record {
      front = noted stage front (sign_of t.word) t.line;
      represents = on.1.1;
      items = subst (λ st. Remains (option_map (items Hash) (left c.args.desk.now)) st
          (noted stage front (sign_of t.word) t.line) (upcoming c.next.new.self (left c.next.new.desk))) (sym on.1.0)
          (taken (option_map (items Hash) (left c.args.desk.now)) (upcoming c.loop-token.lexer (left c.loop-token.desk))
          (upcoming c.next.new.self (left c.next.new.desk)) stage front t c.loop-token.invariant.items given on.0);
      failed = c.in-Ok-Some.ensures.failed;
      kept = c.in-Ok-Some.ensures.cause.kept refl ∙ c.loop-token.invariant.kept;
      flows = λ h. (c.next.ensures.flows (c.loop-token.invariant.flows h)).1;
      content = λ n. c.next.ensures.content n ∙ c.loop-token.invariant.content n;
      stays = λ n h. c.next.ensures.stays n (c.loop-token.invariant.stays n h);
    }
