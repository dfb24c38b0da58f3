use Rattle.std.proofs.Common.{◌≡◌, ◌+◌, ◌-◌, Some, None, Option, List, false, true, slice_get, sym, ap, subst, ◌∙◌, arith}
use Rattle.std.specs.Prelude.{if◌then◌else◌, ◌==◌}
use Rattle.std.specs.Io.KnownBytes.{IsAtEnd}
use Rattle.std.proofs.lemmas.Result.{err_from_is_err_and}
use Rattle.lexer.specs.State.{State, upcoming}
use Rattle.lexer.specs.Words.{Item, too_long}
use Rattle.lexer.specs.Answers.{AreBehind}
use Rattle.lexer.proofs.Known.{stays_on, begins_on, peeked, past_blank, blank_beyond, when_none}
use Rattle.lexer.proofs.LineEnds.{line_ended, text_ended}
use Rattle.lexer.proofs.Going.{goes_on, goes_to_past, fault_of_line}
use Rattle.lexer.proofs.lexer.Lexer.skip_in_line.Goals as goal

pub returns-in_err-b-clause-reads : goal.returns-in_err-b-clause-reads
returns-in_err-b-clause-reads g c = goes_on _ _ _ _ _ _ c.loop-b.invariant.reads c.peek.ensures.reads

pub returns-in_default-clause-reads : goal.returns-in_default-clause-reads
returns-in_default-clause-reads g c = goes_on _ _ _ _ _ _ c.loop-b.invariant.reads c.peek.ensures.reads

pub returns-then-not-is_blank-clause-reads : goal.returns-then-not-is_blank-clause-reads
returns-then-not-is_blank-clause-reads g c = goes_on _ _ _ _ _ _ c.loop-b.invariant.reads c.peek.ensures.reads

pub returns-then-room-eq0-clause-reads : goal.returns-then-room-eq0-clause-reads
returns-then-room-eq0-clause-reads g c = goes_on _ _ _ _ _ _ c.loop-b.invariant.reads c.peek.ensures.reads

pub returns-then-is_line_end-clause-reads : goal.returns-then-is_line_end-clause-reads
returns-then-is_line_end-clause-reads g c = goes_on _ _ _ _ _ _ c.loop-b.invariant.reads c.peek.ensures.reads

pub returns-in_err-b-clause-of_line : goal.returns-in_err-b-clause-of_line
returns-in_err-b-clause-of_line g c =
    let p = err_from_is_err_and c.from_residual.result c.from_residual.ensures.1 in
    rw (p.1, p.2) (fault_of_line c.args.self.now.line c.in_err-b.field-0.0 c.in_err-b.ensures.fault)

pub returns-in_default-clause-end : goal.returns-in_default-clause-end
returns-in_default-clause-end g c =
    let left = g.D.Desk.left in
    let none : slice_get c.peek.new.self.ahead 0 ≡ None = sym c.in_ok-b.ensures.next ∙ c.in_default.is in
    subst (λ n. AreBehind n (upcoming c.peek.new.self (left c.peek.new.desk))) (ap (λ (s : State). s.line) c.peek.ensures.same ∙ c.loop-b.invariant.line)
    (text_ended c.peek.new.self (left c.peek.new.desk) none
    (when_none c.in_ok-b.field-0 (IsAtEnd (left c.peek.new.desk)) c.in_default.is c.in_ok-b.ensures.end))

pub returns-then-is_line_end-clause-end : goal.returns-then-is_line_end-clause-end
returns-then-is_line_end-clause-end g c =
    let left = g.D.Desk.left in
    let first : slice_get c.peek.new.self.ahead 0 ≡ Some c.in-Some.b = sym c.in_ok-b.ensures.next ∙ c.in-Some.is in
    subst (λ n. AreBehind n (upcoming c.peek.new.self (left c.peek.new.desk))) (ap (λ (s : State). s.line) c.peek.ensures.same ∙ c.loop-b.invariant.line)
    (line_ended c.peek.new.self c.in-Some.b (left c.peek.new.desk) first (omega arith) (sym c.if-is_line_end.ensures))

pub returns-then-room-eq0-clause-of_line : goal.returns-then-room-eq0-clause-of_line
returns-then-room-eq0-clause-of_line g c = c.line.ensures ∙ ap (λ (s : State). s.line) c.peek.ensures.same ∙ c.loop-b.invariant.line

pub returns-then-room-eq0-clause-refusal : goal.returns-then-room-eq0-clause-refusal
returns-then-room-eq0-clause-refusal g c =
    let left = g.D.Desk.left in
    let before : Option (List Item) = upcoming c.args.self.now (left c.args.desk.now) in
    let turn : Option (List Item) = upcoming c.loop-b.self (left c.loop-b.desk) in
    let after : Option (List Item) = upcoming c.peek.new.self (left c.peek.new.desk) in
    let first : slice_get c.peek.new.self.ahead 0 ≡ Some c.in-Some.b = sym c.in_ok-b.ensures.next ∙ c.in-Some.is in
    rw c.line.ensures (begins_on before after (too_long c.peek.new.self.line)
    (stays_on before turn after c.loop-b.invariant.items
    (peeked c.loop-b.self c.peek.new.self _ _ c.peek.ensures.same c.peek.ensures.bytes))
    (blank_beyond c.peek.new.self c.in-Some.b (left c.peek.new.desk) first (sym c.room.ensures ∙ c.if-room-eq0.true)
    (sym c.if-not-is_blank.ensures)))

pub loop-b-preserved : goal.loop-b-preserved
loop-b-preserved g c =
    let left = g.D.Desk.left in
    let before : Option (List Item) = upcoming c.args.self.now (left c.args.desk.now) in
    let turn : Option (List Item) = upcoming c.loop-b.self (left c.loop-b.desk) in
    let after : Option (List Item) = upcoming c.peek.new.self (left c.peek.new.desk) in
    let first : slice_get c.peek.new.self.ahead 0 ≡ Some c.in-Some.b = sym c.in_ok-b.ensures.next ∙ c.in-Some.is in
    let room : c.peek.new.self.room ≡ c.loop-b.self.room = ap (λ (s : State). s.room) c.peek.ensures.same in
    let less : c.advance.new.self.room ≡ c.peek.new.self.room - 1 = ap (λ (s : State). s.room) c.advance.ensures in
    let within : (c.in-Some.b == 10) ≡ false = sym c.if-is_line_end.ensures in
    record {
      items = stays_on before after (upcoming c.advance.new.self (left c.peek.new.desk))
          (stays_on before turn after c.loop-b.invariant.items
          (peeked c.loop-b.self c.peek.new.self _ _ c.peek.ensures.same c.peek.ensures.bytes))
          (rw c.advance.ensures (past_blank c.peek.new.self c.in-Some.b (left c.peek.new.desk) first (omega arith)
          (sym c.if-not-is_blank.ensures)));
      kept = c.in_ok-b.ensures.cause.kept ∙ c.loop-b.invariant.kept;
      flows = λ h. (c.peek.ensures.flows (c.loop-b.invariant.flows h)).1;
      content = λ n. c.peek.ensures.content n ∙ c.loop-b.invariant.content n;
      stays = λ n h. c.peek.ensures.stays n (c.loop-b.invariant.stays n h);
      reads = goes_on _ _ _ _ _ _ c.loop-b.invariant.reads (goes_on _ _ _ _ _ _ c.peek.ensures.reads
          (goes_to_past c.peek.new.self c.advance.new.self c.in-Some.b c.peek.new.desk first c.advance.ensures));
      room = omega arith;
      comments = ap (λ (s : State). s.comments) c.advance.ensures ∙ ap (λ (s : State). s.comments) c.peek.ensures.same
          ∙ c.loop-b.invariant.comments;
      failed = ap (λ (s : State). s.failed) c.advance.ensures ∙ ap (λ (s : State). s.failed) c.peek.ensures.same
          ∙ c.loop-b.invariant.failed;
      fresh = ap (λ (s : State). s.fresh) c.advance.ensures
          ∙ ap (λ t. if t then true else c.peek.new.self.fresh) within
          ∙ ap (λ (s : State). s.fresh) c.peek.ensures.same ∙ c.loop-b.invariant.fresh;
      line = ap (λ (s : State). s.line) c.advance.ensures
          ∙ ap (λ t. if t then c.peek.new.self.line + 1 else c.peek.new.self.line) within
          ∙ ap (λ (s : State). s.line) c.peek.ensures.same ∙ c.loop-b.invariant.line;
    }
