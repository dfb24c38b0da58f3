use Rattle.std.proofs.Common.{◌≡◌, ◌-◌, Some, None, Option, List, slice_get, sym, ap, ◌∙◌, arith}
use Rattle.lexer.specs.State.{State, upcoming}
use Rattle.lexer.specs.Words.{Item, too_long}
use Rattle.lexer.specs.Machine.{upcoming_in_comment}
use Rattle.lexer.proofs.Known.{stays_on, begins_on, peeked_in_comment, past_in_comment, past_line, comment_beyond, comment_ended, when_none}
use Rattle.std.specs.Io.KnownBytes.{IsAtEnd}
use Rattle.lexer.proofs.Going.{goes_on, goes_to_past}
use Rattle.lexer.proofs.lexer.Lexer.skip_line.Goals as goal

pub returns-in_default-clause-items : goal.returns-in_default-clause-items
returns-in_default-clause-items g c =
    let left = g.D.Desk.left in
    let before : Option (List Item) = upcoming_in_comment c.args.self.now (left c.args.desk.now) in
    let turn : Option (List Item) = upcoming_in_comment c.loop-b.self (left c.loop-b.desk) in
    let after : Option (List Item) = upcoming_in_comment c.peek.new.self (left c.peek.new.desk) in
    let first : slice_get c.peek.new.self.ahead 0 ≡ None = sym c.in_ok-b.ensures.next ∙ c.in_default.is in
    stays_on before after (upcoming c.peek.new.self (left c.peek.new.desk))
    (stays_on before turn after c.loop-b.invariant.items
    (peeked_in_comment c.loop-b.self c.peek.new.self _ _ c.peek.ensures.same c.peek.ensures.bytes))
    (comment_ended c.peek.new.self (left c.peek.new.desk) first
    (when_none c.in_ok-b.field-0 (IsAtEnd (left c.peek.new.desk)) c.in_default.is c.in_ok-b.ensures.end))

pub returns-then-room-eq0-clause-refusal : goal.returns-then-room-eq0-clause-refusal
returns-then-room-eq0-clause-refusal g c =
    let left = g.D.Desk.left in
    let before : Option (List Item) = upcoming_in_comment c.args.self.now (left c.args.desk.now) in
    let turn : Option (List Item) = upcoming_in_comment c.loop-b.self (left c.loop-b.desk) in
    let after : Option (List Item) = upcoming_in_comment c.peek.new.self (left c.peek.new.desk) in
    let first : slice_get c.peek.new.self.ahead 0 ≡ Some c.in-Some.b = sym c.in_ok-b.ensures.next ∙ c.in-Some.is in
    rw c.line.ensures (begins_on before after (too_long c.peek.new.self.line)
    (stays_on before turn after c.loop-b.invariant.items
    (peeked_in_comment c.loop-b.self c.peek.new.self _ _ c.peek.ensures.same c.peek.ensures.bytes))
    (comment_beyond c.peek.new.self c.in-Some.b (left c.peek.new.desk) first (sym c.room.ensures ∙ c.if-room-eq0.true)))

pub returns-then-b-eq10-clause-items : goal.returns-then-b-eq10-clause-items
returns-then-b-eq10-clause-items g c =
    let left = g.D.Desk.left in
    let before : Option (List Item) = upcoming_in_comment c.args.self.now (left c.args.desk.now) in
    let turn : Option (List Item) = upcoming_in_comment c.loop-b.self (left c.loop-b.desk) in
    let after : Option (List Item) = upcoming_in_comment c.peek.new.self (left c.peek.new.desk) in
    let first : slice_get c.peek.new.self.ahead 0 ≡ Some c.in-Some.b = sym c.in_ok-b.ensures.next ∙ c.in-Some.is in
    stays_on before after (upcoming c.advance.new.self (left c.peek.new.desk))
    (stays_on before turn after c.loop-b.invariant.items
    (peeked_in_comment c.loop-b.self c.peek.new.self _ _ c.peek.ensures.same c.peek.ensures.bytes))
    (rw c.advance.ensures (past_line c.peek.new.self c.in-Some.b (left c.peek.new.desk) first (omega arith)
    c.if-b-eq10.true))

pub loop-b-preserved : goal.loop-b-preserved
loop-b-preserved g c =
    let left = g.D.Desk.left in
    let before : Option (List Item) = upcoming_in_comment c.args.self.now (left c.args.desk.now) in
    let turn : Option (List Item) = upcoming_in_comment c.loop-b.self (left c.loop-b.desk) in
    let after : Option (List Item) = upcoming_in_comment c.peek.new.self (left c.peek.new.desk) in
    let first : slice_get c.peek.new.self.ahead 0 ≡ Some c.in-Some.b = sym c.in_ok-b.ensures.next ∙ c.in-Some.is in
    let room : c.peek.new.self.room ≡ c.loop-b.self.room = ap (λ (s : State). s.room) c.peek.ensures.same in
    let less : c.advance.new.self.room ≡ c.peek.new.self.room - 1 = ap (λ (s : State). s.room) c.advance.ensures in
    record {
      items = stays_on before after (upcoming_in_comment c.advance.new.self (left c.peek.new.desk))
          (stays_on before turn after c.loop-b.invariant.items
          (peeked_in_comment c.loop-b.self c.peek.new.self _ _ c.peek.ensures.same c.peek.ensures.bytes))
          (rw c.advance.ensures (past_in_comment c.peek.new.self c.in-Some.b (left c.peek.new.desk) first (omega arith)
          c.if-b-eq10.false));
      kept = c.in_ok-b.ensures.cause.kept ∙ c.loop-b.invariant.kept;
      flows = λ h. (c.peek.ensures.flows (c.loop-b.invariant.flows h)).1;
      content = λ n. c.peek.ensures.content n ∙ c.loop-b.invariant.content n;
      stays = λ n h. c.peek.ensures.stays n (c.loop-b.invariant.stays n h);
      reads = goes_on _ _ _ _ _ _ c.loop-b.invariant.reads (goes_on _ _ _ _ _ _ c.peek.ensures.reads
          (goes_to_past c.peek.new.self c.advance.new.self c.in-Some.b c.peek.new.desk first c.advance.ensures));
      room = omega arith;
      comments = ap (λ (s : State). s.comments) c.advance.ensures ∙ ap (λ (s : State). s.comments) c.peek.ensures.same
          ∙ c.loop-b.invariant.comments;
      failed = ap (λ (s : State). s.failed) c.advance.ensures ∙ ap (λ (s : State). s.failed) c.peek.ensures.same
          ∙ c.loop-b.invariant.failed;
    }

pub returns-in_err-b-clause-reads : goal.returns-in_err-b-clause-reads
returns-in_err-b-clause-reads g c = goes_on _ _ _ _ _ _ c.loop-b.invariant.reads c.peek.ensures.reads

pub returns-in_default-clause-reads : goal.returns-in_default-clause-reads
returns-in_default-clause-reads g c = goes_on _ _ _ _ _ _ c.loop-b.invariant.reads c.peek.ensures.reads

pub returns-then-room-eq0-clause-reads : goal.returns-then-room-eq0-clause-reads
returns-then-room-eq0-clause-reads g c = goes_on _ _ _ _ _ _ c.loop-b.invariant.reads c.peek.ensures.reads

pub returns-then-b-eq10-clause-reads : goal.returns-then-b-eq10-clause-reads
returns-then-b-eq10-clause-reads g c =
    let first : slice_get c.peek.new.self.ahead 0 ≡ Some c.in-Some.b = sym c.in_ok-b.ensures.next ∙ c.in-Some.is in
    goes_on _ _ _ _ _ _ c.loop-b.invariant.reads (goes_on _ _ _ _ _ _ c.peek.ensures.reads (goes_to_past c.peek.new.self c.advance.new.self c.in-Some.b c.peek.new.desk first c.advance.ensures))
