use Rattle.std.proofs.Common.{rules, refl, ap, ◌≡◌, Some, None, false, Option, List, slice_get, sym, ◌∙◌, subst}
use Rattle.std.specs.Io.KnownBytes.{IsAtEnd}
use Rattle.lexer.specs.declared.scan.Scan.{Scan}
use Rattle.lexer.specs.Words.{Item, ends_word}
use Rattle.lexer.specs.Scan.{no_scan}
use Rattle.lexer.specs.Machine.{upcoming_in_word, upcoming_behind_word, cut_items}
use Rattle.lexer.specs.Answers.{Refuses}
use Rattle.lexer.proofs.Known.{stays_on, refuses_on, peeked_in_word, word_beyond, word_at_end, word_at_blank, when_none}
use Rattle.lexer.specs.State.{State}
use Rattle.lexer.specs.Answers.{IsOfLine}
use Rattle.lexer.proofs.Going.{goes_on, goes_to_past}
use Rattle.lexer.proofs.lexer.Lexer.word.Goals as goal

pub returns-then-room-eq0-clause-refusal : goal.returns-then-room-eq0-clause-refusal
returns-then-room-eq0-clause-refusal g c =
    word_beyond c.args.self.now no_scan c.args.first (g.D.Desk.left c.args.desk.now) c.cut.result c.requires.byte
    (sym c.room.ensures ∙ c.if-room-eq0.true) c.requires.word
    (subst (λ (s : Scan). Refuses c.cut.result
    (Some (cut_items c.args.self.now.comments c.args.self.now.fresh c.args.self.now.line s))) c.new-scan.ensures
    c.cut.ensures.cut)

pub returns-in_default-clause-items : goal.returns-in_default-clause-items
returns-in_default-clause-items g c =
    let left = g.D.Desk.left in
    let before : Option (List Item) = upcoming_in_word c.args.self.now no_scan (left c.args.desk.now) in
    let turn : Option (List Item) = upcoming_in_word c.loop-b.self c.loop-b.scan (left c.loop-b.desk) in
    let after : Option (List Item) = upcoming_in_word c.peek.new.self c.loop-b.scan (left c.peek.new.desk) in
    let first : slice_get c.peek.new.self.ahead 0 ≡ None = sym c.in_ok-b.ensures.next ∙ c.in_default.is in
    stays_on before after (upcoming_behind_word c.peek.new.self c.loop-b.scan (left c.peek.new.desk))
    (stays_on before turn after c.loop-b.invariant.items
    (peeked_in_word c.loop-b.self c.peek.new.self c.loop-b.scan _ _ c.peek.ensures.same c.peek.ensures.bytes))
    (word_at_end c.peek.new.self c.loop-b.scan (left c.peek.new.desk) first
    (when_none c.in_ok-b.field-0 (IsAtEnd (left c.peek.new.desk)) c.in_default.is c.in_ok-b.ensures.end))

pub returns-then-ends_word-clause-items : goal.returns-then-ends_word-clause-items
returns-then-ends_word-clause-items g c =
    let left = g.D.Desk.left in
    let before : Option (List Item) = upcoming_in_word c.args.self.now no_scan (left c.args.desk.now) in
    let turn : Option (List Item) = upcoming_in_word c.loop-b.self c.loop-b.scan (left c.loop-b.desk) in
    let after : Option (List Item) = upcoming_in_word c.peek.new.self c.loop-b.scan (left c.peek.new.desk) in
    let first : slice_get c.peek.new.self.ahead 0 ≡ Some c.in-Some.b = sym c.in_ok-b.ensures.next ∙ c.in-Some.is in
    stays_on before after (upcoming_behind_word c.peek.new.self c.loop-b.scan (left c.peek.new.desk))
    (stays_on before turn after c.loop-b.invariant.items
    (peeked_in_word c.loop-b.self c.peek.new.self c.loop-b.scan _ _ c.peek.ensures.same c.peek.ensures.bytes))
    (word_at_blank c.peek.new.self c.loop-b.scan c.in-Some.b (left c.peek.new.desk) first (sym c.if-ends_word.ensures))

pub returns-then-room-eq0-2-clause-refusal : goal.returns-then-room-eq0-2-clause-refusal
returns-then-room-eq0-2-clause-refusal g c =
    let left = g.D.Desk.left in
    let before : Option (List Item) = upcoming_in_word c.args.self.now no_scan (left c.args.desk.now) in
    let turn : Option (List Item) = upcoming_in_word c.loop-b.self c.loop-b.scan (left c.loop-b.desk) in
    let after : Option (List Item) = upcoming_in_word c.peek.new.self c.loop-b.scan (left c.peek.new.desk) in
    let first : slice_get c.peek.new.self.ahead 0 ≡ Some c.in-Some.b = sym c.in_ok-b.ensures.next ∙ c.in-Some.is in
    let blank : ends_word c.peek.new.self.comments c.in-Some.b ≡ false = sym c.if-ends_word.ensures in
    let room : c.peek.new.self.room ≡ 0 = sym c.room-in-loop-b.ensures ∙ c.if-room-eq0-2.true in
    refuses_on before after c.cut-then-room-eq0-2.result
    (stays_on before turn after c.loop-b.invariant.items
    (peeked_in_word c.loop-b.self c.peek.new.self c.loop-b.scan _ _ c.peek.ensures.same c.peek.ensures.bytes))
    (word_beyond c.peek.new.self c.loop-b.scan c.in-Some.b (left c.peek.new.desk) c.cut-then-room-eq0-2.result first
    room blank c.cut-then-room-eq0-2.ensures.cut)

pub returns-in_err-b-clause-reads : goal.returns-in_err-b-clause-reads
returns-in_err-b-clause-reads g c = goes_on _ _ _ _ _ _ c.loop-b.invariant.reads c.peek.ensures.reads

pub returns-in_default-clause-reads : goal.returns-in_default-clause-reads
returns-in_default-clause-reads g c = goes_on _ _ _ _ _ _ c.loop-b.invariant.reads c.peek.ensures.reads

pub returns-then-ends_word-clause-reads : goal.returns-then-ends_word-clause-reads
returns-then-ends_word-clause-reads g c = goes_on _ _ _ _ _ _ c.loop-b.invariant.reads c.peek.ensures.reads

pub returns-then-room-eq0-2-clause-reads : goal.returns-then-room-eq0-2-clause-reads
returns-then-room-eq0-2-clause-reads g c = goes_on _ _ _ _ _ _ c.loop-b.invariant.reads c.peek.ensures.reads

pub returns-then-room-eq0-2-clause-of_line : goal.returns-then-room-eq0-2-clause-of_line
returns-then-room-eq0-2-clause-of_line g c =
    subst (λ n. IsOfLine n c.cut-then-room-eq0-2.result) (ap (λ (s : State). s.line) c.peek.ensures.same ∙ c.loop-b.invariant.line) c.cut-then-room-eq0-2.ensures.line

pub loop-b-init : goal.loop-b-init
loop-b-init g c = record {
  items = search rules;
  kept = refl;
  flows = λ h. h;
  content = λ n. refl;
  stays = λ n h. h;
  reads = goes_to_past c.args.self.now c.advance.new.self c.args.first c.args.desk.now c.requires.byte
      c.advance.ensures;
  room = search rules;
  comments = search rules;
  failed = search rules;
  fresh = search rules;
  line = search rules;
}

pub loop-b-preserved : goal.loop-b-preserved
loop-b-preserved g c =
    let first : slice_get c.peek.new.self.ahead 0 ≡ Some c.in-Some.b = sym c.in_ok-b.ensures.next ∙ c.in-Some.is in
    record {
      items = search rules;
      kept = c.in_ok-b.ensures.cause.kept ∙ c.loop-b.invariant.kept;
      flows = λ h. (c.peek.ensures.flows (c.loop-b.invariant.flows h)).1;
      content = λ n. c.peek.ensures.content n ∙ c.loop-b.invariant.content n;
      stays = λ n h. c.peek.ensures.stays n (c.loop-b.invariant.stays n h);
      reads = goes_on _ _ _ _ _ _ c.loop-b.invariant.reads (goes_on _ _ _ _ _ _ c.peek.ensures.reads
          (goes_to_past c.peek.new.self c.advance-in-loop-b.new.self c.in-Some.b c.peek.new.desk first
          c.advance-in-loop-b.ensures));
      room = search rules;
      comments = search rules;
      failed = search rules;
      fresh = search rules;
      line = search rules;
    }
