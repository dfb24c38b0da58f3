use Rattle.std.proofs.Common.{◌≡◌, Some, Option, List, Err, false, slice_get, sym, ap, subst, ◌∙◌}
use Rattle.std.proofs.lemmas.Result.{err_from_is_err_and}
use Rattle.lexer.specs.State.{upcoming, Stays}
use Rattle.lexer.specs.Words.{Item, ends_word, is_blank}
use Rattle.lexer.specs.Scan.{no_scan, scanned}
use Rattle.lexer.specs.Machine.{upcoming_in_word, upcoming_behind_word}
use Rattle.lexer.specs.Answers.{IsOfLine, IsScanned}
use Rattle.lexer.proofs.Known.{stays_on, refuses_on, before_word, when_none, when_some}
use Rattle.lexer.proofs.LineEnds.{item_on_line, refused_on_line}
use Rattle.lexer.proofs.Going.{goes_on}
use Rattle.lexer.proofs.lexer.Lexer.word_on_line.Goals as goal

pub word-requires-clause-word : goal.word-requires-clause-word
word-requires-clause-word g c =
    subst (λ k. ends_word k c.in-Some.b ≡ false) (sym (c.in_ok-b.ensures.comments ∙ c.requires.comments))
    (when_some c.in_ok-b.field-0 (λ b. is_blank b ≡ false) c.in-Some.b c.in-Some.is c.in_ok-b.ensures.word)

pub returns-in_default-clause-items : goal.returns-in_default-clause-items
returns-in_default-clause-items g c = (
  c.in_ok-b.ensures.items,
  when_none c.in_ok-b.field-0 _ c.in_default.is c.in_ok-b.ensures.end,
)

pub returns-in_err-scan-clause-items : goal.returns-in_err-scan-clause-items
returns-in_err-scan-clause-items g c =
    let left = g.D.Desk.left in
    let s = c.skip_in_line.new.self in
    let at = left c.skip_in_line.new.desk in
    let before : Option (List Item) = upcoming c.args.self.now (left c.args.desk.now) in
    let first : slice_get s.ahead 0 ≡ Some c.in-Some.b = when_some c.in_ok-b.field-0 (λ b. slice_get s.ahead 0 ≡ Some b)
    c.in-Some.b c.in-Some.is c.in_ok-b.ensures.next in
    let blank : is_blank c.in-Some.b ≡ false = when_some c.in_ok-b.field-0 (λ b. is_blank b ≡ false) c.in-Some.b
    c.in-Some.is c.in_ok-b.ensures.word in
    let ends : ends_word s.comments c.in-Some.b ≡ false = subst (λ k. ends_word k c.in-Some.b ≡ false)
    (sym (c.in_ok-b.ensures.comments ∙ c.requires.comments)) blank in
    let word_comes : Stays before (upcoming_in_word s no_scan at) = stays_on before (upcoming s at)
    (upcoming_in_word s no_scan at) c.in_ok-b.ensures.items (before_word s c.in-Some.b at first ends) in
    let p = err_from_is_err_and c.from_residual-in_err-scan.result c.from_residual-in_err-scan.ensures.1 in
    rw (p.1, p.2) (
      refuses_on before (upcoming_in_word s no_scan at) c.in_err-scan.field-0.0 word_comes
          c.in_err-scan.ensures.refusal,
      subst (λ n. IsOfLine n c.in_err-scan.field-0.0) c.in_ok-b.ensures.line c.in_err-scan.ensures.of_line,
    )

pub returns-in_err-token-clause-items : goal.returns-in_err-token-clause-items
returns-in_err-token-clause-items g c =
    let left = g.D.Desk.left in
    let s = c.skip_in_line.new.self in
    let at = left c.skip_in_line.new.desk in
    let before : Option (List Item) = upcoming c.args.self.now (left c.args.desk.now) in
    let first : slice_get s.ahead 0 ≡ Some c.in-Some.b = when_some c.in_ok-b.field-0 (λ b. slice_get s.ahead 0 ≡ Some b)
    c.in-Some.b c.in-Some.is c.in_ok-b.ensures.next in
    let blank : is_blank c.in-Some.b ≡ false = when_some c.in_ok-b.field-0 (λ b. is_blank b ≡ false) c.in-Some.b
    c.in-Some.is c.in_ok-b.ensures.word in
    let ends : ends_word s.comments c.in-Some.b ≡ false = subst (λ k. ends_word k c.in-Some.b ≡ false)
    (sym (c.in_ok-b.ensures.comments ∙ c.requires.comments)) blank in
    let word_comes : Stays before (upcoming_in_word s no_scan at) = stays_on before (upcoming s at)
    (upcoming_in_word s no_scan at) c.in_ok-b.ensures.items (before_word s c.in-Some.b at first ends) in
    let behind : Option (List Item) = upcoming_behind_word c.word.new.self c.in_ok-scan.scan (left c.word.new.desk) in
    let word_goes : Stays before behind = stays_on before (upcoming_in_word s no_scan at) behind word_comes
    c.in_ok-scan.ensures.items in
    let had : c.word.new.self.fresh ≡ false = c.in_ok-scan.ensures.fresh ∙ c.in_ok-b.ensures.fresh ∙ c.requires.fresh in
    let line : c.line-line.result ≡ c.word.new.self.line = c.line-line.ensures ∙ sym c.in_ok-scan.ensures.line in
    let here : c.line-line.result ≡ c.args.self.now.line = c.line-line.ensures ∙ c.in_ok-b.ensures.line in
    let e = c.in_err-token.field-0.0 in
    let p = err_from_is_err_and c.from_residual-in_err-token.result c.from_residual-in_err-token.ensures.1 in
    rw (p.1, p.2) (
      refused_on_line before c.word.new.self c.in_ok-scan.scan (left c.word.new.desk) e had
          (subst (λ n. IsScanned (Err e) (scanned n c.in_ok-scan.scan)) line c.in_err-token.ensures.item) word_goes,
      subst (λ n. IsOfLine n e) here c.in_err-token.ensures.line,
    )

pub returns-clause-items : goal.returns-clause-items
returns-clause-items g c =
    let left = g.D.Desk.left in
    let s = c.skip_in_line.new.self in
    let at = left c.skip_in_line.new.desk in
    let before : Option (List Item) = upcoming c.args.self.now (left c.args.desk.now) in
    let first : slice_get s.ahead 0 ≡ Some c.in-Some.b = when_some c.in_ok-b.field-0 (λ b. slice_get s.ahead 0 ≡ Some b)
    c.in-Some.b c.in-Some.is c.in_ok-b.ensures.next in
    let blank : is_blank c.in-Some.b ≡ false = when_some c.in_ok-b.field-0 (λ b. is_blank b ≡ false) c.in-Some.b
    c.in-Some.is c.in_ok-b.ensures.word in
    let ends : ends_word s.comments c.in-Some.b ≡ false = subst (λ k. ends_word k c.in-Some.b ≡ false)
    (sym (c.in_ok-b.ensures.comments ∙ c.requires.comments)) blank in
    let word_comes : Stays before (upcoming_in_word s no_scan at) = stays_on before (upcoming s at)
    (upcoming_in_word s no_scan at) c.in_ok-b.ensures.items (before_word s c.in-Some.b at first ends) in
    let behind : Option (List Item) = upcoming_behind_word c.word.new.self c.in_ok-scan.scan (left c.word.new.desk) in
    let word_goes : Stays before behind = stays_on before (upcoming_in_word s no_scan at) behind word_comes
    c.in_ok-scan.ensures.items in
    let had : c.word.new.self.fresh ≡ false = c.in_ok-scan.ensures.fresh ∙ c.in_ok-b.ensures.fresh ∙ c.requires.fresh in
    let line : c.line-line.result ≡ c.word.new.self.line = c.line-line.ensures ∙ sym c.in_ok-scan.ensures.line in
    let here : c.line-line.result ≡ c.args.self.now.line = c.line-line.ensures ∙ c.in_ok-b.ensures.line in (
      item_on_line before c.word.new.self c.in_ok-scan.scan (left c.word.new.desk) c.in_ok-token.token had
          (ap (λ n. scanned n c.in_ok-scan.scan) (sym line) ∙ c.in_ok-token.ensures.item) word_goes,
      c.in_ok-token.ensures.line ∙ here,
    )

pub returns-in_err-scan-clause-reads : goal.returns-in_err-scan-clause-reads
returns-in_err-scan-clause-reads g c = goes_on _ _ _ _ _ _ c.skip_in_line.ensures.reads c.word.ensures.reads

pub returns-in_err-token-clause-reads : goal.returns-in_err-token-clause-reads
returns-in_err-token-clause-reads g c = goes_on _ _ _ _ _ _ c.skip_in_line.ensures.reads c.word.ensures.reads

pub returns-clause-reads : goal.returns-clause-reads
returns-clause-reads g c = goes_on _ _ _ _ _ _ c.skip_in_line.ensures.reads c.word.ensures.reads
