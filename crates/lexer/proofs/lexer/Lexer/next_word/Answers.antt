use Rattle.std.proofs.Common.{refl, ◌≡◌, ◌<◌, ◌≤◌, Err, Option, List, sym, ap, ◌∙◌, arith, subst}
use Rattle.std.specs.Io.KnownBytes.{IsAtEnd}
use Rattle.std.proofs.lemmas.Result.{err_from_is_err_and}
use Rattle.lexer.specs.State.{State, upcoming, Stays}
use Rattle.lexer.specs.Words.{Item}
use Rattle.lexer.specs.Scan.{scanned}
use Rattle.lexer.specs.Machine.{upcoming_behind_word, upcoming_in_comment}
use Rattle.lexer.specs.Answers.{IsScanned}
use Rattle.lexer.proofs.Known.{stays_on, refuses_on, comment_behind, item_behind, refused_behind, ends_here, when_none}
use Rattle.lexer.proofs.Going.{goes_on, goes_worded}
use Rattle.lexer.proofs.lexer.Lexer.next_word.Goals as goal

pub returns-in_default-clause-items : goal.returns-in_default-clause-items
returns-in_default-clause-items g c =
    let left = g.D.Desk.left in
    let before : Option (List Item) = upcoming c.args.self.now (left c.args.desk.now) in
    let turn : Option (List Item) = upcoming c.loop-b.self (left c.loop-b.desk) in
    let after : Option (List Item) = upcoming c.skip_blanks.new.self (left c.skip_blanks.new.desk) in
    ends_here before c.skip_blanks.new.self (left c.skip_blanks.new.desk) (sym c.in_ok-b.ensures.next ∙ c.in_default.is)
    (when_none c.in_ok-b.field-0 (IsAtEnd (left c.skip_blanks.new.desk)) c.in_default.is c.in_ok-b.ensures.end)
    (stays_on before turn after c.loop-b.invariant.items c.in_ok-b.ensures.items)

pub returns-in_err-scan-clause-items : goal.returns-in_err-scan-clause-items
returns-in_err-scan-clause-items g c =
    let left = g.D.Desk.left in
    let before : Option (List Item) = upcoming c.args.self.now (left c.args.desk.now) in
    let turn : Option (List Item) = upcoming c.loop-b.self (left c.loop-b.desk) in
    let after : Option (List Item) = upcoming c.skip_blanks.new.self (left c.skip_blanks.new.desk) in
    let word_comes : Stays before after = stays_on before turn after c.loop-b.invariant.items c.in_ok-b.ensures.items in
    let p = err_from_is_err_and c.from_residual-in_err-scan.result c.from_residual-in_err-scan.ensures.1 in
    rw (p.1, p.2) (refuses_on before after c.in_err-scan.field-0.0 word_comes c.in_err-scan.ensures.refusal)

pub loop-b-preserved-then-opens_comment : goal.loop-b-preserved-then-opens_comment
loop-b-preserved-then-opens_comment g c =
    let left = g.D.Desk.left in
    let before : Option (List Item) = upcoming c.args.self.now (left c.args.desk.now) in
    let turn : Option (List Item) = upcoming c.loop-b.self (left c.loop-b.desk) in
    let after : Option (List Item) = upcoming c.skip_blanks.new.self (left c.skip_blanks.new.desk) in
    let word_comes : Stays before after = stays_on before turn after c.loop-b.invariant.items c.in_ok-b.ensures.items in
    record {
      items = stays_on before after (upcoming c.skip_hash.new.self (left c.skip_hash.new.desk)) word_comes
          c.in_ok-skip_hash.ensures.items;
      kept = c.in_ok-skip_hash.ensures.cause.kept refl ∙ c.in_ok-b.ensures.cause.kept refl ∙ c.loop-b.invariant.kept;
      flows = λ h. (c.skip_hash.ensures.flows (c.skip_blanks.ensures.flows (c.loop-b.invariant.flows h)).1).1;
      content = λ n. c.skip_hash.ensures.content n ∙ c.skip_blanks.ensures.content n ∙ c.loop-b.invariant.content n;
      stays = λ n h. c.skip_hash.ensures.stays n (c.skip_blanks.ensures.stays n (c.loop-b.invariant.stays n h));
      reads = goes_on _ _ _ _ _ _ c.loop-b.invariant.reads
          (goes_on _ _ _ _ _ _ c.skip_blanks.ensures.reads c.skip_hash.ensures.reads);
      comments = c.in_ok-skip_hash.ensures.comments ∙ c.in_ok-b.ensures.comments ∙ c.loop-b.invariant.comments;
      room = (let one : c.skip_hash.new.self.room < c.skip_blanks.new.self.room = c.in_ok-skip_hash.ensures.room in
          let two : c.skip_blanks.new.self.room ≤ c.loop-b.self.room = c.in_ok-b.ensures.room in omega arith);
      failed = c.in_ok-skip_hash.ensures.failed ∙ c.in_ok-b.ensures.failed ∙ c.loop-b.invariant.failed;
    }

pub returns-in_err-skip_hash-clause-items : goal.returns-in_err-skip_hash-clause-items
returns-in_err-skip_hash-clause-items g c =
    let left = g.D.Desk.left in
    let before : Option (List Item) = upcoming c.args.self.now (left c.args.desk.now) in
    let turn : Option (List Item) = upcoming c.loop-b.self (left c.loop-b.desk) in
    let after : Option (List Item) = upcoming c.skip_blanks.new.self (left c.skip_blanks.new.desk) in
    let word_comes : Stays before after = stays_on before turn after c.loop-b.invariant.items c.in_ok-b.ensures.items in
    let p = err_from_is_err_and c.from_residual-in_err-skip_hash.result c.from_residual-in_err-skip_hash.ensures.1 in
    rw (p.1, p.2) (refuses_on before after c.in_err-skip_hash.field-0.0 word_comes c.in_err-skip_hash.ensures.refusal)

pub loop-b-preserved : goal.loop-b-preserved
loop-b-preserved g c =
    let left = g.D.Desk.left in
    let before : Option (List Item) = upcoming c.args.self.now (left c.args.desk.now) in
    let turn : Option (List Item) = upcoming c.loop-b.self (left c.loop-b.desk) in
    let after : Option (List Item) = upcoming c.skip_blanks.new.self (left c.skip_blanks.new.desk) in
    let word_comes : Stays before after = stays_on before turn after c.loop-b.invariant.items c.in_ok-b.ensures.items in
    let behind : Option (List Item) = upcoming_behind_word c.take_word.new.self c.in_ok-scan.scan
    (left c.take_word.new.desk) in
    let word_goes : Stays before behind = stays_on before after behind word_comes c.in_ok-scan.ensures.items in
    let in_comment : Option (List Item) = upcoming_in_comment c.take_word.new.self (left c.take_word.new.desk) in
    let comment_comes : Stays before in_comment = stays_on before behind in_comment word_goes
    (comment_behind c.take_word.new.self c.in_ok-scan.scan (left c.take_word.new.desk)
    (sym c.if-is_comment.ensures)) in
    record {
      items = stays_on before in_comment (upcoming c.skip_line.new.self (left c.skip_line.new.desk)) comment_comes
          c.in_ok-skip_line.ensures.items;
      kept = c.in_ok-skip_line.ensures.cause.kept refl ∙ c.in_ok-scan.ensures.cause.kept refl
          ∙ c.in_ok-b.ensures.cause.kept refl ∙ c.loop-b.invariant.kept;
      flows = λ h.
          (c.skip_line.ensures.flows
          (c.take_word.ensures.flows (c.skip_blanks.ensures.flows (c.loop-b.invariant.flows h)).1).1).1;
      content = λ n. c.skip_line.ensures.content n ∙ c.take_word.ensures.content n ∙ c.skip_blanks.ensures.content n
          ∙ c.loop-b.invariant.content n;
      stays = λ n h. c.skip_line.ensures.stays n
          (c.take_word.ensures.stays n (c.skip_blanks.ensures.stays n (c.loop-b.invariant.stays n h)));
      reads = goes_on _ _ _ _ _ _ c.loop-b.invariant.reads
          (goes_on _ _ _ _ _ _ c.skip_blanks.ensures.reads
          (goes_on _ _ _ _ _ _ c.take_word.ensures.reads c.skip_line.ensures.reads));
      comments = c.in_ok-skip_line.ensures.comments ∙ c.in_ok-scan.ensures.comments ∙ c.in_ok-b.ensures.comments
          ∙ c.loop-b.invariant.comments;
      room = (let one : c.skip_line.new.self.room ≤ c.take_word.new.self.room = c.in_ok-skip_line.ensures.room in
          let two : c.take_word.new.self.room < c.skip_blanks.new.self.room = c.in_ok-scan.ensures.room in let three :
          c.skip_blanks.new.self.room ≤ c.loop-b.self.room = c.in_ok-b.ensures.room in omega arith);
      failed = c.in_ok-skip_line.ensures.failed ∙ c.in_ok-scan.ensures.failed ∙ c.in_ok-b.ensures.failed
          ∙ c.loop-b.invariant.failed;
    }

pub returns-in_err-skip_line-clause-items : goal.returns-in_err-skip_line-clause-items
returns-in_err-skip_line-clause-items g c =
    let left = g.D.Desk.left in
    let before : Option (List Item) = upcoming c.args.self.now (left c.args.desk.now) in
    let turn : Option (List Item) = upcoming c.loop-b.self (left c.loop-b.desk) in
    let after : Option (List Item) = upcoming c.skip_blanks.new.self (left c.skip_blanks.new.desk) in
    let word_comes : Stays before after = stays_on before turn after c.loop-b.invariant.items c.in_ok-b.ensures.items in
    let behind : Option (List Item) = upcoming_behind_word c.take_word.new.self c.in_ok-scan.scan
    (left c.take_word.new.desk) in
    let word_goes : Stays before behind = stays_on before after behind word_comes c.in_ok-scan.ensures.items in
    let in_comment : Option (List Item) = upcoming_in_comment c.take_word.new.self (left c.take_word.new.desk) in
    let comment_comes : Stays before in_comment = stays_on before behind in_comment word_goes
    (comment_behind c.take_word.new.self c.in_ok-scan.scan (left c.take_word.new.desk)
    (sym c.if-is_comment.ensures)) in
    let p = err_from_is_err_and c.from_residual-in_err-skip_line.result c.from_residual-in_err-skip_line.ensures.1 in
    rw (p.1, p.2) (refuses_on before in_comment c.in_err-skip_line.field-0.0 comment_comes
    c.in_err-skip_line.ensures.refusal)

pub returns-in_err-token-clause-items : goal.returns-in_err-token-clause-items
returns-in_err-token-clause-items g c =
    let left = g.D.Desk.left in
    let before : Option (List Item) = upcoming c.args.self.now (left c.args.desk.now) in
    let turn : Option (List Item) = upcoming c.loop-b.self (left c.loop-b.desk) in
    let after : Option (List Item) = upcoming c.skip_blanks.new.self (left c.skip_blanks.new.desk) in
    let word_comes : Stays before after = stays_on before turn after c.loop-b.invariant.items c.in_ok-b.ensures.items in
    let behind : Option (List Item) = upcoming_behind_word c.take_word.new.self c.in_ok-scan.scan
    (left c.take_word.new.desk) in
    let word_goes : Stays before behind = stays_on before after behind word_comes c.in_ok-scan.ensures.items in
    let line : c.line-line.result ≡ c.take_word.new.self.line = c.line-line.ensures ∙ sym c.in_ok-scan.ensures.line in
    let p = err_from_is_err_and c.from_residual-in_err-token.result c.from_residual-in_err-token.ensures.1 in
    rw (p.1, p.2) (refused_behind before c.take_word.new.self c.in_ok-scan.scan (left c.take_word.new.desk)
    c.in_err-token.field-0.0 (sym c.if-is_comment.ensures)
    (subst (λ n. IsScanned (Err c.in_err-token.field-0.0) (scanned n c.in_ok-scan.scan)) line c.in_err-token.ensures.item)
    word_goes)

pub returns-else-is_comment-clause-items : goal.returns-else-is_comment-clause-items
returns-else-is_comment-clause-items g c =
    let left = g.D.Desk.left in
    let before : Option (List Item) = upcoming c.args.self.now (left c.args.desk.now) in
    let turn : Option (List Item) = upcoming c.loop-b.self (left c.loop-b.desk) in
    let after : Option (List Item) = upcoming c.skip_blanks.new.self (left c.skip_blanks.new.desk) in
    let word_comes : Stays before after = stays_on before turn after c.loop-b.invariant.items c.in_ok-b.ensures.items in
    let behind : Option (List Item) = upcoming_behind_word c.take_word.new.self c.in_ok-scan.scan
    (left c.take_word.new.desk) in
    let word_goes : Stays before behind = stays_on before after behind word_comes c.in_ok-scan.ensures.items in
    let line : c.line-line.result ≡ c.take_word.new.self.line = c.line-line.ensures ∙ sym c.in_ok-scan.ensures.line in
    rw c.set_word.ensures (item_behind before c.take_word.new.self c.in_ok-scan.scan (left c.take_word.new.desk)
    c.in_ok-token.token (sym c.if-is_comment.ensures)
    (ap (λ n. scanned n c.in_ok-scan.scan) (sym line) ∙ c.in_ok-token.ensures.item) word_goes)

pub returns-in_err-b-clause-reads : goal.returns-in_err-b-clause-reads
returns-in_err-b-clause-reads g c = goes_on _ _ _ _ _ _ c.loop-b.invariant.reads c.skip_blanks.ensures.reads

pub returns-in_default-clause-reads : goal.returns-in_default-clause-reads
returns-in_default-clause-reads g c = goes_on _ _ _ _ _ _ c.loop-b.invariant.reads c.skip_blanks.ensures.reads

pub returns-in_err-skip_hash-clause-reads : goal.returns-in_err-skip_hash-clause-reads
returns-in_err-skip_hash-clause-reads g c =
    goes_on _ _ _ _ _ _ c.loop-b.invariant.reads (goes_on _ _ _ _ _ _ c.skip_blanks.ensures.reads c.skip_hash.ensures.reads)

pub returns-in_err-scan-clause-reads : goal.returns-in_err-scan-clause-reads
returns-in_err-scan-clause-reads g c =
    goes_on _ _ _ _ _ _ c.loop-b.invariant.reads (goes_on _ _ _ _ _ _ c.skip_blanks.ensures.reads c.take_word.ensures.reads)

pub returns-in_err-skip_line-clause-reads : goal.returns-in_err-skip_line-clause-reads
returns-in_err-skip_line-clause-reads g c =
    goes_on _ _ _ _ _ _ c.loop-b.invariant.reads (goes_on _ _ _ _ _ _ c.skip_blanks.ensures.reads (goes_on _ _ _ _ _ _ c.take_word.ensures.reads c.skip_line.ensures.reads))

pub returns-in_err-token-clause-reads : goal.returns-in_err-token-clause-reads
returns-in_err-token-clause-reads g c =
    goes_on _ _ _ _ _ _ c.loop-b.invariant.reads (goes_on _ _ _ _ _ _ c.skip_blanks.ensures.reads (goes_on _ _ _ _ _ _ c.take_word.ensures.reads (goes_worded c.take_word.new.self c.set_word.new.self c.take_word.new.desk c.set_word.ensures)))

pub returns-else-is_comment-clause-reads : goal.returns-else-is_comment-clause-reads
returns-else-is_comment-clause-reads g c =
    goes_on _ _ _ _ _ _ c.loop-b.invariant.reads (goes_on _ _ _ _ _ _ c.skip_blanks.ensures.reads (goes_on _ _ _ _ _ _ c.take_word.ensures.reads (goes_worded c.take_word.new.self c.set_word.new.self c.take_word.new.desk c.set_word.ensures)))

pub returns-in_err-b-clause-comments : goal.returns-in_err-b-clause-comments
returns-in_err-b-clause-comments g c = c.skip_blanks.ensures.comments ∙ c.loop-b.invariant.comments

pub returns-in_default-clause-comments : goal.returns-in_default-clause-comments
returns-in_default-clause-comments g c = c.skip_blanks.ensures.comments ∙ c.loop-b.invariant.comments

pub returns-in_err-skip_hash-clause-comments : goal.returns-in_err-skip_hash-clause-comments
returns-in_err-skip_hash-clause-comments g c = c.skip_hash.ensures.comments ∙ c.skip_blanks.ensures.comments ∙ c.loop-b.invariant.comments

pub returns-in_err-scan-clause-comments : goal.returns-in_err-scan-clause-comments
returns-in_err-scan-clause-comments g c = c.take_word.ensures.comments ∙ c.skip_blanks.ensures.comments ∙ c.loop-b.invariant.comments

pub returns-in_err-skip_line-clause-comments : goal.returns-in_err-skip_line-clause-comments
returns-in_err-skip_line-clause-comments g c =
    c.skip_line.ensures.comments ∙ c.take_word.ensures.comments ∙ c.skip_blanks.ensures.comments ∙ c.loop-b.invariant.comments

pub returns-in_err-token-clause-comments : goal.returns-in_err-token-clause-comments
returns-in_err-token-clause-comments g c =
    ap (λ (s : State). s.comments) c.set_word.ensures ∙ c.take_word.ensures.comments ∙ c.skip_blanks.ensures.comments ∙ c.loop-b.invariant.comments

pub returns-else-is_comment-clause-comments : goal.returns-else-is_comment-clause-comments
returns-else-is_comment-clause-comments g c =
    ap (λ (s : State). s.comments) c.set_word.ensures ∙ c.take_word.ensures.comments ∙ c.skip_blanks.ensures.comments ∙ c.loop-b.invariant.comments

pub returns-else-is_comment-clause-word : goal.returns-else-is_comment-clause-word
returns-else-is_comment-clause-word g c = (
  ap (λ (s : State). s.fresh) c.set_word.ensures,
  c.in_ok-token.ensures.line ∙ c.line-line.ensures ∙ sym c.in_ok-scan.ensures.line
      ∙ sym (ap (λ (s : State). s.line) c.set_word.ensures),
)
