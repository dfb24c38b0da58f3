use Rattle.std.proofs.Common.{◌≡◌, ℕ, false, Option, List, Result, Ok, Err, sym}
use Rattle.std.specs.Prelude.{IfOk, IfErr}
use Rattle.lexer.specs.declared.scan.Scan.{Scan}
use Rattle.lexer.specs.declared.token.LexRefusal.{LexRefusal}
use Rattle.lexer.specs.State.{State, upcoming, Stays}
use Rattle.lexer.specs.Words.{Item, ends_word}
use Rattle.lexer.specs.Scan.{no_scan}
use Rattle.lexer.specs.Machine.{upcoming_in_word, upcoming_behind_word}
use Rattle.lexer.specs.Answers.{Refuses}
use Rattle.lexer.proofs.Known.{stays_on, refuses_on, before_word, in_word_else}
use Rattle.lexer.proofs.Going.{goes_same}
use Rattle.lexer.proofs.lexer.Lexer.take_word.Goals as goal

items_on : (result : Result Scan LexRefusal) (x y : Option (List Item)) (s : State) (l : Option (List ℕ)) → Stays x y
    → IfOk result (λ scan. Stays y (upcoming_behind_word s scan l))
    → IfOk result (λ scan. Stays x (upcoming_behind_word s scan l))
items_on (Ok scan) x y s l h k = stays_on x y (upcoming_behind_word s scan l) h k
items_on (Err e) x y s l h k = tt

refusal_on : (result : Result Scan LexRefusal) (x y : Option (List Item)) → Stays x y → IfErr result (λ e. Refuses e y)
    → IfErr result (λ e. Refuses e x)
refusal_on (Ok scan) x y h k = tt
refusal_on (Err e) x y h k = refuses_on x y e h k

pub returns-clause-items : goal.returns-clause-items
returns-clause-items g c =
    let left = g.D.Desk.left in
    let s = c.args.self.now in
    let on : ends_word s.comments c.args.b ≡ false = in_word_else s.comments c.args.b c.requires.blank
    c.requires.comment (sym c.if-is_lone.ensures) in
    items_on c.word.result (upcoming s (left c.args.desk.now)) (upcoming_in_word s no_scan (left c.args.desk.now))
    c.word.new.self (left c.word.new.desk) (before_word s c.args.b (left c.args.desk.now) c.requires.byte on)
    c.word.ensures.items

pub returns-clause-refusal : goal.returns-clause-refusal
returns-clause-refusal g c =
    let left = g.D.Desk.left in
    let s = c.args.self.now in
    let on : ends_word s.comments c.args.b ≡ false = in_word_else s.comments c.args.b c.requires.blank
    c.requires.comment (sym c.if-is_lone.ensures) in
    refusal_on c.word.result (upcoming s (left c.args.desk.now)) (upcoming_in_word s no_scan (left c.args.desk.now))
    (before_word s c.args.b (left c.args.desk.now) c.requires.byte on) c.word.ensures.refusal

pub returns-then-is_lone-clause-reads : goal.returns-then-is_lone-clause-reads
returns-then-is_lone-clause-reads g c = goes_same c.args.self.now c.lone.new.self c.args.desk.now c.lone.ensures.line c.lone.ensures.read
