use Rattle.std.proofs.Common.{◌<◌, Option, List, Result, Ok, Err, sym, ◌∙◌, arith}
use Rattle.std.specs.Prelude.{OnOk, IfErr}
use Rattle.lexer.specs.declared.token.LexRefusal.{LexRefusal}
use Rattle.lexer.specs.State.{upcoming, Stays}
use Rattle.lexer.specs.Words.{Item}
use Rattle.lexer.specs.Machine.{upcoming_in_comment}
use Rattle.lexer.specs.Answers.{Refuses}
use Rattle.lexer.proofs.Known.{stays_on, refuses_on, past_hash, hash_beyond}
use Rattle.lexer.proofs.Going.{goes_on, goes_to_past}
use Rattle.lexer.proofs.lexer.Lexer.skip_hash.Goals as goal

items_on : {A : Type 0} (result : Result A LexRefusal) (x y z : Option (List Item)) → Stays x y
    → OnOk result (Stays y z) → OnOk result (Stays x z)
items_on (Ok u) x y z h k = stays_on x y z h k
items_on (Err e) x y z h k = tt

refusal_on : {A : Type 0} (result : Result A LexRefusal) (x y : Option (List Item)) → Stays x y
    → IfErr result (λ e. Refuses e y) → IfErr result (λ e. Refuses e x)
refusal_on (Ok u) x y h k = tt
refusal_on (Err e) x y h k = refuses_on x y e h k

pub returns-then-room-eq0-clause-refusal : goal.returns-then-room-eq0-clause-refusal
returns-then-room-eq0-clause-refusal g c =
    rw c.line.ensures (hash_beyond c.args.self.now c.args.b (g.D.Desk.left c.args.desk.now) c.requires.byte
    (sym c.room.ensures ∙ c.if-room-eq0.true) c.requires.opens)

pub returns-clause-items : goal.returns-clause-items
returns-clause-items g c =
    let left = g.D.Desk.left in
    let s = c.args.self.now in
    let some : 0 < s.room = omega arith in
    let behind : Stays (upcoming s (left c.args.desk.now))
    (upcoming_in_comment c.advance.new.self (left c.args.desk.now)) = rw c.advance.ensures
    (past_hash s c.args.b (left c.args.desk.now) c.requires.byte some c.requires.opens) in
    items_on c.skip_line.result (upcoming s (left c.args.desk.now))
    (upcoming_in_comment c.advance.new.self (left c.args.desk.now))
    (upcoming c.skip_line.new.self (left c.skip_line.new.desk)) behind c.skip_line.ensures.items

pub returns-clause-refusal : goal.returns-clause-refusal
returns-clause-refusal g c =
    let left = g.D.Desk.left in
    let s = c.args.self.now in
    let some : 0 < s.room = omega arith in
    let behind : Stays (upcoming s (left c.args.desk.now))
    (upcoming_in_comment c.advance.new.self (left c.args.desk.now)) = rw c.advance.ensures
    (past_hash s c.args.b (left c.args.desk.now) c.requires.byte some c.requires.opens) in
    refusal_on c.skip_line.result (upcoming s (left c.args.desk.now))
    (upcoming_in_comment c.advance.new.self (left c.args.desk.now)) behind c.skip_line.ensures.refusal

pub returns-clause-reads : goal.returns-clause-reads
returns-clause-reads g c =
    goes_on _ _ _ _ _ _ (goes_to_past c.args.self.now c.advance.new.self c.args.b c.args.desk.now c.requires.byte
    c.advance.ensures) c.skip_line.ensures.reads
