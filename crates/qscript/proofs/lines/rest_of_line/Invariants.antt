use Rattle.std.proofs.Common.{◌≡◌, ◌≤◌, ℕ, true, false, List}
use Rattle.std.specs.Prelude.{IfSome, is_some}
use Rattle.lexer.specs.declared.token.Comments.TheVariants.{Script}
use Rattle.lexer.specs.State.{GoesOn, Stays}
use Rattle.qscript.specs.Run.{within, is_header}
use Rattle.qscript.specs.State.{reading_ahead}
use Rattle.qscript.proofs.lines.rest_of_line.Given as goal

abbrev pub invariant-loop-draft : goal.invariant-loop-draft
invariant-loop-draft g l =
    let left = g.D.Desk.left in
    record {
      script : Stays (reading_ahead (within l.fn.named l.fn.line l.fn.draft) l.fn.lexer (left l.fn.desk))
          (reading_ahead (within l.fn.named l.fn.line l.draft) l.lexer (left l.desk));
      ready : l.lexer.failed ≡ false;
      fresh : l.lexer.fresh ≡ false;
      comments : l.lexer.comments ≡ Script;
      line : l.lexer.line ≡ l.fn.line;
      header : is_header l.draft ≡ is_header l.fn.draft;
      telling : IfSome (left l.fn.desk) (λ _. is_some (left l.desk) ≡ true);
      room : l.lexer.room ≤ l.fn.lexer.room;
      kept : g.D.Desk.faults l.desk ≡ g.D.Desk.faults l.fn.desk;
      flows : g.D.Desk.flows l.fn.desk → g.D.Desk.flows l.desk;
      content : (n : List ℕ) → g.D.Desk.content l.desk n ≡ g.D.Desk.content l.fn.desk n;
      stays : (n : List ℕ) → g.D.Desk.steady l.fn.desk n → g.D.Desk.steady l.desk n;
      reads : GoesOn l.fn.lexer l.lexer l.fn.desk l.desk;
    }

abbrev pub decreases-loop-draft : goal.decreases-loop-draft
decreases-loop-draft g l = l.lexer.room
