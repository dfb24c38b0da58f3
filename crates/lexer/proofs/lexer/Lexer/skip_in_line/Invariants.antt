use Rattle.std.proofs.Common.{◌≡◌, ℕ, List, ◌≤◌}
use Rattle.lexer.specs.State.{GoesOn, upcoming, Stays}
use Rattle.lexer.proofs.lexer.Lexer.skip_in_line.Given as goal

abbrev pub invariant-loop-b : goal.invariant-loop-b
invariant-loop-b g l =
    let left = g.D.Desk.left in
    record {
      items : Stays (upcoming l.fn.self (left l.fn.desk)) (upcoming l.self (left l.desk));
      kept : g.D.Desk.faults l.desk ≡ g.D.Desk.faults l.fn.desk;
      flows : g.D.Desk.flows l.fn.desk → g.D.Desk.flows l.desk;
      content : (n : List ℕ) → g.D.Desk.content l.desk n ≡ g.D.Desk.content l.fn.desk n;
      stays : (n : List ℕ) → g.D.Desk.steady l.fn.desk n → g.D.Desk.steady l.desk n;
      reads : GoesOn l.fn.self l.self l.fn.desk l.desk;
      room : l.self.room ≤ l.fn.self.room;
      comments : l.self.comments ≡ l.fn.self.comments;
      failed : l.self.failed ≡ l.fn.self.failed;
      fresh : l.self.fresh ≡ l.fn.self.fresh;
      line : l.self.line ≡ l.fn.self.line;
    }

abbrev pub decreases-loop-b : goal.decreases-loop-b
decreases-loop-b g l = l.self.room
