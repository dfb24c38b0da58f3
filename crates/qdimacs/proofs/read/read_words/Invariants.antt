use Rattle.std.proofs.Common.{◌≡◌, ℕ, false, List}
use Rattle.std.specs.Prelude.{option_map}
use Rattle.lexer.specs.declared.token.Comments.TheVariants.{Dimacs}
use Rattle.lexer.specs.Words.{items}
use Rattle.lexer.specs.State.{upcoming}
use Rattle.qdimacs.specs.Rules.{Front}
use Rattle.qdimacs.specs.Represents.{Represents}
use Rattle.qdimacs.specs.Step.{Remains}
use Rattle.qdimacs.proofs.read.read_words.Given as goal

abbrev pub invariant-loop-token : goal.invariant-loop-token
invariant-loop-token g l =
    let left = g.D.Desk.left in
    record {
      front : Front;
      represents : Represents l.reader front;
      items : Remains (option_map (items Dimacs) (left l.fn.desk)) front (upcoming l.lexer (left l.desk));
      failed : l.lexer.failed ≡ false;
      kept : g.D.Desk.faults l.desk ≡ g.D.Desk.faults l.fn.desk;
      flows : g.D.Desk.flows l.fn.desk → g.D.Desk.flows l.desk;
      content : (n : List ℕ) → g.D.Desk.content l.desk n ≡ g.D.Desk.content l.fn.desk n;
      stays : (n : List ℕ) → g.D.Desk.steady l.fn.desk n → g.D.Desk.steady l.desk n;
    }

abbrev pub decreases-loop-token : goal.decreases-loop-token
decreases-loop-token g l = l.lexer.room
