use Rattle.std.proofs.Common.{◌≡◌, ℕ, false, List}
use Rattle.std.specs.Prelude.{option_map}
use Rattle.lexer.specs.declared.token.Comments.TheVariants.{Hash}
use Rattle.lexer.specs.Words.{items}
use Rattle.lexer.specs.State.{upcoming}
use Rattle.qcir_reader.specs.Rules.{Front}
use Rattle.qcir_reader.specs.Represents.{Represents}
use Rattle.qcir_reader.specs.Answers.{Remains}
use Rattle.qcir_reader.proofs.read.read_words.Given as goal

abbrev pub invariant-loop-token : goal.invariant-loop-token
invariant-loop-token g l =
    let left = g.D.Desk.left in
    record {
      front : Front;
      represents : Represents l.reader front;
      items : Remains (option_map (items Hash) (left l.fn.desk)) l.reader.stage front (upcoming l.lexer (left l.desk));
      failed : l.lexer.failed ≡ false;
      kept : g.D.Desk.faults l.desk ≡ g.D.Desk.faults l.fn.desk;
      flows : g.D.Desk.flows l.fn.desk → g.D.Desk.flows l.desk;
      content : (n : List ℕ) → g.D.Desk.content l.desk n ≡ g.D.Desk.content l.fn.desk n;
      stays : (n : List ℕ) → g.D.Desk.steady l.fn.desk n → g.D.Desk.steady l.desk n;
    }

abbrev pub decreases-loop-token : goal.decreases-loop-token
decreases-loop-token g l = l.lexer.room
