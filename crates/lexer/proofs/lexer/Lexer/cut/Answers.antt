use Rattle.std.proofs.Common.{[], ◌∷◌, true, false, sym}
use Rattle.lexer.specs.Words.{too_long}
use Rattle.lexer.proofs.Known.{cut_is}
use Rattle.lexer.proofs.lexer.Lexer.cut.Goals as goal

pub returns-then-scan-clause-cut : goal.returns-then-scan-clause-cut
returns-then-scan-clause-cut c = rw c.line-line.ensures (
  too_long c.args.self.now.line ∷ [],
  cut_is c.args.self.now.comments c.args.self.now.fresh c.args.self.now.line
      c.args.scan.now false true (sym c.if-is_cut_comment.ensures) c.if-scan.true,
)

pub returns-else-scan-clause-cut : goal.returns-else-scan-clause-cut
returns-else-scan-clause-cut c = rw c.line-line.ensures (
  too_long c.args.self.now.line ∷ [],
  cut_is c.args.self.now.comments c.args.self.now.fresh c.args.self.now.line
      c.args.scan.now false false (sym c.if-is_cut_comment.ensures) c.if-scan.false,
)
