use Rattle.qdimacs.proofs.Steps.{in_front}
use Rattle.qdimacs.proofs.read.read_formula.Goals as goal

pub read_words-requires-clause-start : goal.read_words-requires-clause-start
read_words-requires-clause-start g c = rw c.in_ok-lexer.ensures.state (in_front (g.D.Desk.left c.args.desk.now))
