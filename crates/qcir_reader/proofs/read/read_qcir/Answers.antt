use Rattle.std.proofs.lemmas.Result.{err_from_is_err_and}
use Rattle.qcir_reader.proofs.Steps.{in_front, memory_says_nothing}
use Rattle.qcir_reader.proofs.read.read_qcir.Goals as goal

pub read_words-requires-clause-start : goal.read_words-requires-clause-start
read_words-requires-clause-start g c = rw c.in_ok-lexer.ensures.state (in_front (g.D.Desk.left c.args.desk.now))

pub returns-in_err-reader-clause-outcome : goal.returns-in_err-reader-clause-outcome
returns-in_err-reader-clause-outcome g c =
    let p = err_from_is_err_and c.from_residual-in_err-reader.result c.from_residual-in_err-reader.ensures.1 in
    rw (p.1, p.2) (memory_says_nothing (g.D.Desk.left c.args.desk.now))
