use Rattle.std.proofs.Common.{length, ap, arith}
use Rattle.qcir.proofs.Formed.{rows_within}
use Rattle.qcir.proofs.formula.make.Goals as goal

pub overflow_cast-declared_clauses : goal.overflow_cast-declared_clauses
overflow_cast-declared_clauses c =
    let circuit = c.args.circuit.now in
    omega (arith, rows_within circuit, ap length c.in_ok-rows.ensures, c.requires.clauses)
