use Rattle.builder.proofs.Adding.{builds_none}
use Rattle.certcheck.proofs.Joining.{all_joined}
use Rattle.certcheck.proofs.check.build_clauses.Goals as goal

pub returns : goal.returns
returns c assumptions table is =
    all_joined c.new-build.result c.put_circuit.new.build c.put_losing.new.build c.args.clauses.now assumptions
    c.args.outputs.now c.args.s.now is (builds_none c.new-build.result c.new-build.ensures)
    (c.in_ok-put_circuit.ensures.adds assumptions table) c.in_ok-put_losing.ensures
