use Rattle.std.proofs.lemmas.Result.{on_ok_weaker}
use Rattle.qcir.proofs.Putting.{and_put, or_put}
use Rattle.qcir.proofs.matrix.put_gate.Goals as goal

pub returns-in_ok-put_pairs-in-And : goal.returns-in_ok-put_pairs-in-And
returns-in_ok-put_pairs-in-And c =
    on_ok_weaker c.put_whole.result
    (λ whole.
    and_put c.args.rows.now.items c.put_pairs.new.rows.items c.put_whole.new.rows.items c.args.gate.now
    c.new-own.result c.negate.result c.lits-inputs.result.now c.new-own.ensures c.negate.ensures c.lits-inputs.ensures
    c.in-And.is c.in_ok-put_pairs-in-And.ensures whole)
    c.put_whole.ensures

pub returns-in_ok-put_pairs-in-Or : goal.returns-in_ok-put_pairs-in-Or
returns-in_ok-put_pairs-in-Or c =
    on_ok_weaker c.put_whole-in-Or.result
    (λ whole.
    or_put c.args.rows.now.items c.put_pairs-in-Or.new.rows.items c.put_whole-in-Or.new.rows.items c.args.gate.now
    c.new-own.result c.negate-in-Or.result c.lits-inputs.result.now c.new-own.ensures c.negate-in-Or.ensures
    c.lits-inputs.ensures c.in-Or.is c.in_ok-put_pairs-in-Or.ensures whole)
    c.put_whole-in-Or.ensures
