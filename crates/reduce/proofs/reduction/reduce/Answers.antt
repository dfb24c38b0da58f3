use Rattle.std.proofs.lemmas.Result.{on_ok_weaker}
use Rattle.reduce.proofs.Resolving.{reduce_ascending}
use Rattle.reduce.proofs.reduction.reduce.Goals as goal

pub returns-else-is_err-clause-ascending : goal.returns-else-is_err-clause-ascending
returns-else-is_err-clause-ascending g c =
    on_ok_weaker c.push_reduction-done.result
    (λ e up. rw e (rw c.clear.ensures.items (reduce_ascending g.S.Side.PIVOT c.args.prefix.now c.args.lits.now up)))
    c.push_reduction-done.ensures
