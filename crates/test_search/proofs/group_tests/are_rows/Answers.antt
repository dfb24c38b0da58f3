use Rattle.std.proofs.Common.{List, take, refl, sym, subst}
use Rattle.std.specs.List.{All}
use Rattle.std.proofs.lemmas.List.{take_all}
use Rattle.std.proofs.lemmas.List.Elements.{All-push, recursion_from_All}
use Rattle.calculus.specs.Rows.{IsRow, Row}
use Rattle.test_search.proofs.Grouped.{one_more}
use Rattle.test_search.proofs.group_tests.are_rows.Goals as goal

pub loop-clause-preserved : goal.loop-clause-preserved
loop-clause-preserved c =
    let clauses = c.args.clauses.now in
    let k = c.loop-clause.clause-index in
    let now : IsRow c.args.prefix.now c.clause-item.result = (rw c.lits.ensures at c.if-not-is_row.ensures) refl in
    subst (λ (rows : List Row). All (IsRow c.args.prefix.now) rows)
    (sym (one_more clauses k c.clause-item.result c.loop-clause-test.true c.clause-item.is))
    (All-push (IsRow c.args.prefix.now) (take k clauses) c.clause-item.result c.loop-clause.invariant now)

pub returns : goal.returns
returns c e =
    recursion_from_All (IsRow c.args.prefix.now) c.args.clauses.now
    (subst (λ (rows : List Row). All (IsRow c.args.prefix.now) rows)
    (take_all c.loop-clause.clause-index c.args.clauses.now c.loop-clause-test.false) c.loop-clause.invariant)
