use Rattle.std.proofs.Common.{List, Contains, take, refl, sym, subst, ⊎_elim}
use Rattle.std.specs.Prelude.{IsTrue}
use Rattle.std.proofs.lemmas.List.{take_all}
use Rattle.std.proofs.lemmas.List.Elements.{Contains-push_cases}
use Rattle.truth.specs.Matrix.{clause_true}
use Rattle.calculus.specs.Rows.{Row}
use Rattle.calculus.specs.Search.{value_on}
use Rattle.cover.proofs.Choosing.{one_more}
use Rattle.test_search.proofs.cover_tests.are_true.Goals as goal

pub loop-clause-preserved : goal.loop-clause-preserved
loop-clause-preserved c clause i =
    let matrix = c.args.matrix.now in
    let k = c.loop-clause.clause-index in
    let values = value_on c.args.trail.now.placed in
    let now : IsTrue (clause_true values c.clause-item.result) = (rw c.lits.ensures at c.if-not-is_true.ensures) refl in
    ⊎_elim (λ j. c.loop-clause.invariant clause j) (λ e. subst (λ (r : Row). IsTrue (clause_true values r)) e now)
    (Contains-push_cases (take k matrix) c.clause-item.result clause
    (subst (λ (rows : List Row). Contains rows clause)
    (one_more matrix k c.clause-item.result c.loop-clause-test.true c.clause-item.is) i))

pub returns : goal.returns
returns c e clause i = c.loop-clause.invariant clause
    (subst (λ (rows : List Row). Contains rows clause)
    (sym (take_all c.loop-clause.clause-index c.args.matrix.now c.loop-clause-test.false)) i)
