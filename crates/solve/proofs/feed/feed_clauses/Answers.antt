use Rattle.std.proofs.Common.{Err, ap}
use Rattle.std.proofs.lemmas.Result.{err_from_is_err_and}
use Rattle.frames.specs.State.{OpenFormula}
use Rattle.solve.proofs.Feeding.{clause_fed, clause_memory, only_memory, this_over}
use Rattle.solve.proofs.feed.feed_clauses.Goals as goal

pub row-requires : goal.row-requires
row-requires c =
    let scopes = c.args.engine.now.formula.scopes in
    rw (c.in_ok-row.ensures, ap (λ (f : OpenFormula). f.scopes) c.loop-clause.invariant.formula)
    (this_over scopes c.args.clauses.now c.requires.valid c.requires.rows c.loop-clause.clause-index
    c.loop-clause-test.true c.clause-item.result c.clause-item.is)

pub returns-in_err-row-2-clause-memory : goal.returns-in_err-row-2-clause-memory
returns-in_err-row-2-clause-memory c =
    let p = err_from_is_err_and c.from_residual-in_err-row-2.result c.from_residual-in_err-row-2.ensures.1 in
    let scopes = c.args.engine.now.formula.scopes in
    let none = clause_memory scopes c.args.clauses.now c.requires.valid c.requires.rows c.loop-clause.clause-index
    c.loop-clause-test.true c.clause-item.result c.clause-item.is c.loop-clause.engine c.loop-clause.invariant
    c.requires.count c.requires.amount in
    rw (p.1, p.2) (only_memory _ (Err c.in_err-row-2.field-0.0) none (rw c.in_ok-row.ensures at
    c.in_err-row-2.ensures.refused))

pub loop-clause-preserved : goal.loop-clause-preserved
loop-clause-preserved c =
    let scopes = c.args.engine.now.formula.scopes in
    clause_fed scopes c.args.clauses.now c.requires.valid c.requires.rows c.loop-clause.clause-index
    c.loop-clause-test.true c.clause-item.result c.clause-item.is c.loop-clause.engine c.row.new.self
    c.loop-clause.invariant (rw c.in_ok-row.ensures at c.in_ok-row-2.ensures.ok)
