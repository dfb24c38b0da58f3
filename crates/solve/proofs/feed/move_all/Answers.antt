use Rattle.std.proofs.Common.{◌++◌, ◌∷◌, ◌∙◌, ◌-◌, [], Err, ap, sym, subst, length, reverse, take, refl}
use Rattle.std.proofs.lemmas.Result.{err_from_is_err_and}
use Rattle.frames.specs.State.{OpenFormula}
use Rattle.solve.specs.Feeding.{HoldsFormula}
use Rattle.solve.proofs.Feeding.{all_given, clause_fed, clause_memory, front_is, more_is, next_front, next_is, only_memory, this_over, turned_next}
use Rattle.solve.proofs.feed.move_all.Goals as goal

pub loop-clause-init : goal.loop-clause-init
loop-clause-init c = ([], c.requires.holds, refl)

pub row-requires : goal.row-requires
row-requires c =
    let scopes = c.args.engine.now.formula.scopes in
    let all = reverse c.args.clauses.now.items in
    let moved = c.loop-clause.invariant.0 in
    let rest = c.pop.new.self.items in
    let parts = turned_next moved rest c.loop-clause.clauses.items all c.in-Some.clause c.in-Some.ensures.items
    c.loop-clause.invariant.2 in
    let at = next_is moved c.in-Some.clause (reverse rest) all parts in
    rw (ap (λ (f : OpenFormula). f.scopes) c.loop-clause.invariant.1.formula)
    (this_over scopes all c.requires.valid c.requires.rows (length moved) at.0 c.in-Some.clause at.1)

pub returns-in_err-row-clause-memory : goal.returns-in_err-row-clause-memory
returns-in_err-row-clause-memory c =
    let p = err_from_is_err_and c.from_residual.result c.from_residual.ensures.1 in
    let scopes = c.args.engine.now.formula.scopes in
    let all = reverse c.args.clauses.now.items in
    let moved = c.loop-clause.invariant.0 in
    let rest = c.pop.new.self.items in
    let parts = turned_next moved rest c.loop-clause.clauses.items all c.in-Some.clause c.in-Some.ensures.items
    c.loop-clause.invariant.2 in
    let at = next_is moved c.in-Some.clause (reverse rest) all parts in
    let front = front_is moved (c.in-Some.clause ∷ reverse rest) all parts in
    let holds = subst (λ xs. HoldsFormula scopes xs c.loop-clause.engine) (sym front) c.loop-clause.invariant.1 in
    let none = clause_memory scopes all c.requires.valid c.requires.rows (length moved) at.0
    c.in-Some.clause at.1 c.loop-clause.engine holds c.requires.count c.requires.amount in
    rw (p.1, p.2) (only_memory _ (Err c.in_err-row.field-0.0) none c.in_err-row.ensures.refused)

pub loop-clause-preserved : goal.loop-clause-preserved
loop-clause-preserved c =
    let scopes = c.args.engine.now.formula.scopes in
    let all = reverse c.args.clauses.now.items in
    let moved = c.loop-clause.invariant.0 in
    let rest = c.pop.new.self.items in
    let parts = turned_next moved rest c.loop-clause.clauses.items all c.in-Some.clause c.in-Some.ensures.items
    c.loop-clause.invariant.2 in
    let at = next_is moved c.in-Some.clause (reverse rest) all parts in
    let front = front_is moved (c.in-Some.clause ∷ reverse rest) all parts in
    let holds = subst (λ xs. HoldsFormula scopes xs c.loop-clause.engine) (sym front) c.loop-clause.invariant.1 in
    let fed = clause_fed scopes all c.requires.valid c.requires.rows (length moved) at.0
    c.in-Some.clause at.1 c.loop-clause.engine c.row.new.self holds c.in_ok-row.ensures.ok in (
      moved ++ c.in-Some.clause ∷ [],
      subst (λ xs. HoldsFormula scopes xs c.row.new.self)
          (next_front moved c.in-Some.clause (reverse rest) all parts) fed,
      ap (λ xs. (moved ++ c.in-Some.clause ∷ []) ++ reverse xs) c.give_back.ensures
          ∙ more_is moved c.in-Some.clause (reverse rest) all parts,
    )

pub returns-clause-ok : goal.returns-clause-ok
returns-clause-ok c =
    let scopes = c.args.engine.now.formula.scopes in
    let left = c.loop-clause.clauses.items in
    let gone = c.in_default.ensures.rest ∙ ap (λ n. take (n - 1) left) c.in_default.ensures.cases.0 in
    let none = c.in_default.ensures.items ∙ ap (λ xs. xs ++ []) gone in
    subst (λ xs. HoldsFormula scopes xs c.loop-clause.engine)
    (all_given c.loop-clause.invariant.0 (reverse left) (reverse c.args.clauses.now.items)
    (ap (λ xs. length (reverse xs)) none) c.loop-clause.invariant.2)
    c.loop-clause.invariant.1
