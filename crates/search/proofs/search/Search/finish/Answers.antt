use Rattle.std.proofs.Common.{refl, sym, subst}
use Rattle.derive.specs.State.{State, IsLegalFor, row_of}
use Rattle.calculus.specs.Verdicts.{IsEndRow}
use Rattle.clean.specs.Reasons.{IsReducedStep}
use Rattle.search.specs.Finishes.{HasNoFinish}
use Rattle.search.specs.Moves.{IsMatrix}
use Rattle.search.specs.State.{IsResting, SearchState}
use Rattle.search.specs.contracts.search.Search.{the_view}
use Rattle.search.proofs.Ending.{is_outcome}
use Rattle.search.proofs.Finishing.{one_finish}
use Rattle.search.proofs.Learning.{either_way, if_ok, on_err, on_ok_with, resting_gained}
use Rattle.search.proofs.Laws.{agreeing_laws, end_rows_give_proofs, finishes_end_proofs, holding_laws, proofs_decide, same_clauses_serve, steps_are_listed}
use Rattle.search.proofs.search.Search.finish.Goals as goal

pub returns-clause-outcome : goal.returns-clause-outcome
returns-clause-outcome c =
    if_ok c.finish.result
    (λ id removes. is_outcome c.args.prefix.now c.args.matrix.now c.args.assumptions.now c.self.inside.derivation
    c.finish.new.self c.args.end.side c.args.end.row id steps_are_listed same_clauses_serve
    end_rows_give_proofs proofs_decide finishes_end_proofs c.scopes-valid.ensures.valid
    (subst (λ (s : SearchState). IsLegalFor c.args.prefix.now s.derivation)
    (sym c.self.view_is) c.requires.resting.intact.legal)
    (subst (λ (s : SearchState). IsMatrix s.derivation c.args.matrix.now) (sym c.self.view_is) c.requires.matrix)
    c.requires.outer
    (subst (λ (s : SearchState). IsReducedStep c.args.end.side c.args.prefix.now s.derivation c.args.end.row)
    (sym c.self.view_is) c.requires.row)
    (subst (λ (s : SearchState). IsEndRow c.args.end.side c.args.prefix.now c.args.assumptions.now
    (row_of s.derivation c.args.end.row)) (sym c.self.view_is) c.requires.end)
    removes)
    c.finish.ensures.ok

pub returns-clause-resting : goal.returns-clause-resting
returns-clause-resting c =
    let s = the_view c.self.inside in
    let resting = subst (IsResting c.args.prefix.now) (sym c.self.view_is) c.requires.resting in
    either_way c.finish.result
    (on_ok_with c.finish.result
    (λ gains legal. resting_gained c.args.prefix.now s
    (record s { derivation = c.finish.new.self }) holding_laws agreeing_laws resting gains
    (legal c.args.prefix.now resting.intact.legal) refl refl refl refl refl refl refl)
    c.finish.ensures.gains c.finish.ensures.legal)
    c.finish.ensures.err
    (λ now. now)
    (λ same. subst (λ (d : State). IsResting c.args.prefix.now (record s { derivation = d })) (sym same) resting)

pub returns-clause-finishes : goal.returns-clause-finishes
returns-clause-finishes c =
    let none = subst (λ (s : SearchState). HasNoFinish s.derivation) (sym c.self.view_is) c.requires.unfinished in
    if_ok c.finish.result
    (λ id removes. one_finish c.self.inside.derivation c.finish.new.self id c.args.end.row _ _ removes none)
    c.finish.ensures.ok

pub returns-clause-unfinished : goal.returns-clause-unfinished
returns-clause-unfinished c =
    let none = subst (λ (s : SearchState). HasNoFinish s.derivation) (sym c.self.view_is) c.requires.unfinished in
    on_err c.finish.result (λ same. subst HasNoFinish (sym same) none) c.finish.ensures.err
