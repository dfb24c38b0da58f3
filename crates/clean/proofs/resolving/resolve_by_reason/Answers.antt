use Rattle.std.proofs.Common.{◌∙◌, sym, ap, subst}
use Rattle.std.proofs.lemmas.Result.{IfOk-weaker}
use Rattle.calculus.specs.Rows.{Row}
use Rattle.calculus.specs.Search.{cause_on}
use Rattle.prefix.specs.Scopes.{IsAscending}
use Rattle.calculus.specs.Rows.{variables_in}
use Rattle.clean.proofs.Circling.{cleans_none}
use Rattle.clean.proofs.Keeping.{reasons_stay, step_lives, step_row}
use Rattle.clean.proofs.Replacing.{on_err_from, stops_later}
use Rattle.clean.proofs.Standing.{replaced_before, standing, standing_replaces, standing_resolvable}
use Rattle.derive.specs.State.{note_at}
use Rattle.clean.proofs.resolving.resolve_by_reason.Goals as goal

pub lits-requires-2-clause-live : goal.lits-requires-2-clause-live
lits-requires-2-clause-live g c =
    step_lives (note_at c.args.derivation.now c.reason_of-reason.result)
    (standing g.S.Side.PIVOT c.args.prefix.now c.args.derivation.now c.args.trail.now c.args.row c.args.lit
    c.requires.may c.requires.reasons c.reason_of-reason.result
    (ap (cause_on c.args.trail.now.placed) (sym c.var.ensures) ∙ c.reason_of-reason.ensures)).step.step

pub has_clash-requires-clause-row_ascends : goal.has_clash-requires-clause-row_ascends
has_clash-requires-clause-row_ascends g c =
    subst (λ (r : Row). IsAscending (variables_in r)) (sym c.lits.ensures)
    (step_row c.args.prefix.now c.args.derivation.now c.args.row c.requires.legal c.requires.may.step.step).ascending

pub has_clash-requires-clause-reason_ascends : goal.has_clash-requires-clause-reason_ascends
has_clash-requires-clause-reason_ascends g c =
    subst (λ (r : Row). IsAscending (variables_in r)) (sym c.lits-2.ensures)
    (step_row c.args.prefix.now c.args.derivation.now c.reason_of-reason.result c.requires.legal
    (standing g.S.Side.PIVOT c.args.prefix.now c.args.derivation.now c.args.trail.now c.args.row c.args.lit
    c.requires.may c.requires.reasons c.reason_of-reason.result
    (ap (cause_on c.args.trail.now.placed) (sym c.var.ensures) ∙ c.reason_of-reason.ensures)).step.step).ascending

pub returns-then-has_clash-clause-ok : goal.returns-then-has_clash-clause-ok
returns-then-has_clash-clause-ok g c =
    IfOk-weaker c.resolve_away.result _ _
    (λ id by. replaced_before g.S.Side.PIVOT c.args.prefix.now c.args.derivation.now c.args.trail.now c.args.row
    c.args.lit c.requires.may c.resolve_away.new.trail c.resolve_away.new.derivation c.args.steps.now
    c.resolve_away.new.steps id by)
    c.resolve_away.ensures.ok

pub resolve_with_reason-requires-clause-resolvable : goal.resolve_with_reason-requires-clause-resolvable
resolve_with_reason-requires-clause-resolvable g c =
    standing_resolvable g.S.Side.PIVOT c.args.prefix.now c.args.derivation.now c.args.trail.now c.args.row c.args.lit
    c.requires.may c.requires.reasons c.reason_of-reason.result
    (ap (cause_on c.args.trail.now.placed) (sym c.var.ensures) ∙ c.reason_of-reason.ensures)
    ((rw (c.lits.ensures, c.lits-2.ensures) at (sym c.has_clash.ensures)) ∙ c.if-has_clash.false)

pub returns-clause-ok : goal.returns-clause-ok
returns-clause-ok g c =
    IfOk-weaker c.resolve_with_reason.result _ _
    (λ id turned. standing_replaces g.S.Side.PIVOT c.args.prefix.now c.args.derivation.now c.args.trail.now c.args.row
    c.args.lit c.requires.may c.requires.reasons c.reason_of-reason.result
    (ap (cause_on c.args.trail.now.placed) (sym c.var.ensures) ∙ c.reason_of-reason.ensures) c.requires.legal
    c.resolve_with_reason.new.derivation c.args.steps.now c.resolve_with_reason.new.steps id turned)
    c.resolve_with_reason.ensures.ok

pub returns-clause-err : goal.returns-clause-err
returns-clause-err g c =
    on_err_from c.resolve_with_reason.result _ _
    (λ stops. stops_later c.args.prefix.now c.args.derivation.now c.args.derivation.now
    c.resolve_with_reason.new.derivation c.args.trail.now c.args.trail.now c.args.steps.now c.args.steps.now
    c.resolve_with_reason.new.steps 0
    (cleans_none c.args.prefix.now c.args.derivation.now c.args.trail.now c.args.steps.now c.requires.rows)
    c.requires.trail.marked stops)
    c.resolve_with_reason.ensures.stopped

pub returns-clause-reasons : goal.returns-clause-reasons
returns-clause-reasons g c = λ side have. reasons_stay side c.args.prefix.now c.args.derivation.now
    c.resolve_with_reason.new.derivation c.args.trail.now c.resolve_with_reason.ensures.grows have
