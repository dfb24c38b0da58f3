use Rattle.std.proofs.Common.{◌∙◌, sym, ap, subst}
use Rattle.prefix.specs.Scopes.{IsAscending}
use Rattle.calculus.specs.Rows.{Row, variables_in}
use Rattle.calculus.specs.Search.{cause_on}
use Rattle.derive.specs.State.{note_at}
use Rattle.clean.proofs.Keeping.{step_lives, step_row}
use Rattle.clean.proofs.Trying.{cleans_at_most, either_way, reason_stands, resolve_counted, some_from, stands_replaced, stands_resolvable, stays_in_order, turn_counted}
use Rattle.clean.proofs.resolving.try_resolving.Goals as goal

pub returns-then-budget-spent-lt2-clause-counted : goal.returns-then-budget-spent-lt2-clause-counted
returns-then-budget-spent-lt2-clause-counted g c =
    cleans_at_most c.args.prefix.now c.args.derivation.now c.args.trail.now c.args.steps.now 1
    c.requires.cleanable.rows

pub lits-requires-2-clause-live : goal.lits-requires-2-clause-live
lits-requires-2-clause-live g c =
    step_lives (note_at c.args.derivation.now c.reason_of-antecedent.result)
    (reason_stands g.S.Side.PIVOT c.args.prefix.now c.args.derivation.now c.args.trail.now c.args.row c.args.lit
    c.requires.row c.requires.may c.requires.cleanable.reasons c.reason_of-antecedent.result
    (ap (cause_on c.args.trail.now.placed) (sym c.var.ensures) ∙ c.reason_of-antecedent.ensures)).step.step

pub has_clash-requires-clause-row_ascends : goal.has_clash-requires-clause-row_ascends
has_clash-requires-clause-row_ascends g c =
    subst (λ (r : Row). IsAscending (variables_in r)) (sym c.lits.ensures)
    (step_row c.args.prefix.now c.args.derivation.now c.args.row c.requires.cleanable.legal
    c.requires.row.step).ascending

pub has_clash-requires-clause-reason_ascends : goal.has_clash-requires-clause-reason_ascends
has_clash-requires-clause-reason_ascends g c =
    subst (λ (r : Row). IsAscending (variables_in r)) (sym c.lits-2.ensures)
    (step_row c.args.prefix.now c.args.derivation.now c.reason_of-antecedent.result c.requires.cleanable.legal
    (reason_stands g.S.Side.PIVOT c.args.prefix.now c.args.derivation.now c.args.trail.now c.args.row c.args.lit
    c.requires.row c.requires.may c.requires.cleanable.reasons c.reason_of-antecedent.result
    (ap (cause_on c.args.trail.now.placed) (sym c.var.ensures) ∙ c.reason_of-antecedent.ensures)).step.step).ascending

pub returns-then-has_clash-clause-counted : goal.returns-then-has_clash-clause-counted
returns-then-has_clash-clause-counted g c =
    cleans_at_most c.args.prefix.now c.args.derivation.now c.args.trail.now c.args.steps.now 1
    c.requires.cleanable.rows

pub resolve_within-requires-clause-resolvable : goal.resolve_within-requires-clause-resolvable
resolve_within-requires-clause-resolvable g c =
    stands_resolvable g.S.Side.PIVOT c.args.prefix.now c.args.derivation.now c.args.trail.now c.args.row c.args.lit
    c.requires.row c.requires.may c.requires.cleanable.reasons c.reason_of-antecedent.result
    (ap (cause_on c.args.trail.now.placed) (sym c.var.ensures) ∙ c.reason_of-antecedent.ensures)
    ((rw (c.lits.ensures, c.lits-2.ensures) at (sym c.has_clash.ensures)) ∙ c.if-has_clash.false)

pub returns-clause-some : goal.returns-clause-some
returns-clause-some g c =
    rw c.ok.ensures.value
    (some_from c.resolve_within.result _ _
    (λ id turned. stands_replaced g.S.Side.PIVOT c.args.prefix.now c.args.derivation.now c.args.trail.now c.args.row
    c.args.lit c.requires.row c.requires.may c.requires.cleanable.reasons c.reason_of-antecedent.result
    (ap (cause_on c.args.trail.now.placed) (sym c.var.ensures) ∙ c.reason_of-antecedent.ensures)
    c.resolve_within.new.derivation c.args.steps.now c.resolve_within.new.steps id turned)
    c.resolve_within.ensures.ok)

pub returns-clause-counted : goal.returns-clause-counted
returns-clause-counted g c =
    either_way c.resolve_within.result _ _ _
    (λ id turned. turn_counted g.S.Side.PIVOT c.args.prefix.now c.args.derivation.now
    c.resolve_within.new.derivation c.args.trail.now c.args.steps.now c.resolve_within.new.steps c.args.row c.args.lit
    c.reason_of-antecedent.result id turned)
    (λ may. resolve_counted g.S.Side.PIVOT c.args.prefix.now c.args.derivation.now c.resolve_within.new.derivation
    c.args.trail.now c.args.steps.now c.resolve_within.new.steps may)
    c.resolve_within.ensures.ok c.resolve_within.ensures.err

pub returns-clause-cleanable : goal.returns-clause-cleanable
returns-clause-cleanable g c =
    stays_in_order g.S.Side.PIVOT c.args.prefix.now c.args.derivation.now c.resolve_within.new.derivation
    c.args.trail.now c.args.steps.now c.resolve_within.new.steps 1 c.requires.cleanable
    (either_way c.resolve_within.result _ _ _
    (λ id turned. turn_counted g.S.Side.PIVOT c.args.prefix.now c.args.derivation.now
    c.resolve_within.new.derivation c.args.trail.now c.args.steps.now c.resolve_within.new.steps c.args.row c.args.lit
    c.reason_of-antecedent.result id turned)
    (λ may. resolve_counted g.S.Side.PIVOT c.args.prefix.now c.args.derivation.now c.resolve_within.new.derivation
    c.args.trail.now c.args.steps.now c.resolve_within.new.steps may)
    c.resolve_within.ensures.ok c.resolve_within.ensures.err)
