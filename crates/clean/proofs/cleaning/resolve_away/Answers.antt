use Rattle.std.proofs.Common.{◌∙◌, sym, ap}
use Rattle.std.proofs.lemmas.Result.{IfOk-weaker}
use Rattle.calculus.specs.Search.{cause_on}
use Rattle.trail.specs.State.{is_marked}
use Rattle.clean.proofs.Keeping.{reasons_stay}
use Rattle.clean.proofs.Replacing.{on_err_from, replace_resolvable, replaces, spent_later, stops_later}
use Rattle.clean.proofs.cleaning.resolve_away.Goals as goal

pub resolve_with_reason-requires-clause-resolvable : goal.resolve_with_reason-requires-clause-resolvable
resolve_with_reason-requires-clause-resolvable g c =
    replace_resolvable g.S.Side.PIVOT c.args.prefix.now c.args.derivation.now c.clean_reason.new.derivation
    c.args.trail.now c.clean_reason.new.trail c.args.steps.now c.clean_reason.new.steps c.args.row c.args.lit
    c.in_ok-reason.reason c.requires.may c.in_ok-reason.ensures.cleans
    (c.in_ok-reason.ensures.reasons g.S.Side.PIVOT c.requires.reasons) c.in_ok-reason.ensures.legal
    (ap (is_marked c.clean_reason.new.trail) (sym c.var.ensures) ∙ c.in_ok-reason.ensures.ok.0)
    (ap (cause_on c.clean_reason.new.trail.placed) (sym c.var.ensures) ∙ c.in_ok-reason.ensures.ok.1)

pub returns-clause-ok : goal.returns-clause-ok
returns-clause-ok g c =
    IfOk-weaker c.resolve_with_reason.result _ _
    (λ id turned. replaces g.S.Side.PIVOT c.args.prefix.now c.args.derivation.now
    c.clean_reason.new.derivation c.args.trail.now c.clean_reason.new.trail c.args.steps.now
    c.clean_reason.new.steps c.args.row c.args.lit c.in_ok-reason.reason c.requires.may
    c.in_ok-reason.ensures.cleans (c.in_ok-reason.ensures.reasons g.S.Side.PIVOT c.requires.reasons)
    c.in_ok-reason.ensures.legal
    (ap (is_marked c.clean_reason.new.trail) (sym c.var.ensures) ∙ c.in_ok-reason.ensures.ok.0)
    (ap (cause_on c.clean_reason.new.trail.placed) (sym c.var.ensures) ∙ c.in_ok-reason.ensures.ok.1)
    c.resolve_with_reason.new.derivation c.resolve_with_reason.new.steps id turned)
    c.resolve_with_reason.ensures.ok

pub returns-clause-err : goal.returns-clause-err
returns-clause-err g c =
    on_err_from c.resolve_with_reason.result _ _
    (λ stops. stops_later c.args.prefix.now c.args.derivation.now c.clean_reason.new.derivation
    c.resolve_with_reason.new.derivation c.args.trail.now c.clean_reason.new.trail c.args.steps.now
    c.clean_reason.new.steps c.resolve_with_reason.new.steps 0 c.in_ok-reason.ensures.cleans
    c.requires.trail.marked stops)
    c.resolve_with_reason.ensures.stopped

pub returns-clause-spent : goal.returns-clause-spent
returns-clause-spent g c = λ e.
    let own = c.resolve_with_reason.ensures.spent e in (
      own.0,
      spent_later c.args.prefix.now c.args.derivation.now c.clean_reason.new.derivation c.args.trail.now
          c.clean_reason.new.trail c.args.steps.now c.clean_reason.new.steps 0 c.in_ok-reason.ensures.cleans
          c.requires.trail.marked own.1,
    )

pub returns-clause-reasons : goal.returns-clause-reasons
returns-clause-reasons g c = λ side have. reasons_stay side c.args.prefix.now c.clean_reason.new.derivation
    c.resolve_with_reason.new.derivation c.clean_reason.new.trail c.resolve_with_reason.ensures.grows
    (c.in_ok-reason.ensures.reasons side have)
