use Rattle.calculus.specs.Search.{Trail}
use Rattle.derive.specs.State.{row_of}
use Rattle.clean.specs.Blockers.{IsBlocked}
use Rattle.clean.specs.Cleaning.{IsDoneIfBlocked}
use Rattle.std.proofs.Common.{sym, subst, ap, Err, length, ◌*◌, ◌+◌, ◌≤◌, arith, rules}
use Rattle.std.proofs.lemmas.Result.{err_from_is_err_and}
use Rattle.steps.specs.declared.stop.Stop.TheVariants.{Spent as spent}
use Rattle.clean.specs.Marks.{marks_left}
use Rattle.clean.proofs.Looping.{cleaning_due, cleaning_ends, cleaning_ends_free, cleaning_goes_on, cleaning_may, cleaning_starts, spent_more, stops_more}
use Rattle.clean.proofs.Replacing.{stops_wider}
use Rattle.clean.proofs.Rounds.{on_err, same_error}
use Rattle.clean.proofs.cleaning.clean_row.Goals as goal

pub loop-taken-init : goal.loop-taken-init
loop-taken-init g c = cleaning_starts g.S.Side.PIVOT c.args.prefix.now c.args.kept c.end_before-end.result
    c.args.derivation.now c.args.trail.now c.args.steps.now c.end_before-end.ensures.within c.args.row
    c.requires.cleanable.rows
    c.requires.cleanable.legal c.requires.cleanable.trail c.requires.row c.end_before-end.ensures.front c.requires.may

pub returns-in-None-clause-ok : goal.returns-in-None-clause-ok
returns-in-None-clause-ok g c =
    let below = c.loop-taken-test.true in
    cleaning_ends_free g.S.Side.PIVOT c.args.prefix.now c.args.kept c.end_before-end.result c.args.derivation.now
    c.args.trail.now c.args.steps.now c.end_before-end.ensures.within c.loop-taken.derivation c.loop-taken.trail
    c.loop-taken.steps c.args.row c.loop-taken.row c.loop-taken._taken c.loop-taken.invariant
    (omega arith) c.end_before-end.ensures.front (rw c.lits.ensures at c.in-None.ensures)

pub resolve_away-requires-clause-reasons : goal.resolve_away-requires-clause-reasons
resolve_away-requires-clause-reasons g c = c.loop-taken.invariant.reasons g.S.Side.PIVOT c.requires.cleanable.reasons

pub resolve_away-requires-clause-may : goal.resolve_away-requires-clause-may
resolve_away-requires-clause-may g c = cleaning_may g.S.Side.PIVOT c.args.prefix.now c.args.kept
    c.end_before-end.result c.args.derivation.now c.args.trail.now c.args.steps.now c.end_before-end.ensures.within
    c.loop-taken.derivation c.loop-taken.trail c.loop-taken.steps c.args.row c.loop-taken.row c.loop-taken._taken
    c.loop-taken.invariant c.in-Some.lit (rw c.lits.ensures at c.in-Some.ensures)

pub returns-in_err-row-in-Some-clause-err : goal.returns-in_err-row-in-Some-clause-err
returns-in_err-row-in-Some-clause-err g c =
    let below = c.loop-taken-test.true in
    let within = c.end_before-end.ensures.within in
    on_err c.from_residual.result
    (stops_wider c.args.prefix.now c.args.derivation.now c.resolve_away.new.derivation c.args.trail.now
    c.resolve_away.new.trail c.args.steps.now c.resolve_away.new.steps
    (marks_left c.args.trail.now * length c.args.trail.now.placed + (c.loop-taken._taken + 1))
    (marks_left c.args.trail.now * length c.args.trail.now.placed + length c.args.trail.now.placed) (omega arith)
    (stops_more c.args.prefix.now c.args.derivation.now c.loop-taken.derivation c.resolve_away.new.derivation
    c.args.trail.now c.loop-taken.trail c.resolve_away.new.trail c.args.steps.now c.loop-taken.steps
    c.resolve_away.new.steps c.loop-taken._taken 1 c.loop-taken.invariant.cleans c.requires.cleanable.trail.marked
    c.in_err-row-in-Some.ensures.err))

pub returns-in_err-row-in-Some-clause-spent : goal.returns-in_err-row-in-Some-clause-spent
returns-in_err-row-in-Some-clause-spent g c =
    let p = err_from_is_err_and c.from_residual.result c.from_residual.ensures.1 in
    λ e.
    let own = c.in_err-row-in-Some.ensures.spent
    (ap Err (same_error c.from_residual.result p.0 spent c.in_err-row-in-Some.field-0.0 p.1 p.2 e)) in
    let below = c.loop-taken-test.true in
    let within = c.end_before-end.ensures.within in
    let few = spent_more c.args.prefix.now c.args.derivation.now c.loop-taken.derivation c.resolve_away.new.derivation
    c.args.trail.now c.loop-taken.trail c.resolve_away.new.trail c.args.steps.now c.loop-taken.steps
    c.resolve_away.new.steps c.loop-taken._taken 1 c.loop-taken.invariant.cleans c.requires.cleanable.trail.marked
    own.1 in
    (own.0, omega arith)

pub returns-in_err-row-in-Some-clause-cleanable : goal.returns-in_err-row-in-Some-clause-cleanable
returns-in_err-row-in-Some-clause-cleanable g c = record {
  rows = search rules;
  legal = search rules;
  trail = search rules;
  reasons =
      λ side have. c.in_err-row-in-Some.ensures.reasons side (c.loop-taken.invariant.reasons side have);
}

pub returns-in_err-row-in-Some-clause-due : goal.returns-in_err-row-in-Some-clause-due
returns-in_err-row-in-Some-clause-due g c =
    on_err c.from_residual.result
    (subst (λ (t : Trail). IsBlocked g.S.Side.PIVOT c.args.prefix.now t (row_of c.args.derivation.now c.args.row))
    (sym c.end_before-end.ensures.front)
    (cleaning_due g.S.Side.PIVOT c.args.prefix.now c.args.kept c.end_before-end.result c.args.derivation.now
    c.args.trail.now c.args.steps.now c.end_before-end.ensures.within c.loop-taken.derivation c.loop-taken.trail
    c.loop-taken.steps c.args.row c.loop-taken.row c.loop-taken._taken c.loop-taken.invariant c.in-Some.lit
    (rw c.lits.ensures at c.in-Some.ensures)))

pub returns-in-None-clause-done : goal.returns-in-None-clause-done
returns-in-None-clause-done g c =
    subst (λ (t : Trail). IsDoneIfBlocked g.S.Side.PIVOT c.args.prefix.now c.args.derivation.now
    c.loop-taken.derivation c.args.trail.now c.loop-taken.trail c.args.steps.now c.loop-taken.steps t c.args.row
    c.loop-taken.row) (sym c.end_before-end.ensures.front) c.loop-taken.invariant.due

pub returns-clause-done : goal.returns-clause-done
returns-clause-done g c =
    subst (λ (t : Trail). IsDoneIfBlocked g.S.Side.PIVOT c.args.prefix.now c.args.derivation.now
    c.loop-taken.derivation c.args.trail.now c.loop-taken.trail c.args.steps.now c.loop-taken.steps t c.args.row
    c.loop-taken.row) (sym c.end_before-end.ensures.front) c.loop-taken.invariant.due

pub loop-taken-preserved : goal.loop-taken-preserved
loop-taken-preserved g c =
    cleaning_goes_on g.S.Side.PIVOT c.args.prefix.now c.args.kept c.end_before-end.result c.args.derivation.now
    c.args.trail.now c.args.steps.now c.end_before-end.ensures.within c.loop-taken.derivation c.loop-taken.trail
    c.loop-taken.steps c.args.row c.loop-taken.row c.loop-taken._taken c.loop-taken.invariant c.in-Some.lit
    (rw c.lits.ensures at c.in-Some.ensures)
    c.resolve_away.new.derivation c.resolve_away.new.trail c.resolve_away.new.steps c.in_ok-row-in-Some.row
    c.in_ok-row-in-Some.ensures.ok c.in_ok-row-in-Some.ensures.reasons c.in_ok-row-in-Some.ensures.legal
    c.in_ok-row-in-Some.ensures.trail

pub returns-clause-ok : goal.returns-clause-ok
returns-clause-ok g c =
    let past = c.loop-taken-test.false in
    let most : c.loop-taken._taken ≤ c.end_before-end.result = c.loop-taken.auto._taken-end in
    cleaning_ends g.S.Side.PIVOT c.args.prefix.now c.args.kept c.end_before-end.result c.args.derivation.now
    c.args.trail.now c.args.steps.now c.end_before-end.ensures.within c.loop-taken.derivation c.loop-taken.trail
    c.loop-taken.steps c.args.row c.loop-taken.row c.loop-taken._taken c.loop-taken.invariant most
    c.end_before-end.ensures.front (λ f b blocks. let below = c.loop-taken.invariant.blockers f b blocks in
    omega arith)
