use Rattle.std.proofs.Common.{ap, Err, length, ◌*◌, rules}
use Rattle.std.proofs.lemmas.Result.{err_from_is_err_and}
use Rattle.steps.specs.declared.stop.Stop.TheVariants.{Spent as spent}
use Rattle.clean.specs.Marks.{marks_left}
use Rattle.clean.proofs.Circling.{spent_under, starts_under_way, stops_clean, turns_once, under_square, was_due}
use Rattle.clean.proofs.Rounds.{on_err, same_error}
use Rattle.clean.proofs.reason.clean_all.Goals as goal

pub loop-frame-init : goal.loop-frame-init
loop-frame-init g c = starts_under_way g.S.Side.PIVOT c.args.prefix.now c.args.derivation.now c.args.trail.now
    c.args.steps.now c.args.stack.now.items c.requires.cleanable.rows c.requires.cleanable.legal
    c.requires.cleanable.trail c.requires.cleanable.reasons
    c.requires.frames c.requires.one

pub loop-frame-smaller : goal.loop-frame-smaller
loop-frame-smaller g c =
    (turns_once g.S.Side.PIVOT c.args.prefix.now c.args.derivation.now c.loop-frame.derivation
    c.turn.new.derivation c.args.trail.now c.loop-frame.trail c.turn.new.trail c.args.steps.now
    c.loop-frame.steps c.turn.new.steps c.args.stack.now.items c.loop-frame.stack.items
    c.turn.new.stack.items
    c.loop-frame.invariant c.in_ok-turn.ensures.cleanable.reasons c.in_ok-turn.ensures.cleanable.legal
    c.in_ok-turn.ensures.cleanable.trail
    c.in_ok-turn.ensures.frames (rw (← c.in-Some.ensures.items) at c.in_ok-turn.ensures.ok)).1

pub loop-frame-preserved : goal.loop-frame-preserved
loop-frame-preserved g c =
    (turns_once g.S.Side.PIVOT c.args.prefix.now c.args.derivation.now c.loop-frame.derivation
    c.turn.new.derivation c.args.trail.now c.loop-frame.trail c.turn.new.trail c.args.steps.now
    c.loop-frame.steps c.turn.new.steps c.args.stack.now.items c.loop-frame.stack.items
    c.turn.new.stack.items
    c.loop-frame.invariant c.in_ok-turn.ensures.cleanable.reasons c.in_ok-turn.ensures.cleanable.legal
    c.in_ok-turn.ensures.cleanable.trail
    c.in_ok-turn.ensures.frames (rw (← c.in-Some.ensures.items) at c.in_ok-turn.ensures.ok)).0

pub returns-in_err-turn-clause-err : goal.returns-in_err-turn-clause-err
returns-in_err-turn-clause-err g c =
    on_err c.from_residual.result
    (stops_clean g.S.Side.PIVOT c.args.prefix.now c.args.derivation.now c.loop-frame.derivation
    c.turn.new.derivation c.args.trail.now c.loop-frame.trail c.turn.new.trail c.args.steps.now
    c.loop-frame.steps c.turn.new.steps c.args.stack.now.items c.loop-frame.stack.items
    c.loop-frame.invariant (rw (← c.in-Some.ensures.items) at c.in_err-turn.ensures.due) c.in_err-turn.ensures.stays
    c.in_err-turn.ensures.err)

pub returns-in_err-turn-clause-cleanable : goal.returns-in_err-turn-clause-cleanable
returns-in_err-turn-clause-cleanable g c = record {
  rows = search rules;
  legal = search rules;
  trail = search rules;
  reasons =
      λ side have. c.in_err-turn.ensures.cleanable.reasons side (c.loop-frame.invariant.reasons side have);
}

pub returns-in_err-turn-clause-spent : goal.returns-in_err-turn-clause-spent
returns-in_err-turn-clause-spent g c =
    let p = err_from_is_err_and c.from_residual.result c.from_residual.ensures.1 in
    let is = c.loop-frame.invariant in
    λ e.
    let own = c.in_err-turn.ensures.spent (ap Err
    (same_error c.from_residual.result p.0 spent c.in_err-turn.field-0.0 p.1 p.2 e)) in (
      own.0,
      spent_under c.args.steps.now c.loop-frame.steps is.taken is.reduced
          (marks_left c.args.trail.now * length c.args.trail.now.placed) is.counted is.resolves.fewer own.1
          (under_square g.S.Side.PIVOT c.args.prefix.now c.args.derivation.now c.loop-frame.derivation
          c.args.trail.now c.loop-frame.trail c.args.steps.now c.loop-frame.steps c.args.stack.now.items
          c.loop-frame.stack.items is (rw (← c.in-Some.ensures.items) at c.in_err-turn.ensures.due)),
    )

pub returns-in_err-turn-clause-due : goal.returns-in_err-turn-clause-due
returns-in_err-turn-clause-due g c =
    on_err c.from_residual.result
    (was_due g.S.Side.PIVOT c.args.prefix.now c.args.derivation.now c.loop-frame.derivation c.args.trail.now
    c.loop-frame.trail c.args.steps.now c.loop-frame.steps c.args.stack.now.items
    c.loop-frame.stack.items
    c.loop-frame.invariant (rw (← c.in-Some.ensures.items) at c.in_err-turn.ensures.due))
