use Rattle.std.proofs.Common.{◌∙◌, ◌++◌, ◌∷◌, [], ap, refl, rules}
use Rattle.calculus.specs.Search.{place_on}
use Rattle.clean.proofs.Rounds.{keeps_grown, marks_frames, marks_reasons, on_err, stops_at_once, top, top_live, top_row, top_way, turns_due, turns_frames, turns_resolvable, turns_turn, waits_due, waits_frames, waits_turn}
use Rattle.clean.proofs.reason.turn.Goals as goal

pub lits-requires-clause-live : goal.lits-requires-clause-live
lits-requires-clause-live g c = top_live g.S.Side.PIVOT c.args.prefix.now c.args.derivation.now c.args.trail.now
    (c.args.stack.now.items ++ c.args.frame ∷ []) c.args.stack.now.items c.args.frame refl c.requires.frames

pub look-requires-clause-row : goal.look-requires-clause-row
look-requires-clause-row g c = top_row g.S.Side.PIVOT c.args.prefix.now c.args.derivation.now c.args.trail.now
    (c.args.stack.now.items ++ c.args.frame ∷ []) c.args.stack.now.items c.args.frame refl c.requires.frames
    c.requires.cleanable.legal c.lits.result.now c.lits.ensures

pub look-requires-clause-way : goal.look-requires-clause-way
look-requires-clause-way g c = top_way g.S.Side.PIVOT c.args.prefix.now c.args.derivation.now c.args.trail.now
    (c.args.stack.now.items ++ c.args.frame ∷ []) c.args.stack.now.items c.args.frame refl c.requires.frames
    c.place_of-end.result c.lits.result.now c.place_of-end.ensures.place c.lits.ensures

pub set_clean-requires : goal.set_clean-requires
set_clean-requires g c = record {
  propagated =
      (top g.S.Side.PIVOT c.args.prefix.now c.args.derivation.now c.args.trail.now (c.args.stack.now.items ++
      c.args.frame ∷ []) c.args.stack.now.items c.args.frame refl c.requires.frames).propagated;
}

pub returns-in-Ends-clause-frames : goal.returns-in-Ends-clause-frames
returns-in-Ends-clause-frames g c = marks_frames g.S.Side.PIVOT c.args.prefix.now c.args.derivation.now
    c.args.trail.now (c.args.stack.now.items ++ c.args.frame ∷ []) c.args.stack.now.items c.args.frame refl
    c.requires.frames c.place_of-end.result c.lits.result.now c.place_of-end.ensures.place c.lits.ensures
    c.in-Ends.ensures c.set_clean.new.self c.set_clean.ensures.value c.requires.cleanable.trail.marked

pub returns-in-Ends-clause-cleanable : goal.returns-in-Ends-clause-cleanable
returns-in-Ends-clause-cleanable g c = record {
  rows = search rules;
  legal = search rules;
  trail = search rules;
  reasons =
      marks_reasons g.S.Side.PIVOT c.args.prefix.now c.args.derivation.now
      c.args.trail.now (c.args.stack.now.items ++ c.args.frame ∷ []) c.args.stack.now.items c.args.frame refl
      c.requires.frames c.place_of-end.result c.lits.result.now c.place_of-end.ensures.place c.lits.ensures
      c.in-Ends.ensures c.set_clean.new.self c.set_clean.ensures.value c.requires.cleanable.trail.marked;
}

pub resolve_with_reason-requires-clause-resolvable : goal.resolve_with_reason-requires-clause-resolvable
resolve_with_reason-requires-clause-resolvable g c =
    turns_resolvable g.S.Side.PIVOT c.args.prefix.now c.args.derivation.now c.args.trail.now (c.args.stack.now.items
    ++ c.args.frame ∷ []) c.args.stack.now.items c.args.frame refl c.requires.frames c.place_of-end.result
    c.in-Turns.lit c.in-Turns.reason c.lits.result.now c.place_of-end.ensures.place c.lits.ensures
    c.requires.cleanable.legal
    c.in-Turns.ensures c.requires.cleanable.reasons

pub returns-in_err-push-in-Waits-2-clause-err : goal.returns-in_err-push-in-Waits-2-clause-err
returns-in_err-push-in-Waits-2-clause-err g c =
    on_err c.from_residual-in_err-push-in-Waits-2.result
    (stops_at_once c.args.prefix.now c.args.derivation.now c.args.steps.now c.requires.cleanable.rows)

pub returns-in_err-push-in-Waits-2-clause-due : goal.returns-in_err-push-in-Waits-2-clause-due
returns-in_err-push-in-Waits-2-clause-due g c =
    on_err c.from_residual-in_err-push-in-Waits-2.result
    (waits_due g.S.Side.PIVOT c.args.prefix.now c.args.derivation.now c.args.trail.now (c.args.stack.now.items ++
    c.args.frame ∷ []) c.args.stack.now.items c.args.frame refl c.requires.frames c.place_of-end.result
    c.in-Waits.var c.lits.result.now c.place_of-end.ensures.place c.lits.ensures c.requires.cleanable.legal
    c.in-Waits.ensures)

pub returns-in_err-row-in-Turns-clause-due : goal.returns-in_err-row-in-Turns-clause-due
returns-in_err-row-in-Turns-clause-due g c =
    on_err c.from_residual-in_err-row-in-Turns.result
    (turns_due g.S.Side.PIVOT c.args.prefix.now c.args.derivation.now c.args.trail.now (c.args.stack.now.items ++
    c.args.frame ∷ []) c.args.stack.now.items c.args.frame refl c.requires.frames c.place_of-end.result
    c.in-Turns.lit c.in-Turns.reason c.lits.result.now c.place_of-end.ensures.place c.lits.ensures
    c.requires.cleanable.legal
    c.in-Turns.ensures c.requires.cleanable.reasons)

pub returns-in_err-row-in-Turns-clause-cleanable : goal.returns-in_err-row-in-Turns-clause-cleanable
returns-in_err-row-in-Turns-clause-cleanable g c = record {
  rows = search rules;
  legal = search rules;
  trail = search rules;
  reasons =
      keeps_grown c.args.prefix.now c.args.derivation.now c.resolve_with_reason.new.derivation c.args.trail.now
      c.resolve_with_reason.ensures.grows;
}

pub returns-in_ok-push-in-Waits-2-clause-ok : goal.returns-in_ok-push-in-Waits-2-clause-ok
returns-in_ok-push-in-Waits-2-clause-ok g c =
    waits_turn g.S.Side.PIVOT c.args.prefix.now c.args.derivation.now c.args.trail.now (c.args.stack.now.items ++
    c.args.frame ∷ []) c.args.stack.now.items c.args.frame refl c.requires.frames c.place_of-end.result
    c.in-Waits.var c.lits.result.now c.place_of-end.ensures.place c.lits.ensures c.requires.cleanable.legal
    c.in-Waits.ensures
    c.frame_of-next.result c.push.new.self.items c.push-in-Waits.new.self.items c.in_ok-push-in-Waits.ensures.items
    c.in_ok-push-in-Waits-2.ensures.items c.frame_of-next.ensures.variable c.frame_of-next.ensures.row
    c.frame_of-next.ensures.whole c.args.steps.now

pub returns-in_ok-push-in-Waits-2-clause-frames : goal.returns-in_ok-push-in-Waits-2-clause-frames
returns-in_ok-push-in-Waits-2-clause-frames g c =
    waits_frames g.S.Side.PIVOT c.args.prefix.now c.args.derivation.now c.args.trail.now (c.args.stack.now.items ++
    c.args.frame ∷ []) c.args.stack.now.items c.args.frame refl c.requires.frames c.place_of-end.result
    c.in-Waits.var c.lits.result.now c.place_of-end.ensures.place c.lits.ensures c.requires.cleanable.legal
    c.in-Waits.ensures
    c.frame_of-next.result c.push.new.self.items c.push-in-Waits.new.self.items c.in_ok-push-in-Waits.ensures.items
    c.in_ok-push-in-Waits-2.ensures.items c.frame_of-next.ensures.variable c.frame_of-next.ensures.row
    c.frame_of-next.ensures.whole c.requires.cleanable.reasons

pub returns-in_ok-push-in-Turns-clause-ok : goal.returns-in_ok-push-in-Turns-clause-ok
returns-in_ok-push-in-Turns-clause-ok g c =
    turns_turn g.S.Side.PIVOT c.args.prefix.now c.args.derivation.now c.args.trail.now (c.args.stack.now.items ++
    c.args.frame ∷ []) c.args.stack.now.items c.args.frame refl c.requires.frames c.place_of-end.result
    c.in-Turns.lit c.in-Turns.reason c.lits.result.now c.place_of-end.ensures.place c.lits.ensures
    c.requires.cleanable.legal
    c.in-Turns.ensures c.requires.cleanable.reasons
    c.resolve_with_reason.new.derivation c.args.steps.now c.resolve_with_reason.new.steps (record {
      var = c.args.frame.var;
      row = c.in_ok-row-in-Turns.row;
      left = c.place_of-left.result;
    }) c.push-in-Turns.new.self.items c.in_ok-row-in-Turns.ensures.ok
    c.in_ok-push-in-Turns.ensures.items refl (c.place_of-left.ensures.place
    ∙ ap (place_on c.args.trail.now.placed) c.var.ensures)

pub returns-in_ok-push-in-Turns-clause-frames : goal.returns-in_ok-push-in-Turns-clause-frames
returns-in_ok-push-in-Turns-clause-frames g c =
    turns_frames g.S.Side.PIVOT c.args.prefix.now c.args.derivation.now c.args.trail.now (c.args.stack.now.items ++
    c.args.frame ∷ []) c.args.stack.now.items c.args.frame refl c.requires.frames c.place_of-end.result
    c.in-Turns.lit c.in-Turns.reason c.lits.result.now c.place_of-end.ensures.place c.lits.ensures
    c.requires.cleanable.legal
    c.in-Turns.ensures c.requires.cleanable.reasons
    c.resolve_with_reason.new.derivation c.args.steps.now c.resolve_with_reason.new.steps (record {
      var = c.args.frame.var;
      row = c.in_ok-row-in-Turns.row;
      left = c.place_of-left.result;
    }) c.push-in-Turns.new.self.items c.in_ok-row-in-Turns.ensures.ok
    c.in_ok-push-in-Turns.ensures.items refl (c.place_of-left.ensures.place
    ∙ ap (place_on c.args.trail.now.placed) c.var.ensures)

pub returns-in_ok-push-in-Turns-clause-cleanable : goal.returns-in_ok-push-in-Turns-clause-cleanable
returns-in_ok-push-in-Turns-clause-cleanable g c = record {
  rows = search rules;
  legal = search rules;
  trail = search rules;
  reasons =
      keeps_grown c.args.prefix.now c.args.derivation.now c.resolve_with_reason.new.derivation c.args.trail.now
      c.resolve_with_reason.ensures.grows;
}

pub returns-in_err-push-in-Waits-clause-err : goal.returns-in_err-push-in-Waits-clause-err
returns-in_err-push-in-Waits-clause-err g c =
    on_err c.from_residual.result
    (stops_at_once c.args.prefix.now c.args.derivation.now c.args.steps.now c.requires.cleanable.rows)

pub returns-in_err-push-in-Turns-clause-cleanable : goal.returns-in_err-push-in-Turns-clause-cleanable
returns-in_err-push-in-Turns-clause-cleanable g c = record {
  rows = search rules;
  legal = search rules;
  trail = search rules;
  reasons =
      keeps_grown c.args.prefix.now c.args.derivation.now c.resolve_with_reason.new.derivation c.args.trail.now
      c.resolve_with_reason.ensures.grows;
}
