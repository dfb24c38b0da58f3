use Rattle.std.proofs.Common.{◌≡◌, ◌∙◌, ◌++◌, ◌∷◌, [], ap₂, sym, List}
use Rattle.cores.specs.Cores.{Group as Part}
use Rattle.engine.proofs.Coring.{left_out, part_of, put_behind, same_part}
use Rattle.engine.proofs.group_core.active_parts.Goals as goal

pub loop-place-preserved-then-not-is_active : goal.loop-place-preserved-then-not-is_active
loop-place-preserved-then-not-is_active c =
    c.loop-place.invariant ∙ sym (left_out c.args.frames.now.formula.groups c.loop-place.place c.group-group.result.now
    c.group-group.ensures.value (sym c.is_active.ensures ∙ c.if-not-is_active.true))

pub loop-place-preserved : goal.loop-place-preserved
loop-place-preserved c =
    let groups = c.args.frames.now.formula.groups in
    let g = c.group-group.result.now in
    let part : c.new.result ≡ part_of g = same_part c.new.result g c.number.result c.clauses.result.now c.new.ensures
    c.number.ensures c.clauses.ensures in
    c.in_ok-push.ensures.items ∙ ap₂ (λ (xs : List Part) (p : Part). xs ++ p ∷ []) c.loop-place.invariant part
    ∙ sym (put_behind groups c.loop-place.place g c.group-group.ensures.value
    (sym c.is_active.ensures ∙ c.if-not-is_active.false))
