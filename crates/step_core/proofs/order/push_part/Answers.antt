use Rattle.std.proofs.Common.{◌+◌, ◌-◌, ◌++◌, ◌∷◌, [], true, false, arith, ap, sym, ◌∙◌}
use Rattle.std.proofs.lemmas.List.{append-nil, append_assoc}
use Rattle.step_core.proofs.Ordering.{picked, picked_start, picked_step}
use Rattle.step_core.proofs.order.push_part.Goals as goal

pub loop-left-init : goal.loop-left-init
loop-left-init c = (
  omega arith,
  sym (ap (λ xs. c.args.ids.now.items ++ xs)
      (picked_start c.args.derivation.now c.args.end c.args.inputs c.args.marks.now c.requires)
      ∙ append-nil c.args.ids.now.items),
)

pub loop-left-preserved-in-Continue-1 : goal.loop-left-preserved-in-Continue-1
loop-left-preserved-in-Continue-1 c = (
  let l = c.loop-left.invariant.0 in omega arith,
  let d = c.args.derivation.now in
      let step = picked_step d c.args.end c.loop-left.left c.args.inputs c.args.marks.now true
      (omega arith) c.loop-left.invariant.0 c.requires (sym c.if-is_in.true ∙ c.is_in.ensures) in
      let before = picked d c.args.end c.args.inputs (c.args.end + 1 - c.loop-left.left) in
      c.in_ok-push.ensures.items ∙ ap (λ xs. xs ++ (c.args.end - (c.loop-left.left - 1)) ∷ []) c.loop-left.invariant.1
      ∙ append_assoc c.args.ids.now.items before ((c.args.end - (c.loop-left.left - 1)) ∷ [])
      ∙ ap (λ xs. c.args.ids.now.items ++ xs) (sym step),
)

pub loop-left-preserved : goal.loop-left-preserved
loop-left-preserved c = (
  let l = c.loop-left.invariant.0 in omega arith,
  let d = c.args.derivation.now in
      let step = picked_step d c.args.end c.loop-left.left c.args.inputs c.args.marks.now false
      (omega arith) c.loop-left.invariant.0 c.requires (sym c.if-is_in.false ∙ c.is_in.ensures) in
      let before = picked d c.args.end c.args.inputs (c.args.end + 1 - c.loop-left.left) in
      c.loop-left.invariant.1 ∙ ap (λ xs. c.args.ids.now.items ++ xs) (sym (step ∙ append-nil before)),
)
