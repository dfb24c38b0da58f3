use Rattle.std.proofs.Common.{◌-◌, ◌+◌, arith, get_or, refl, length-set, ◌∙◌}
use Rattle.std.proofs.lemmas.List.Elements.{Contains-get_or}
use Rattle.step_core.proofs.Numbering.{numbers_more}
use Rattle.step_core.proofs.numbers.numbers_of.Goals as goal

pub overflow_sub-end : goal.overflow_sub-end
overflow_sub-end c =
    let within = c.loop-left.invariant.0 in
    (c.requires (get_or c.args.ids.now (c.loop-left.left - 1) 0)
    (Contains-get_or c.args.ids.now (c.loop-left.left - 1) 0 (omega arith))).0

pub loop-left-preserved : goal.loop-left-preserved
loop-left-preserved c =
    let within = c.loop-left.invariant.0 in
    let len = c.loop-left.invariant.1 in
    let id = get_or c.args.ids.now (c.loop-left.left - 1) 0 in (
      omega arith,
      length-set c.loop-left.numbers.items (c.args.end - id) (c.loop-left.left - 1 + 1) ∙ len,
      numbers_more c.args.end c.args.ids.now c.loop-left.numbers.items _ c.loop-left.left id (omega arith) within
          (λ x i. rw len (c.requires x i)) refl refl c.loop-left.invariant.2,
    )
