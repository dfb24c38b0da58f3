use Rattle.std.proofs.Common.{Contains, ap, is_some, sym, ◌∙◌}
use Rattle.prefix.specs.Scopes.{variables_at}
use Rattle.decide.proofs.Choosing.{none_from, one_assigned, one_found, one_stands, open_in}
use Rattle.decide.proofs.decider.Decider.refill.Goals as goal

pub loop-v-preserved-then-is_some : goal.loop-v-preserved-then-is_some
loop-v-preserved-then-is_some c = (
  one_assigned _ _ _ _ c.loop-v.v-iterator c.next.new.self c.loop-v.one c.in-Some.v.now c.loop-v.invariant.0
      c.in-Some.ensures.steps (ap is_some (sym c.value.ensures) ∙ sym c.if-is_some.ensures),
  c.loop-v.invariant.1,
)

pub loop-v-preserved : goal.loop-v-preserved
loop-v-preserved c =
    let v = c.in-Some.v.now in
    let has = c.loop-v.invariant.0 in
    let there : Contains (variables_at c.args.prefix.now c.args.scope) v =
    one_stands _ _ _ _ c.loop-v.v-iterator c.next.new.self c.loop-v.one v has c.in-Some.ensures.steps in
    let none = sym c.value.ensures ∙ none_from c.value.result (sym c.if-is_some.ensures) in
    let here = open_in c.args.prefix.now c.args.trail.now.placed c.args.scope v c.requires there none in (
      one_found _ _ _ _ c.loop-v.v-iterator c.next.new.self c.loop-v.one v has c.in-Some.ensures.steps here,
      c.put.ensures ∙ c.loop-v.invariant.1,
    )
