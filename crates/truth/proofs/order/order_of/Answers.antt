use Rattle.std.proofs.Common.{◌≡◌, ◌<◌, length, ap, sym, ◌∙◌, map, ◌++◌, take, arith}
use Rattle.std.proofs.lemmas.List.{take_all}
use Rattle.prefix.specs.Scopes.{bound_by, prefix_order}
use Rattle.truth.proofs.OrderLemmas.{has_quantifier, prefix_order_more, variables_of-prefix_order}
use Rattle.truth.proofs.order.order_of.Goals as goal

pub unwrap-quant-requires : goal.unwrap-quant-requires
unwrap-quant-requires c =
    let within : c.loop-s.s < length c.args.prefix.now = omega arith in
    rw c.scope_quant.ensures.value (has_quantifier c.args.prefix.now c.loop-s.s within)

pub loop-s-preserved : goal.loop-s-preserved
loop-s-preserved c =
    let ss = c.args.prefix.now in
    let within : c.loop-s.s < length ss = omega arith in
    c.in_ok-push_scope.ensures ∙ ap (λ xs. xs ++ map (bound_by c.unwrap-quant.result) c.vars_of.result.now.keys)
    c.loop-s.invariant
    ∙ ap (λ vs. prefix_order (take c.loop-s.s ss) ++ map (bound_by c.unwrap-quant.result) vs) c.vars_of.ensures
    ∙ sym (prefix_order_more ss c.loop-s.s c.unwrap-quant.result within
    (sym c.scope_quant.ensures.value ∙ c.unwrap-quant.ensures))

pub returns-clause-distinct : goal.returns-clause-distinct
returns-clause-distinct c =
    let ss = c.args.prefix.now in
    let full : take c.loop-s.s ss ≡ ss = take_all c.loop-s.s ss (omega arith) in
    rw (c.loop-s.invariant, full, variables_of-prefix_order) c.scopes-s-end.ensures.valid.distinct
