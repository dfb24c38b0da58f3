use Rattle.std.proofs.Common.{◌≡◌, ◌<◌, length, take, sym, ap, ◌∙◌, arith}
use Rattle.std.proofs.lemmas.List.{length-take-le}
use Rattle.truth.proofs.OrderLemmas.{has_quantifier}
use Rattle.clauses.specs.Clause.{ascending}
use Rattle.qcir.proofs.Scoping.{and_scope, scope_new, scope_next}
use Rattle.qcir.proofs.scopes.first_scopes.Goals as goal

pub unwrap-quant-requires : goal.unwrap-quant-requires
unwrap-quant-requires c =
    let within : c.loop-s.s < length c.args.old.now = omega arith in
    rw c.scope_quant.ensures.value (has_quantifier c.args.old.now c.loop-s.s within)

pub copy_scope-requires-clause-room : goal.copy_scope-requires-clause-room
copy_scope-requires-clause-room c =
    let ss = c.args.old.now in
    let long : length (take c.loop-s.s ss) ≡ c.loop-s.s = length-take-le c.loop-s.s ss (omega arith) in
    omega (arith, ap length c.loop-s.invariant, long, c.requires.valid.few)

pub copy_scope-requires-clause-new : goal.copy_scope-requires-clause-new
copy_scope-requires-clause-new c =
    rw (c.vars_of.ensures, c.loop-s.invariant)
    (scope_new c.args.old.now c.loop-s.s c.requires.valid (omega arith))

pub loop-s-preserved : goal.loop-s-preserved
loop-s-preserved c =
    let ss = c.args.old.now in
    c.in_ok-copy_scope.ensures.ok
    ∙ ap (λ p. and_scope p c.unwrap-quant.result (ascending c.vars_of.result.now.keys)) c.loop-s.invariant
    ∙ scope_next ss c.loop-s.s c.unwrap-quant.result c.vars_of.result.now.keys c.requires.valid
    (sym c.scope_quant.ensures.value ∙ c.unwrap-quant.ensures) c.vars_of.ensures
