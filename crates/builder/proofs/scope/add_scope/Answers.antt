use Rattle.std.proofs.Common.{◌≡◌, ◌+◌, ◌∷◌, ◌++◌, [], Err, inl, inr, length, ap, ◌∙◌, arith, length-append}
use Rattle.std.proofs.lemmas.List.{take_all}
use Rattle.std.proofs.lemmas.Result.{err_from_is_err_and}
use Rattle.builder.specs.NewScope.{scope_of}
use Rattle.builder.proofs.Scoping.{next_memory, on_err, scope_grows, scope_last, scope_memory}
use Rattle.builder.proofs.scope.add_scope.Goals as goal

pub loop-v-preserved : goal.loop-v-preserved
loop-v-preserved c =
    let ss = c.args.prefix.now in
    let grown = c.in_ok-add_scope.ensures.ok ∙ scope_last ss c.args.quant in
    let number : c.scopes-number.result ≡ length ss + 1 =
    c.scopes-number.ensures.value ∙ ap length grown
    ∙ length-append ss (record { quantifier = c.args.quant; variables = [] } ∷ []) in
    c.in_ok-add_var.ensures.ok
    ∙ scope_grows ss c.loop-v.prefix c.args.quant c.args.vars.now c.loop-v.v-index c.scopes-number.result
    c.loop-v-test.true c.requires.new number c.loop-v.invariant

pub returns-in_err-add_scope-clause-memory : goal.returns-in_err-add_scope-clause-memory
returns-in_err-add_scope-clause-memory c =
    let p = err_from_is_err_and c.from_residual.result c.from_residual.ensures.1 in
    rw (p.1, p.2)
    (scope_memory c.args.prefix.now (Err c.in_err-add_scope.field-0.0) c.requires.room
    c.in_err-add_scope.ensures.refused)

pub returns-in_err-add_scope-clause-err : goal.returns-in_err-add_scope-clause-err
returns-in_err-add_scope-clause-err c = on_err c.from_residual.result (inl c.in_err-add_scope.ensures.err)

pub returns-in_err-add_var-clause-memory : goal.returns-in_err-add_var-clause-memory
returns-in_err-add_var-clause-memory c =
    let ss = c.args.prefix.now in
    let grown = c.in_ok-add_scope.ensures.ok ∙ scope_last ss c.args.quant in
    let number : c.scopes-number.result ≡ length ss + 1 =
    c.scopes-number.ensures.value ∙ ap length grown
    ∙ length-append ss (record { quantifier = c.args.quant; variables = [] } ∷ []) in
    let p = err_from_is_err_and c.from_residual-in_err-add_var.result c.from_residual-in_err-add_var.ensures.1 in
    rw (p.1, p.2)
    (next_memory ss c.loop-v.prefix c.args.quant c.args.vars.now c.loop-v.v-index c.scopes-number.result
    c.loop-v-test.true c.requires.new number c.loop-v.invariant (Err c.in_err-add_var.field-0.0)
    c.in_err-add_var.ensures.refused)

pub returns-in_err-add_var-clause-err : goal.returns-in_err-add_var-clause-err
returns-in_err-add_var-clause-err c =
    on_err c.from_residual-in_err-add_var.result
    (inr (c.loop-v.v-index, omega arith, c.in_err-add_var.ensures.err ∙ c.loop-v.invariant))

pub returns-clause-ok : goal.returns-clause-ok
returns-clause-ok c =
    c.loop-v.invariant
    ∙ ap (λ vs. c.args.prefix.now ++ scope_of c.args.quant vs ∷ [])
    (take_all c.loop-v.v-index c.args.vars.now (omega arith))
