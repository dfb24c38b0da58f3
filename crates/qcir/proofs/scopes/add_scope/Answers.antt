use Rattle.std.proofs.Common.{◌≡◌, Err, ◌∷◌, [], length, ap, ◌∙◌, get_or, arith, ◌+◌, length-append}
use Rattle.std.proofs.lemmas.List.{get_or_default, take_all}
use Rattle.std.proofs.lemmas.Result.{err_from_is_err_and}
use Rattle.clauses.specs.Clause.{ascending}
use Rattle.builder.proofs.Scoping.{scope_last, scope_memory}
use Rattle.qcir.proofs.Scoping.{and_scope, scope_grows, variable_memory}
use Rattle.qcir.proofs.scopes.add_scope.Goals as goal

pub loop-v-preserved : goal.loop-v-preserved
loop-v-preserved c =
    let ss = c.args.prefix.now in
    let vs = c.args.vars.now in
    let grown = c.in_ok-add_scope.ensures.ok ∙ scope_last ss c.args.quant in
    let number : c.scopes-number.result ≡ length ss + 1 =
    c.scopes-number.ensures.value ∙ ap length grown
    ∙ length-append ss (record { quantifier = c.args.quant; variables = [] } ∷ []) in
    let var : c.number.result ≡ get_or vs c.loop-v.v-index 0 =
    c.number.ensures.value ∙ c.v-item.is ∙ get_or_default vs c.loop-v.v-index c.v-item.result 0 c.loop-v-test.true in
    c.in_ok-add_var.ensures.ok
    ∙ scope_grows ss c.loop-v.prefix c.args.quant vs c.loop-v.v-index c.scopes-number.result c.number.result
    c.loop-v-test.true var c.requires.new number c.loop-v.invariant

pub returns-in_err-add_scope-clause-memory : goal.returns-in_err-add_scope-clause-memory
returns-in_err-add_scope-clause-memory c =
    let p = err_from_is_err_and c.from_residual.result c.from_residual.ensures.1 in
    rw (p.1, p.2)
    (scope_memory c.args.prefix.now (Err c.in_err-add_scope.field-0.0) c.requires.room
    c.in_err-add_scope.ensures.refused)

pub returns-in_err-add_var-clause-memory : goal.returns-in_err-add_var-clause-memory
returns-in_err-add_var-clause-memory c =
    let ss = c.args.prefix.now in
    let vs = c.args.vars.now in
    let grown = c.in_ok-add_scope.ensures.ok ∙ scope_last ss c.args.quant in
    let number : c.scopes-number.result ≡ length ss + 1 =
    c.scopes-number.ensures.value ∙ ap length grown
    ∙ length-append ss (record { quantifier = c.args.quant; variables = [] } ∷ []) in
    let var : c.number.result ≡ get_or vs c.loop-v.v-index 0 =
    c.number.ensures.value ∙ c.v-item.is ∙ get_or_default vs c.loop-v.v-index c.v-item.result 0 c.loop-v-test.true in
    let p = err_from_is_err_and c.from_residual-in_err-add_var.result c.from_residual-in_err-add_var.ensures.1 in
    rw (p.1, p.2)
    (variable_memory ss c.loop-v.prefix c.args.quant vs c.loop-v.v-index c.scopes-number.result c.number.result
    c.loop-v-test.true var c.requires.new number c.loop-v.invariant (Err c.in_err-add_var.field-0.0)
    c.in_err-add_var.ensures.refused)

pub returns : goal.returns
returns c =
    let vs = c.args.vars.now in
    record {
      ok = c.loop-v.invariant
          ∙ ap (λ us. and_scope c.args.prefix.now c.args.quant (ascending us))
          (take_all c.loop-v.v-index vs (omega arith));
      memory = tt;
    }
