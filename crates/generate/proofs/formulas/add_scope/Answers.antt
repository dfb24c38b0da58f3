use Rattle.std.proofs.Common.{◌≡◌, ◌+◌, ◌-◌, ◌++◌, ◌∷◌, [], length, Err, ap, ◌∙◌, arith, length-append}
use Rattle.std.proofs.lemmas.Result.{err_from_is_err_and}
use Rattle.generate.specs.Made.{scope_from}
use Rattle.generate.proofs.Scoping.{next_memory, scope_grows}
use Rattle.generate.proofs.formulas.add_scope.Goals as goal
use Rattle.builder.proofs.Scoping.{scope_last}

pub returns-in_err-add_var-clause-memory : goal.returns-in_err-add_var-clause-memory
returns-in_err-add_var-clause-memory c =
    let ss = c.args.prefix.now in
    let count = c.loop-v.v - c.args.first in
    let grown = c.in_ok-add_scope.ensures.ok ∙ scope_last ss c.args.quant in
    let number : c.scopes-number.result ≡ length ss + 1 =
    c.scopes-number.ensures.value ∙ ap length grown
    ∙ length-append ss (scope_from c.args.quant c.args.first 0 ∷ []) in
    let p = err_from_is_err_and c.from_residual-in_err-add_var.result c.from_residual-in_err-add_var.ensures.1 in
    rw (p.1, p.2)
    (next_memory ss c.args.quant c.args.first count c.loop-v.prefix c.loop-v.v c.scopes-number.result
    (Err c.in_err-add_var.field-0.0) (omega arith) (omega arith) (omega arith) number c.loop-v.invariant
    c.requires.new c.in_err-add_var.ensures.refused)

pub loop-v-preserved : goal.loop-v-preserved
loop-v-preserved c =
    let ss = c.args.prefix.now in
    let count = c.loop-v.v - c.args.first in
    let grown = c.in_ok-add_scope.ensures.ok ∙ scope_last ss c.args.quant in
    let number : c.scopes-number.result - 1 ≡ length ss =
    omega (
      arith,
      c.scopes-number.ensures.value,
      ap length grown,
      length-append ss (scope_from c.args.quant c.args.first 0 ∷ []),
    ) in
    c.in_ok-add_var.ensures.ok
    ∙ scope_grows ss c.args.quant c.args.first count c.loop-v.prefix c.loop-v.v c.scopes-number.result (omega arith)
    number c.loop-v.invariant
    ∙ ap (λ n. ss ++ scope_from c.args.quant c.args.first n ∷ [])
    (let e : count + 1 ≡ c.loop-v.v + 1 - c.args.first = omega arith in e)
