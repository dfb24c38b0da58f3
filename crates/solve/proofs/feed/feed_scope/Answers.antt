use Rattle.std.proofs.Common.{◌≡◌, ℕ, ◌+◌, ◌∙◌, ◌∷◌, ◌++◌, [], Err, get_or, ap, sym, length, length-append}
use Rattle.std.proofs.lemmas.Result.{err_from_is_err_and}
use Rattle.frames.specs.State.{OpenFormula}
use Rattle.solve.proofs.Feeding.{only_memory, scope_fed, variable_fed, variable_memory}
use Rattle.solve.proofs.Passing.{next_left}
use Rattle.solve.proofs.feed.feed_scope.Goals as goal

pub returns-in_err-var-clause-memory : goal.returns-in_err-var-clause-memory
returns-in_err-var-clause-memory c =
    let p = err_from_is_err_and c.from_residual-in_err-var.result c.from_residual-in_err-var.ensures.1 in
    let scopes = c.args.engine.now.formula.scopes in
    let vars = c.args.vars.now.keys in
    let i : ℕ = length c.loop-var.yielded in
    let next = next_left vars c.loop-var.var-iterator i c.in-Some.var.now c.next.new.self c.loop-var.invariant.1
    c.in-Some.ensures.steps in
    let fed = scope_fed c.args.engine.now c.scope.new.self c.args.quant c.requires.holds c.in_ok-scope.ensures.ok in
    let number : c.scopes-number.result ≡ length scopes + 1 =
    c.scopes-number.ensures.value ∙ ap length (c.prefix.ensures.value ∙ ap (λ (f : OpenFormula). f.scopes) fed.formula)
    ∙ length-append scopes (record { quantifier = c.args.quant; variables = [] } ∷ []) in
    let var : c.number.result ≡ get_or vars i 0 = c.number.ensures.value ∙ sym (next.item 0) in
    let none = variable_memory scopes c.args.quant vars i c.scopes-number.result c.number.result next.below var number
    c.loop-var.engine c.loop-var.invariant.0 c.requires.new in
    rw (p.1, p.2) (only_memory _ (Err c.in_err-var.field-0.0) none c.in_err-var.ensures.refused)

pub loop-var-preserved : goal.loop-var-preserved
loop-var-preserved c =
    let scopes = c.args.engine.now.formula.scopes in
    let vars = c.args.vars.now.keys in
    let i : ℕ = length c.loop-var.yielded in
    let next = next_left vars c.loop-var.var-iterator i c.in-Some.var.now c.next.new.self c.loop-var.invariant.1
    c.in-Some.ensures.steps in
    let fed = scope_fed c.args.engine.now c.scope.new.self c.args.quant c.requires.holds c.in_ok-scope.ensures.ok in
    let number : c.scopes-number.result ≡ length scopes + 1 =
    c.scopes-number.ensures.value ∙ ap length (c.prefix.ensures.value ∙ ap (λ (f : OpenFormula). f.scopes) fed.formula)
    ∙ length-append scopes (record { quantifier = c.args.quant; variables = [] } ∷ []) in
    let var : c.number.result ≡ get_or vars i 0 = c.number.ensures.value ∙ sym (next.item 0) in
    let more : length (c.loop-var.yielded ++ c.in-Some.var ∷ []) ≡ i + 1 =
    length-append c.loop-var.yielded (c.in-Some.var ∷ []) in
    rw more (
      variable_fed scopes c.args.quant vars i c.scopes-number.result c.number.result next.below var number
          c.loop-var.engine c.var.new.self c.loop-var.invariant.0 c.requires.ascending c.in_ok-var.ensures.ok,
      next.later,
    )
