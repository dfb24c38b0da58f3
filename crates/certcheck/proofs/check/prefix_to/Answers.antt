use Rattle.std.proofs.Common.{ℕ, ◌<◌, List, [], ◌∷◌, ◌++◌, ap₂, ◌∙◌, arith}
use Rattle.prefix.specs.declared.quant.Quant.TheVariants.{Exists}
use Rattle.prefix.specs.Scopes.{Scope}
use Rattle.builder.specs.NewScope.{scope_of}
use Rattle.certcheck.proofs.Scoping.{range_new, scopes_are}
use Rattle.certcheck.proofs.check.prefix_to.Goals as goal

pub add_scope-requires-clause-new : goal.add_scope-requires-clause-new
add_scope-requires-clause-new c =
    rw (c.new-prefix.ensures, c.deref.ensures.value, c.in_ok-vars.ensures) (range_new c.args.count c.requires)

pub returns-clause-scopes : goal.returns-clause-scopes
returns-clause-scopes c =
    let some : 0 < c.args.count = omega (arith, c.if-count-eq0.false) in
    c.in_ok-add_scope.ensures.ok
    ∙ ap₂ (λ (ss : List Scope) (vs : List ℕ). ss ++ scope_of Exists vs ∷ []) c.new-prefix.ensures
    (c.deref.ensures.value ∙ c.in_ok-vars.ensures)
    ∙ scopes_are c.args.count some
