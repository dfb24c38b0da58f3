use Rattle.std.proofs.Common.{◌≡◌, ◌+◌, ◌*◌, ◌/◌, [], ◌∷◌, ◌++◌, ap, ◌∙◌, arith}
use Rattle.prefix.specs.declared.quant.Quant.TheVariants.{Exists, Forall}
use Rattle.generate.specs.Made.{scope_from}
use Rattle.generate.proofs.Scoping.{scopes_below}
use Rattle.generate.proofs.formulas.make_prefix.Goals as goal

pub add_scope-requires-2-clause-new : goal.add_scope-requires-2-clause-new
add_scope-requires-2-clause-new c =
    let third = c.args.vars / 3 in
    let is : c.add_scope.new.prefix ≡ scope_from Exists 1 third ∷ [] =
    c.in_ok-add_scope.ensures.ok ∙ ap (λ p. p ++ scope_from Exists 1 third ∷ []) c.new-prefix.ensures in
    scopes_below [] Exists 1 third c.add_scope.new.prefix (third + 1) is (omega arith) tt

pub add_scope-requires-3-clause-new : goal.add_scope-requires-3-clause-new
add_scope-requires-3-clause-new c =
    let third = c.args.vars / 3 in
    let is : c.add_scope.new.prefix ≡ scope_from Exists 1 third ∷ [] =
    c.in_ok-add_scope.ensures.ok ∙ ap (λ p. p ++ scope_from Exists 1 third ∷ []) c.new-prefix.ensures in
    scopes_below c.add_scope.new.prefix Forall (third + 1) third c.add_scope-2.new.prefix (2 * third + 1)
    c.in_ok-add_scope-2.ensures.ok (omega arith)
    (scopes_below [] Exists 1 third c.add_scope.new.prefix (2 * third + 1) is (omega arith) tt)
