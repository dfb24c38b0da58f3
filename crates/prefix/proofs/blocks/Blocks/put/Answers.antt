use Rattle.std.proofs.Common.{◌≡◌, ◌<◌, ℕ, List, length, ap, refl, arith, ◌∙◌, sym}
use Rattle.std.proofs.lemmas.Result.{err_from_is_err_and}
use Rattle.std.proofs.lemmas.List.{get_or_read, length-map}
use Rattle.prefix.specs.declared.quant.Quant.{Quant}
use Rattle.prefix.specs.Scopes.{Scope, level_of, with_variable_at}
use Rattle.prefix.specs.Blocks.{Ordered}
use Rattle.prefix.proofs.BlockLemmas.{none_at, same_scopes, scopes_with}
use Rattle.prefix.proofs.blocks.Blocks.put.Goals as goal

pub put-requires : goal.put-requires
put-requires c =
    let count : length c.args.self.now.scopes ≡ length c.self.inside.order.items = ap (λ (o : Ordered). length o.scopes)
    (sym c.self.view_is) ∙ length-map c.self.inside.order.items _ in
    let within : c.args.place < length c.self.inside.order.items = omega (arith, count, c.requires.place) in
    let named = get_or_read c.self.inside.order.items c.args.place c.index-id.result.now within c.index-id.ensures 0 in
    none_at c.self.inside.blocks.items c.self.inside.order.items c.args.place c.index-id.result.now
    c.index_mut.result.now c.self.invariant within named c.index_mut.ensures.value c.args.v
    (ap (λ (o : Ordered). level_of o.scopes c.args.v) c.self.view_is ∙ c.requires.new)

pub returns-in_err-put-clause-err : goal.returns-in_err-put-clause-err
returns-in_err-put-clause-err c =
    let count : length c.args.self.now.scopes ≡ length c.self.inside.order.items = ap (λ (o : Ordered). length o.scopes)
    (sym c.self.view_is) ∙ length-map c.self.inside.order.items _ in
    let within : c.args.place < length c.self.inside.order.items = omega (arith, count, c.requires.place) in
    let named = get_or_read c.self.inside.order.items c.args.place c.index-id.result.now within c.index-id.ensures 0 in
    let err = err_from_is_err_and c.from_residual.result c.from_residual.ensures.1 in
    rw err.1 (ap (λ (ss : List Scope). record { scopes = ss; ids = c.self.inside.order.items })
    (same_scopes c.self.inside.blocks.items c.self.inside.order.items c.args.place c.index-id.result.now
    c.index_mut.result.now c.self.invariant within named c.index_mut.ensures.value _
    (ap (scope c.index_mut.result.now.quant) c.in_err-put.ensures.err))
    ∙ c.self.view_is)
  where
    scope : Quant → List ℕ → Scope
    scope q vs = record { quantifier = q; variables = vs }

pub returns-clause-scopes : goal.returns-clause-scopes
returns-clause-scopes c =
    let count : length c.args.self.now.scopes ≡ length c.self.inside.order.items = ap (λ (o : Ordered). length o.scopes)
    (sym c.self.view_is) ∙ length-map c.self.inside.order.items _ in
    let within : c.args.place < length c.self.inside.order.items = omega (arith, count, c.requires.place) in
    let named = get_or_read c.self.inside.order.items c.args.place c.index-id.result.now within c.index-id.ensures 0 in
    scopes_with c.self.inside.blocks.items c.self.inside.order.items c.args.place c.index-id.result.now
    c.index_mut.result.now c.self.invariant within named c.index_mut.ensures.value _ c.args.v refl
    c.in_ok-put.ensures.ok
    ∙ ap (λ (o : Ordered). with_variable_at o.scopes c.args.place c.args.v) c.self.view_is
