use Rattle.std.proofs.Common.{◌≡◌, ◌<◌, length, ap, refl, sym, subst, arith, ◌∙◌}
use Rattle.std.proofs.lemmas.List.{get_or_read, length-map}
use Rattle.std.specs.List.{AllByRecursion}
use Rattle.prefix.specs.Scopes.{IsAscending}
use Rattle.prefix.specs.Blocks.{Ordered}
use Rattle.prefix.proofs.BlockLemmas.{ascending_at, scopes_taken}
use Rattle.prefix.proofs.blocks.Blocks.take_out.Goals as goal

pub remove-requires : goal.remove-requires
remove-requires c =
    let count : length c.args.self.now.scopes ≡ length c.self.inside.order.items =
    ap (λ (o : Ordered). length o.scopes) (sym c.self.view_is) ∙ length-map c.self.inside.order.items _ in
    let within : c.args.place < length c.self.inside.order.items = omega (arith, count, c.requires.place) in
    let named =
    get_or_read c.self.inside.order.items c.args.place c.index-id.result.now within c.index-id.ensures 0 in
    ascending_at c.self.inside.blocks.items c.self.inside.order.items c.args.place c.index-id.result.now
    c.index_mut.result.now c.self.invariant within named c.index_mut.ensures.value
    (subst (λ (o : Ordered). AllByRecursion (λ s. IsAscending s.variables) o.scopes) (sym c.self.view_is)
    c.requires.ascending)

pub returns-clause-scopes : goal.returns-clause-scopes
returns-clause-scopes c =
    let count : length c.args.self.now.scopes ≡ length c.self.inside.order.items = ap (λ (o : Ordered). length o.scopes)
    (sym c.self.view_is) ∙ length-map c.self.inside.order.items _ in
    let within : c.args.place < length c.self.inside.order.items = omega (arith, count, c.requires.place) in
    let named = get_or_read c.self.inside.order.items c.args.place c.index-id.result.now within c.index-id.ensures 0 in
    rw (← c.self.view_is) (scopes_taken c.self.inside.blocks.items c.self.inside.order.items c.args.place
    c.index-id.result.now c.index_mut.result.now c.self.invariant within named c.index_mut.ensures.value _ c.args.v
    refl c.remove.ensures)
