use Rattle.std.proofs.Common.{◌≡◌, ◌<◌, length, get_or, sym, ap, ◌∙◌}
use Rattle.std.proofs.lemmas.List.{length-map}
use Rattle.prefix.specs.Scopes.{BoundVariable}
use Rattle.truth.specs.Order.{bound_of, bounds_of}
use Rattle.truth.proofs.OrderLemmas.{bound_at}
use Rattle.truth.proofs.SearchLemmas.{search_chosen, covers_at}
use Rattle.truth.proofs.search.Search.choose.Goals as goal

pub index_mut-requires : goal.index_mut-requires
index_mut-requires c =
    let order = c.self.inside.order.items in
    let tried = c.self.inside.tried.items in
    let table = c.self.inside.table in
    let x = c.index.result.now in
    let within : length tried < length (bounds_of order) = rw (← c.self.view_is) at c.requires in
    let inside : length tried < length order = rw length-map at within in
    let at : c.len.result ≡ length tried = c.len.ensures ∙ c.self.inside.tried.ok.0 in
    let number : c.number-number.result ≡ (get_or (bounds_of order) (length tried) (bound_of x)).variable =
    c.number-number.ensures.value ∙ ap (λ (b : BoundVariable). b.variable)
    (sym (bound_at order (length tried) x inside (rw at at c.index.ensures))) in
    rw (number, table.ok.0) (covers_at (λ (b : BoundVariable). b.variable < length table.items) (bounds_of order)
    (length tried) (bound_of x) within c.self.invariant.covers)

pub invariant_of-self-2 : goal.invariant_of-self-2
invariant_of-self-2 c =
    let order = c.self.inside.order.items in
    let tried = c.self.inside.tried.items in
    let x = c.index.result.now in
    let within : length tried < length (bounds_of order) = rw (← c.self.view_is) at c.requires in
    let inside : length tried < length order = rw length-map at within in
    let at : c.len.result ≡ length tried = c.len.ensures ∙ c.self.inside.tried.ok.0 in
    let number : c.number-number.result ≡ (get_or (bounds_of order) (length tried) (bound_of x)).variable =
    c.number-number.ensures.value ∙ ap (λ (b : BoundVariable). b.variable)
    (sym (bound_at order (length tried) x inside (rw at at c.index.ensures))) in
    rw (c.in_ok-push.ensures.items, number) (search_chosen _ _ _ (bound_of x) within c.self.invariant c.args.value)
