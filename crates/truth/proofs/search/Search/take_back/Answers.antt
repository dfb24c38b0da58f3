use Rattle.std.proofs.Common.{◌≡◌, ◌<◌, length, get_or, Some, sym, ap, ◌∙◌, arith}
use Rattle.std.specs.Option.{option_map}
use Rattle.std.proofs.lemmas.List.{length-map, length_push}
use Rattle.prefix.specs.Scopes.{BoundVariable}
use Rattle.truth.specs.Order.{bound_of, bounds_of}
use Rattle.truth.proofs.OrderLemmas.{bound_at, slice_get_in}
use Rattle.truth.proofs.SearchLemmas.{search_taken_back, covers_at}
use Rattle.truth.proofs.search.Search.take_back.Goals as goal

pub index_mut-requires : goal.index_mut-requires
index_mut-requires c =
    let order = c.self.inside.order.items in
    let tried = c.pop.new.self.items in
    let table = c.self.inside.table in
    let x = c.index-bound.result.now in
    let pushed = ap length c.in_ok-value.ensures.items ∙ length_push tried c.in_ok-value.value in
    let within : length tried < length (bounds_of order) = omega (arith, pushed, c.self.invariant.depth) in
    let inside : length tried < length order = rw length-map at within in
    let at : c.len.result ≡ length tried = c.len.ensures ∙ c.pop.new.self.ok.0 in
    let number : c.number.result ≡ (get_or (bounds_of order) (length tried) (bound_of x)).variable =
    c.number.ensures.value ∙ ap (λ (b : BoundVariable). b.variable)
    (sym (bound_at order (length tried) x inside (rw at at c.index-bound.ensures))) in
    rw (number, table.ok.0) (covers_at (λ (b : BoundVariable). b.variable < length table.items) (bounds_of order)
    (length tried) (bound_of x) within c.self.invariant.covers)

pub returns-clause-quantifier : goal.returns-clause-quantifier
returns-clause-quantifier c =
    let order = c.self.inside.order.items in
    let tried = c.pop.new.self.items in
    let x = c.index-bound.result.now in
    let pushed = ap length c.in_ok-value.ensures.items ∙ length_push tried c.in_ok-value.value in
    let within : length tried < length (bounds_of order) = omega (arith, pushed, c.self.invariant.depth) in
    let inside : length tried < length order = rw length-map at within in
    let at : c.len.result ≡ length tried = c.len.ensures ∙ c.pop.new.self.ok.0 in
    ap (option_map (λ (b : BoundVariable). b.quantifier))
    (slice_get_in (bounds_of order) (length tried) (bound_of x) within
    ∙ ap Some (bound_at order (length tried) x inside (rw at at c.index-bound.ensures)))

pub invariant_of-self-2 : goal.invariant_of-self-2
invariant_of-self-2 c =
    let order = c.self.inside.order.items in
    let tried = c.pop.new.self.items in
    let x = c.index-bound.result.now in
    let pushed = ap length c.in_ok-value.ensures.items ∙ length_push tried c.in_ok-value.value in
    let within : length tried < length (bounds_of order) = omega (arith, pushed, c.self.invariant.depth) in
    let inside : length tried < length order = rw length-map at within in
    let at : c.len.result ≡ length tried = c.len.ensures ∙ c.pop.new.self.ok.0 in
    let number : c.number.result ≡ (get_or (bounds_of order) (length tried) (bound_of x)).variable =
    c.number.ensures.value ∙ ap (λ (b : BoundVariable). b.variable)
    (sym (bound_at order (length tried) x inside (rw at at c.index-bound.ensures))) in
    rw number (search_taken_back _ _ _ (bound_of x) within c.in_ok-value.value
    (rw c.in_ok-value.ensures.items at c.self.invariant))
