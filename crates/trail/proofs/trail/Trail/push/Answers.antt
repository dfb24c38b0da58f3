use Rattle.std.proofs.Common.{false, ◌≡◌, suc, ◌+◌, ◌<◌, ◌≤◌, ◌++◌, ◌∷◌, [], length, set, get_or, Some, None, vec_capacity, is_ok, refl, sym, ap, ◌∙◌, arith}
use Rattle.std.proofs.lemmas.Bool.{cond-true}
use Rattle.std.proofs.lemmas.List.{length-map, length-set, map-append}
use Rattle.calculus.specs.Search.{last_level, level_after, value_on}
use Rattle.trail.specs.declared.entry.Entry.{Entry}
use Rattle.trail.specs.declared.entry.Spot.{Spot}
use Rattle.trail.specs.declared.allowed.Allowed.TheVariants.{Anything}
use Rattle.trail.specs.State.{TrailState}
use Rattle.trail.specs.Table.{HavePlaces, IsTable, IsTallied, depths_of, marks_of, floor_after, floor_from, placed_of, trail_of, spot_at}
use Rattle.trail.proofs.Placing.{spot_none}
use Rattle.trail.proofs.Tables.{level_few, room_left, spots_left, table_pushed}
use Rattle.trail.proofs.Tallies.{count_few, places_same, tallied_more}
use Rattle.trail.proofs.trail.Trail.push.Goals as goal

pub level_after-requires : goal.level_after-requires
level_after-requires c =
    let items = c.self.inside.entries.items in
    let few : last_level (trail_of items) ≤ 0 + length (trail_of items) = level_few 0 (trail_of items) in
    let is : c.level.result ≡ last_level (trail_of items) = c.level.ensures
    ∙ ap (λ (t : TrailState). last_level t.placed) (sym c.self.view_is) in
    let long : length (trail_of items) ≡ length items = length-map items placed_of in
    let fits = c.self.inside.entries.ok in
    let small = c.self.inside.entries.small in
    omega arith

pub last_floor-requires : goal.last_floor-requires
last_floor-requires c = rw c.deref.ensures.value c.self.invariant.1.floored

pub set-requires-clause-place : goal.set-requires-clause-place
set-requires-clause-place c =
    let items = c.self.inside.entries.items in
    let spots = c.self.inside.spots in
    let next : c.args.lit.variable ≡ suc c.index.result =
    sym c.var.ensures ∙ (let place = c.index.ensures.place in omega arith) in
    let room : c.args.lit.variable ≤ length spots = rw (← c.self.view_is) at c.requires.room in
    let within : c.index.result < length spots = omega arith in
    let fresh : value_on (trail_of items) c.args.lit.variable ≡ None =
    ap (λ (t : TrailState). value_on t.placed c.args.lit.variable) c.self.view_is ∙ c.requires.unassigned in
    let free : spot_at spots (suc c.index.result) ≡ None =
    ap (spot_at spots) (sym next)
    ∙ (c.self.invariant.0.found c.args.lit.variable ∙ spot_none (trail_of items) c.args.lit.variable fresh) in
    let left =
    spots_left items spots (vec_capacity c.self.inside.entries) c.index.result c.self.invariant.0 within free in
    let place : c.len-place.result ≡ length items = c.len-place.ensures ∙ c.self.inside.entries.ok.0 in
    omega arith

pub count_up-requires : goal.count_up-requires
count_up-requires c =
    let items = c.self.inside.entries.items in
    let spots = c.self.inside.spots in
    let next : c.args.lit.variable ≡ suc c.index.result =
    sym c.var.ensures ∙ (let place = c.index.ensures.place in omega arith) in
    let room : c.args.lit.variable ≤ length spots = rw (← c.self.view_is) at c.requires.room in
    let within : c.index.result < length spots = omega arith in
    let fresh : value_on (trail_of items) c.args.lit.variable ≡ None =
    ap (λ (t : TrailState). value_on t.placed c.args.lit.variable) c.self.view_is ∙ c.requires.unassigned in
    let free : spot_at spots (suc c.index.result) ≡ None =
    ap (spot_at spots) (sym next)
    ∙ (c.self.invariant.0.found c.args.lit.variable ∙ spot_none (trail_of items) c.args.lit.variable fresh) in
    let left =
    spots_left items spots (vec_capacity c.self.inside.entries) c.index.result c.self.invariant.0 within free in
    let few = count_few items c.self.inside.tallies.items c.args.scope c.self.invariant.1.tallied in
    let small = c.set.ensures.small in
    omega arith

abbrev entry : (c : goal.After-self-2-1) → Entry
entry c = record {
  lit = c.args.lit;
  why = c.args.why;
  level = c.level_after.result;
  scope = c.args.scope;
  floor = c.floor_after.result;
  clean = false;
}

abbrev spot : (c : goal.After-self-2-1) → Spot
spot c = record { value = c.is_positive.result; place = c.len-place.result }

next : (c : goal.After-self-2-1) → c.args.lit.variable ≡ suc c.index.result
next c = sym c.var.ensures ∙ (let place = c.index.ensures.place in omega arith)

within : (c : goal.After-self-2-1) → c.index.result < length c.self.inside.spots
within c =
    let room : c.args.lit.variable ≤ length c.self.inside.spots = rw (← c.self.view_is) at c.requires.room in
    let is = next c in
    omega arith

fresh : (c : goal.After-self-2-1) → value_on (trail_of c.self.inside.entries.items) c.args.lit.variable ≡ None
fresh c = ap (λ (t : TrailState). value_on t.placed c.args.lit.variable) c.self.view_is ∙ c.requires.unassigned

grown : (c : goal.After-self-2-1) → c.push.new.self.items ≡ c.self.inside.entries.items ++ entry c ∷ []
grown c =
    let items = c.self.inside.entries.items in
    let spots = c.self.inside.spots in
    let free : spot_at spots (suc c.index.result) ≡ None =
    ap (spot_at spots) (sym (next c))
    ∙ (c.self.invariant.0.found c.args.lit.variable ∙ spot_none (trail_of items) c.args.lit.variable (fresh c)) in
    let left : length items < vec_capacity c.self.inside.entries =
    room_left items spots (vec_capacity c.self.inside.entries) c.index.result c.self.invariant.0 (within c) free in
    c.push.ensures.items
    ∙ cond-true (is_ok c.push.result) (items ++ entry c ∷ []) items
    (c.push.ensures.succeeds (rw c.self.inside.entries.ok.0 left))

table : (c : goal.After-self-2-1) → IsTable c.push.new.self.items
    (set c.self.inside.spots c.index.result (Some (spot c))) (vec_capacity c.push.new.self)
table c =
    let items = c.self.inside.entries.items in
    let level : c.level_after.result ≡ level_after (last_level (trail_of items)) (placed_of (entry c)) =
    c.level_after.ensures
    ∙ ap (λ n. level_after n (placed_of (entry c)))
    (c.level.ensures ∙ ap (λ (t : TrailState). last_level t.placed) (sym c.self.view_is)) in
    let place : c.len-place.result ≡ length items = c.len-place.ensures ∙ c.self.inside.entries.ok.0 in
    let is : spot c ≡ record { value = c.args.lit.positive; place = length items } =
    λ i. record { value = c.is_positive.ensures i; place = place i } in
    table_pushed c.push.new.self.items items (entry c) c.self.inside.spots (vec_capacity c.self.inside.entries)
    (vec_capacity c.push.new.self) c.index.result (spot c) (grown c) c.self.invariant.0 c.push.ensures.capacity
    (next c) (within c) (fresh c) level is

tallied : (c : goal.After-self-2-1) → IsTallied c.push.new.self.items
    (set c.self.inside.tallies.items c.args.scope (get_or c.self.inside.tallies.items c.args.scope 0 + 1))
tallied c =
    let items = c.self.inside.entries.items in
    let floor : c.floor_after.result ≡ floor_after (floor_from 1 items) (entry c) =
    c.floor_after.ensures
    ∙ ap (λ n. floor_after n (entry c)) (c.last_floor.ensures ∙ ap (floor_from 1) c.deref.ensures.value) in
    tallied_more c.push.new.self.items items (entry c) c.self.inside.tallies.items (grown c) c.self.invariant.1 floor

places : (c : goal.After-self-2-1) → HavePlaces (length (set c.self.inside.spots c.index.result (Some (spot c))))
    (set c.self.inside.tallies.items c.args.scope (get_or c.self.inside.tallies.items c.args.scope 0 + 1))
    c.self.inside.finished
places c =
    let count = get_or c.self.inside.tallies.items c.args.scope 0 + 1 in
    places_same (length c.self.inside.spots) (length (set c.self.inside.spots c.index.result (Some (spot c))))
    c.self.inside.tallies.items (set c.self.inside.tallies.items c.args.scope count) c.self.inside.finished
    c.self.inside.finished (length-set c.self.inside.spots c.index.result (Some (spot c)))
    (length-set c.self.inside.tallies.items c.args.scope count) refl c.self.invariant.2

pub invariant_of-self : goal.invariant_of-self
invariant_of-self c =
    let b = c in (
      rw c.set.ensures.value (table b),
      rw c.count_up.ensures (tallied b),
      rw (c.set.ensures.value, c.count_up.ensures) (places b),
    )

pub returns : goal.returns
returns c =
    let b = c in
    let items = c.self.inside.entries.items in
    let placed : trail_of c.push.new.self.items ≡ trail_of items ++ placed_of (entry b) ∷ [] =
    ap trail_of (grown b) ∙ map-append placed_of items (entry b ∷ []) in
    let depths : depths_of c.push.new.self.items ≡ depths_of items ++ (c.args.scope + 1) ∷ [] =
    ap depths_of (grown b) ∙ map-append (λ (e : Entry). e.scope + 1) items (entry b ∷ []) in
    let marks : marks_of c.push.new.self.items ≡ marks_of items ++ false ∷ [] =
    ap marks_of (grown b) ∙ map-append (λ (e : Entry). e.clean) items (entry b ∷ []) in
    let room : length c.set.new.self ≡ length c.self.inside.spots =
    ap length c.set.ensures.value ∙ length-set c.self.inside.spots c.index.result (Some (spot b)) in
    rw (← c.self.view_is) (λ i. record {
      placed = placed i;
      depths = depths i;
      marks = marks i;
      finished = c.self.inside.finished;
      assigned = c.saturating_add-self-inside.ensures i;
      restarts = c.self.inside.restarts;
      room = room i;
      allowed = Anything;
    })
