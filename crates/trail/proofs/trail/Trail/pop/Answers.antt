use Rattle.std.proofs.Common.{◌≡◌, suc, ◌-◌, length, set, get_or, false, None, vec_capacity, sym, ◌∙◌, arith}
use Rattle.std.proofs.lemmas.List.{length-set}
use Rattle.trail.proofs.Tables.{table_popped}
use Rattle.trail.proofs.Tallies.{places_same, tallied_less}
use Rattle.trail.proofs.trail.Trail.pop.Goals as goal

pub clear-requires : goal.clear-requires
clear-requires c =
    let next : c.in-Some.entry.lit.variable ≡ suc c.index.result =
    sym c.var.ensures ∙ (let place = c.index.ensures.place in omega arith) in
    (table_popped c.self.inside.entries.items c.pop.new.self.items c.in-Some.entry c.self.inside.spots
    (vec_capacity c.self.inside.entries) (vec_capacity c.pop.new.self) c.index.result c.in-Some.ensures.items
    c.pop.ensures.capacity c.self.invariant.0 next).0

pub count_down-requires : goal.count_down-requires
count_down-requires c =
    (tallied_less c.self.inside.entries.items c.pop.new.self.items c.in-Some.entry c.self.inside.tallies.items
    c.in-Some.ensures.items c.self.invariant.1).0

pub invariant_of-self : goal.invariant_of-self
invariant_of-self c =
    let next : c.in-Some.entry.lit.variable ≡ suc c.index.result =
    sym c.var.ensures ∙ (let place = c.index.ensures.place in omega arith) in
    let table = (table_popped c.self.inside.entries.items c.pop.new.self.items c.in-Some.entry c.self.inside.spots
    (vec_capacity c.self.inside.entries) (vec_capacity c.pop.new.self) c.index.result c.in-Some.ensures.items
    c.pop.ensures.capacity c.self.invariant.0 next).1 in
    let tallied = (tallied_less c.self.inside.entries.items c.pop.new.self.items c.in-Some.entry
    c.self.inside.tallies.items c.in-Some.ensures.items c.self.invariant.1).1 in
    let tallies = set c.self.inside.tallies.items c.in-Some.entry.scope
    (get_or c.self.inside.tallies.items c.in-Some.entry.scope 0 - 1) in
    let places = places_same (length c.self.inside.spots) (length (set c.self.inside.spots c.index.result None))
    c.self.inside.tallies.items tallies c.self.inside.finished (set c.self.inside.finished c.in-Some.entry.scope false)
    (length-set c.self.inside.spots c.index.result None)
    (length-set c.self.inside.tallies.items c.in-Some.entry.scope
    (get_or c.self.inside.tallies.items c.in-Some.entry.scope 0 - 1))
    (length-set c.self.inside.finished c.in-Some.entry.scope false) c.self.invariant.2 in (
      rw c.clear.ensures table,
      rw c.count_down.ensures tallied,
      rw (c.clear.ensures, c.count_down.ensures, c.take_out.ensures) places,
    )
