use Rattle.std.proofs.Common.{◌≡◌, length, set, None, is_some, true, ap, sym, subst, ◌∙◌, arith}
use Rattle.rows.specs.Arena.{Arena, ChangesAt, is_live}
use Rattle.rows.specs.Places.{blocks_of, place_at}
use Rattle.rows.proofs.Arenas.{ChangesAt-set, arena_less, live_place}
use Rattle.rows.proofs.Blocking.{block_there, live_less}
use Rattle.rows.proofs.Parts.{some_is}
use Rattle.rows.proofs.Storing.{stored_less}
use Rattle.rows.proofs.rows.Rows.free.Goals as goal

pub overflow_sub-self : goal.overflow_sub-self
overflow_sub-self c =
    let places = c.self.inside.places in
    let here : is_some (place_at places c.args.id) ≡ true =
    sym (live_place c.self.inside.lits.items c.self.inside.blocks.items places c.args.id)
    ∙ ap (λ (a : Arena). is_live a c.args.id) c.self.view_is ∙ c.requires in
    let p = some_is (place_at places c.args.id) here in
    let less = live_less (blocks_of places) c.args.id p.0.block (block_there places c.args.id p.0 p.1) in
    let count = c.self.invariant.counted in
    omega arith

pub invariant_of-self : goal.invariant_of-self
invariant_of-self c = stored_less (length c.self.inside.lits.items) c.self.inside.places c.forget.new.places
    c.self.inside.blocks.items c.forget.new.blocks.items c.self.inside.live c.self.inside.blocks.room
    c.forget.new.blocks.room c.args.id c.self.invariant c.forget.ensures.same c.forget.ensures.loses
    c.forget.ensures.live c.forget.ensures.room

pub returns-clause-arena : goal.returns-clause-arena
returns-clause-arena c = arena_less c.self.inside.lits.items c.self.inside.blocks.items c.forget.new.blocks.items
    c.self.inside.places c.forget.new.places c.args.id c.forget.ensures.same c.forget.ensures.loses
    ∙ ap (λ (a : Arena). set a c.args.id None) c.self.view_is

pub returns-clause-rest : goal.returns-clause-rest
returns-clause-rest c =
    let P : Arena → Type 0 = λ a. ChangesAt c.args.self.now a c.args.id None in
    subst P (sym (returns-clause-arena c)) (ChangesAt-set c.args.self.now c.args.id None c.requires)
