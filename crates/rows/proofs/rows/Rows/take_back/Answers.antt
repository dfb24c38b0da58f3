use Rattle.std.proofs.Common.{List, take, length, Option, sym, ap, subst, ◌∙◌}
use Rattle.rows.specs.Arena.{Arena, is_live}
use Rattle.rows.specs.Stored.{AreStored, arena_of}
use Rattle.rows.specs.declared.places.Place.{Place}
use Rattle.rows.proofs.Shortening.{NoneFrom, arena_front, none_placed, stored_front}
use Rattle.rows.proofs.rows.Rows.take_back.Goals as goal

none : (c : goal.After-truncate) → NoneFrom c.self.inside.places c.args.first
none c =
    none_placed c.self.inside.lits.items c.self.inside.blocks.items c.self.inside.places c.args.first
    (λ i h. ap (λ (a : Arena). is_live a i) c.self.view_is ∙ c.requires i h)

pub invariant_of-self : goal.invariant_of-self
invariant_of-self c =
    subst (λ (places : List (Option Place)). AreStored
    (length c.self.inside.lits.items) places c.self.inside.blocks.items c.self.inside.live
    c.self.inside.blocks.room) (sym c.truncate.ensures)
    (stored_front c.self.inside.places c.args.first (none c)
    (length c.self.inside.lits.items) c.self.inside.blocks.items c.self.inside.live
    c.self.inside.blocks.room c.self.invariant)

pub returns : goal.returns
returns c =
    ap (arena_of c.self.inside.lits.items c.self.inside.blocks.items) c.truncate.ensures
    ∙ (arena_front c.self.inside.lits.items c.self.inside.blocks.items c.self.inside.places c.args.first
    ∙ ap (λ (a : Arena). take c.args.first a) c.self.view_is)
