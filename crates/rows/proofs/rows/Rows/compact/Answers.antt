use Rattle.std.proofs.Common.{List, Option, ap, ◌∙◌}
use Rattle.rows.specs.declared.places.Place.{Place}
use Rattle.rows.specs.Stored.{arena_of}
use Rattle.rows.proofs.Arenas.{parts_arena}
use Rattle.rows.proofs.rows.Rows.compact.Goals as goal

pub returns : goal.returns
returns c =
    ap (λ (ps : List (Option Place)). arena_of c.slide.new.lits.items c.self.inside.blocks.items ps) c.trim.ensures
    ∙ (parts_arena c.self.inside.lits.items c.slide.new.lits.items c.self.inside.blocks.items c.self.inside.places
    c.slide.new.places c.slide.ensures.kept ∙ c.self.view_is)
