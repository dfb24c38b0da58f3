use Rattle.std.specs.Option.{option_map}
use Rattle.std.specs.Prelude.{vec_capacity}
use Rattle.std.proofs.Common.{List, Option, None, length, set, ap, ◌∙◌}
use Rattle.std.proofs.lemmas.List.{map-set}
use Rattle.rows.specs.declared.places.Place.{Place}
use Rattle.rows.specs.Spots.{all_standing, standing}
use Rattle.rows.proofs.Standing.{kept_less}
use Rattle.rows.proofs.spots.Places.clear.Goals as goal

pub invariant_of-self : goal.invariant_of-self
invariant_of-self c = kept_less c.self.inside.slots (length c.self.inside.spots.items)
    (vec_capacity c.self.inside.spots) c.self.invariant c.clear.new.self c.args.id c.clear.ensures

pub returns : goal.returns
returns c =
    let spots = c.self.inside.spots.items in
    ap (all_standing spots) c.clear.ensures
    ∙ (map-set (option_map (standing spots)) c.self.inside.slots c.args.id None
    ∙ ap (λ (ps : List (Option Place)). set ps c.args.id None) c.self.view_is)
