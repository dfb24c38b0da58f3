use Rattle.std.specs.Option.{option_map}
use Rattle.std.specs.Prelude.{vec_capacity}
use Rattle.std.proofs.Common.{List, Option, length, take, sym, ap, ◌∙◌}
use Rattle.std.proofs.lemmas.List.{take-map}
use Rattle.rows.specs.declared.places.Place.{Place}
use Rattle.rows.specs.Spots.{all_standing, standing}
use Rattle.rows.proofs.Standing.{kept_front}
use Rattle.rows.proofs.spots.Places.truncate.Goals as goal

pub invariant_of-self : goal.invariant_of-self
invariant_of-self c = kept_front c.self.inside.slots (length c.self.inside.spots.items)
    (vec_capacity c.self.inside.spots) c.self.invariant c.truncate.new.self c.args.count c.truncate.ensures

pub returns : goal.returns
returns c =
    let spots = c.self.inside.spots.items in
    ap (all_standing spots) c.truncate.ensures
    ∙ (sym (take-map (option_map (standing spots)) c.args.count c.self.inside.slots)
    ∙ ap (λ (ps : List (Option Place)). take c.args.count ps) c.self.view_is)
