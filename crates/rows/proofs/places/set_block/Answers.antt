use Rattle.std.proofs.Common.{◌≡◌, List, Option, Some, set, ap, ◌∙◌}
use Rattle.std.specs.Option.{option_map}
use Rattle.std.proofs.lemmas.List.{map-set}
use Rattle.rows.specs.declared.places.Place.{Place}
use Rattle.rows.specs.Places.{blocks_of, place_at, with_block}
use Rattle.rows.proofs.Parts.{some_is}
use Rattle.rows.proofs.places.set_block.Goals as goal

pub returns-clause-blocks : goal.returns-clause-blocks
returns-clause-blocks c =
    let places = c.args.places.now in
    let p = some_is (place_at places c.args.id) c.requires.live in
    let is : c.set_block.new.self ≡ set places c.args.id (Some (with_block (Some c.args.block) p.0)) =
    c.set_block.ensures
    ∙ ap (λ (o : Option Place). set places c.args.id (option_map (with_block (Some c.args.block)) o)) p.1 in
    ap (λ (ps : List (Option Place)). blocks_of ps) is
    ∙ map-set (option_map (λ (q : Place). q.block)) places c.args.id (Some (with_block (Some c.args.block) p.0))
