use Rattle.std.proofs.Common.{◌<◌, Some, length, sym, ap, ◌∙◌, arith}
use Rattle.std.proofs.lemmas.List.{get_or_default}
use Rattle.rows.specs.declared.slots.Spot.{Spot}
use Rattle.rows.specs.Spots.{no_spot, spotted}
use Rattle.rows.proofs.Blocking.{block_there}
use Rattle.rows.proofs.Standing.{spotted_at}
use Rattle.rows.proofs.spots.Places.place_of.Goals as goal

pub index-requires : goal.index-requires
index-requires c =
    let h : c.in-Some.block < length c.self.inside.spots.items =
    c.self.invariant.given c.args.id c.in-Some.block
    (block_there c.self.inside.slots c.args.id c.place_of-place.result c.place_of-place.ensures.value
    ∙ ap Some c.in-Some.is) in
    let bridge = c.self.inside.spots.ok.0 in
    omega arith

pub returns-in-Some-clause-value : goal.returns-in-Some-clause-value
returns-in-Some-clause-value c =
    let spots = c.self.inside.spots.items in
    let b = c.in-Some.block in
    let h : b < length spots =
    c.self.invariant.given c.args.id b
    (block_there c.self.inside.slots c.args.id c.place_of-place.result c.place_of-place.ensures.value
    ∙ ap Some c.in-Some.is) in
    spotted_at spots c.self.inside.slots c.args.self.now c.args.id b c.place_of-place.result c.self.view_is
    c.place_of-place.ensures.value c.in-Some.is
    ∙ sym (ap Some (c.stand.ensures.value
    ∙ ap (λ (s : Spot). spotted s b) (c.index.ensures ∙ get_or_default spots b c.index.result.now no_spot h)))
