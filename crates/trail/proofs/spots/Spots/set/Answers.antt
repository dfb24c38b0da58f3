use Rattle.std.proofs.Common.{◌≡◌, ◌<◌, ◌≤◌, Some, length, set, ap, arith, true, nat_lt}
use Rattle.std.proofs.lemmas.Bool.Decides.{nat_tests}
use Rattle.std.proofs.lemmas.List.{length-set}
use Rattle.trail.specs.Spots.{spots_of}
use Rattle.trail.proofs.Spotting.{placed_set, spots_length}
use Rattle.trail.proofs.spots.Spots.set.Goals as goal

pub invariant_of-self : goal.invariant_of-self
invariant_of-self c =
    let values = c.self.inside.values.items in
    let places = c.self.inside.places.items in
    let index = c.args.index in
    let spot = c.args.spot in
    let same = spots_length values places c.self.invariant.0 in
    let l : length (spots_of values places) ≡ length c.args.self.now = ap length c.self.view_is in
    let few : length values ≤ length places = c.self.invariant.0 in
    let small : length values ≤ 4294967295 = c.self.invariant.1 in
    let within : index < length c.args.self.now = c.requires.within in
    let place : spot.place < length c.args.self.now = c.requires.place in
    let one : length (set values index (Some spot.value)) ≡ length values = length-set values index (Some spot.value) in
    let two : length (set places index spot.place) ≡ length places = length-set places index spot.place in
    let low : spot.place < 4294967295 = omega (arith, same, l, small, place) in
    let told : true ≡ nat_lt spot.place 4294967295 = grind (arith, nat_tests, low) in (
      omega (arith, one, two, few),
      omega (arith, one, small),
      placed_set values places index (Some spot.value) spot.place told (omega (arith, same, l, within))
          (omega (arith, same, l, within, few)) c.self.invariant.2,
    )
