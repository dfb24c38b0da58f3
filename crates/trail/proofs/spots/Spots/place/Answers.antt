use Rattle.std.proofs.Common.{◌≡◌, ◌≤◌, None, Some, Option, length, get_or, ap, ◌∙◌, arith, List}
use Rattle.std.specs.Option.{option_map}
use Rattle.trail.specs.Spots.{place_of}
use Rattle.trail.specs.declared.entry.Spot.{Spot}
use Rattle.trail.proofs.Spotting.{by_any, missing_place, place_told, place_untold}
use Rattle.trail.proofs.spots.Spots.place.Goals as goal

pub returns-then-index-len : goal.returns-then-index-len
returns-then-index-len c =
    let e : c.len.result ≡ length c.self.inside.places.items = c.len.ensures ∙ c.self.inside.places.ok.0 in
    let high : length c.self.inside.places.items ≤ c.args.index = omega (arith, e, c.if-index-len.true) in
    place_untold c.self.inside.values.items c.self.inside.places.items c.args.index c.self.invariant.0
    c.self.invariant.2
    (missing_place c.self.inside.places.items c.args.index high)
    ∙ ap (λ (xs : List (Option Spot)). option_map place_of (get_or xs c.args.index None)) c.self.view_is

pub returns-then-place-lt-NOWHERE : goal.returns-then-place-lt-NOWHERE
returns-then-place-lt-NOWHERE c =
    let e : c.len.result ≡ length c.self.inside.places.items = c.len.ensures ∙ c.self.inside.places.ok.0 in
    let is : c.index-place.result.now ≡ get_or c.self.inside.places.items c.args.index 4294967295 =
    c.index-place.ensures
    ∙ by_any c.self.inside.places.items c.args.index c.index-place.result.now 4294967295
    (omega (arith, e, c.if-index-len.false)) in
    ap Some is
    ∙ (place_told c.self.inside.values.items c.self.inside.places.items c.args.index c.self.invariant.0
    c.self.invariant.2 (omega (arith, is, c.if-place-lt-NOWHERE.true))
    ∙ ap (λ (xs : List (Option Spot)). option_map place_of (get_or xs c.args.index None)) c.self.view_is)

pub returns : goal.returns
returns c =
    let e : c.len.result ≡ length c.self.inside.places.items = c.len.ensures ∙ c.self.inside.places.ok.0 in
    let is : c.index-place.result.now ≡ get_or c.self.inside.places.items c.args.index 4294967295 =
    c.index-place.ensures
    ∙ by_any c.self.inside.places.items c.args.index c.index-place.result.now 4294967295
    (omega (arith, e, c.if-index-len.false)) in
    place_untold c.self.inside.values.items c.self.inside.places.items c.args.index c.self.invariant.0
    c.self.invariant.2 (omega (arith, is, c.if-place-lt-NOWHERE.false))
    ∙ ap (λ (xs : List (Option Spot)). option_map place_of (get_or xs c.args.index None)) c.self.view_is
