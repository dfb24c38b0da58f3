use Rattle.std.proofs.Common.{◌≡◌, ◌-◌, ◌≤◌, ◌++◌, ◌+◌, Bool, List, None, Option, length, replicate, take, ap, ap₂, sym, subst, ◌∙◌, arith}
use Rattle.std.proofs.lemmas.List.{length-append, length-replicate, take_all}
use Rattle.trail.specs.Spots.{ArePlaced, spots_of}
use Rattle.trail.specs.declared.entry.Spot.{Spot}
use Rattle.trail.proofs.Spotting.{placed_wider, spots_length, spots_more}
use Rattle.trail.proofs.spots.Spots.widen.Goals as goal

pub returns-clause-ok : goal.returns-clause-ok
returns-clause-ok c =
    let values = c.self.inside.values.items in
    let places = c.self.inside.places.items in
    let count = c.args.count in
    let same = spots_length values places c.self.invariant.0 in
    let few : length values ≤ count =
    let h : length c.args.self.now ≤ count = c.requires in
    let l : length (spots_of values places) ≡ length c.args.self.now = ap length c.self.view_is in
    omega (arith, h, l, same) in
    let kept : take count values ≡ values = take_all count values few in
    let filled : c.resize.new.self.items ≡ values ++ replicate (count - length values) None =
    c.in_ok-resize.ensures.items
    ∙ ap₂ (λ (xs : List (Option Bool)) n. xs ++ replicate (count - n) None) kept c.self.inside.values.ok.0 in
    ap (λ (vs : List (Option Bool)). spots_of vs c.widen_places.new.places.items) filled
    ∙ spots_more values places c.widen_places.new.places.items count c.self.invariant.0 c.widen_places.ensures.front few
    c.in_ok-widen_places.ensures.long
    ∙ ap (λ (s : List (Option Spot)). s ++ replicate (count - length s) None) c.self.view_is

pub invariant_of-self-2 : goal.invariant_of-self-2
invariant_of-self-2 c =
    let values = c.self.inside.values.items in
    let places = c.self.inside.places.items in
    let count = c.args.count in
    let same = spots_length values places c.self.invariant.0 in
    let few : length values ≤ count =
    let h : length c.args.self.now ≤ count = c.requires in
    let l : length (spots_of values places) ≡ length c.args.self.now = ap length c.self.view_is in
    omega (arith, h, l, same) in
    let more = count - length values in
    let filled : c.resize.new.self.items ≡ values ++ replicate more None =
    c.in_ok-resize.ensures.items
    ∙ ap₂ (λ (xs : List (Option Bool)) n. xs ++ replicate (count - n) None) (take_all count values few)
    c.self.inside.values.ok.0 in
    let l : length c.resize.new.self.items ≡ length values + length (replicate {A = Option Bool} more None) =
    ap length filled ∙ length-append values (replicate more None) in
    let r : length (replicate {A = Option Bool} more None) ≡ more = length-replicate more None in
    let long : count ≤ length c.widen_places.new.places.items = c.in_ok-widen_places.ensures.long in
    let small : count ≤ 4294967295 = omega (arith, c.if-count.false) in (
      omega (arith, l, r, few, long),
      omega (arith, l, r, few, small),
      subst (λ (vs : List (Option Bool)). ArePlaced vs c.widen_places.new.places.items) (sym filled)
          (placed_wider values places c.widen_places.new.places.items more c.widen_places.ensures.same c.self.invariant.2),
    )
