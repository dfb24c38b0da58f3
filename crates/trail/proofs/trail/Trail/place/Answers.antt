use Rattle.std.proofs.Common.{◌≡◌, ◌<◌, ◌+◌, suc, length, sym, subst, ap, ◌∙◌, arith}
use Rattle.std.specs.Prelude.{IfSome}
use Rattle.std.specs.Option.{option_map}
use Rattle.trail.specs.Spots.{place_of}
use Rattle.trail.specs.State.{TrailState}
use Rattle.trail.specs.Table.{spot_at, spot_on, trail_of}
use Rattle.trail.proofs.Placing.{place_within}
use Rattle.trail.proofs.trail.Trail.place.Goals as goal

pub returns-clause-within : goal.returns-clause-within
returns-clause-within c =
    let sum : c.index.result + 1 ≡ c.args.v = c.index.ensures.place in
    let index : suc c.index.result ≡ c.args.v = omega (arith, sum) in
    let at : spot_at c.self.inside.spots c.args.v ≡ spot_on (trail_of c.self.inside.entries.items) c.args.v =
    c.self.invariant.0.found c.args.v in
    let told : c.place.result ≡ option_map place_of (spot_on c.args.self.now.placed c.args.v) =
    c.place.ensures
    ∙ ap (option_map place_of) (ap (spot_at c.self.inside.spots) index ∙ at
    ∙ ap (λ (t : TrailState). spot_on t.placed c.args.v) c.self.view_is) in
    subst (λ r. IfSome r (λ n. n < length c.args.self.now.placed)) (sym told)
    (place_within c.args.self.now.placed c.args.v)
