use Rattle.std.proofs.Common.{◌≡◌, ◌∙◌, ap}
use Rattle.trail.specs.Open.{AreAssignedBefore}
use Rattle.trail.specs.State.{TrailState}
use Rattle.trail.specs.Table.{floor_from, trail_of}
use Rattle.trail.proofs.Counting.{kept_inside}
use Rattle.trail.proofs.Opening.{floor_earlier, floor_positive}
use Rattle.trail.proofs.trail.Trail.floor.Goals as goal

is : (c : goal.After-last_floor) → c.last_floor.result ≡ floor_from 1 c.self.inside.entries.items
is c = c.last_floor.ensures ∙ ap (floor_from 1) c.deref.ensures.value

pub returns-clause-positive : goal.returns-clause-positive
returns-clause-positive c = rw (is c) (floor_positive c.self.inside.entries.items)

pub returns-clause-earlier : goal.returns-clause-earlier
returns-clause-earlier c =
    λ scopes kept.
    let items = c.self.inside.entries.items in
    let same : trail_of items ≡ c.args.self.now.placed = ap (λ (t : TrailState). t.placed) c.self.view_is in
    let inside = kept_inside scopes items c.args.self.now same (ap (λ (t : TrailState). t.depths) c.self.view_is)
    kept in
    let earlier : AreAssignedBefore scopes c.args.self.now.placed (floor_from 1 items) =
    rw (← same) (floor_earlier scopes items inside.0 inside.1) in
    rw (is c) earlier
