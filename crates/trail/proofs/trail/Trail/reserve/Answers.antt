use Rattle.std.proofs.Common.{◌≡◌, ◌-◌, ap, ◌∙◌, length, vec_capacity, arith}
use Rattle.std.proofs.lemmas.List.{length-map}
use Rattle.trail.specs.Finished.{is_in}
use Rattle.trail.specs.State.{TrailState}
use Rattle.trail.specs.Table.{depths_of, marks_of, placed_of, trail_of}
use Rattle.trail.proofs.Blocks.{wider_in}
use Rattle.trail.proofs.Keeping.{kept_wider}
use Rattle.trail.proofs.Tables.{table_room}
use Rattle.trail.proofs.trail.Trail.reserve.Goals as goal

pub returns-in_default-clause-kept : goal.returns-in_default-clause-kept
returns-in_default-clause-kept c =
    let t = c.args.self.now in
    let is = c.self.view_is in
    let old = c.self.inside.finished in
    λ scopes kept. kept_wider scopes t (trail_of c.reserve.new.self.items) (depths_of c.reserve.new.self.items)
    (marks_of c.reserve.new.self.items) c.widen-then-room-vars-2.new.self c.self.inside.assigned c.self.inside.restarts
    (length c.widen-then-room-vars.new.self) c.self.inside.allowed
    (ap trail_of c.reserve.ensures.items ∙ ap (λ (s : TrailState). s.placed) is)
    (ap depths_of c.reserve.ensures.items ∙ ap (λ (s : TrailState). s.depths) is)
    (ap marks_of c.reserve.ensures.items ∙ ap (λ (s : TrailState). s.marks) is)
    (λ i. ap (λ fs. is_in fs i) c.in_default.ensures.ok
    ∙ (wider_in old (c.args.vars - length old) i ∙ ap (λ (s : TrailState). is_in s.finished i) is))
    (ap (λ (s : TrailState). s.assigned) is)
    (ap (λ (s : TrailState). s.restarts) is)
    (ap (λ (s : TrailState). s.allowed) is)
    kept

pub widen-requires-clause-few : goal.widen-requires-clause-few
widen-requires-clause-few c =
    let items = c.self.inside.entries.items in
    let room = (table_room items c.self.inside.spots (vec_capacity c.self.inside.entries) c.self.invariant.0).0 in
    let long = length-map items placed_of in
    let same : length c.deref.result.now ≡ length items = ap length (c.deref.ensures.value ∙ c.reserve.ensures.items) in
    let small = c.len-room.ensures.small in
    let value = c.len-room.ensures.value in
    omega arith
