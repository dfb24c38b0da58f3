use Rattle.std.proofs.Common.{◌≡◌, ◌∙◌, sym, ap, true, is_some, get_or}
use Rattle.calculus.specs.Search.{place_on, value_on, decision_level_on, Trail}
use Rattle.trail.specs.State.{TrailState}
use Rattle.trail.specs.declared.entry.Entry.{Entry}
use Rattle.trail.specs.Table.{trail_of}
use Rattle.trail.proofs.Tables.{entry_at, place_within, map_some, some_map}
use Rattle.trail.proofs.trail.Trail.level_of.Goals as goal

same : (c : goal.In_ok-place) → trail_of c.self.inside.entries.items ≡ c.args.self.now.placed
same c = ap (λ (t : TrailState). t.placed) c.self.view_is

known : (c : goal.In_ok-place) → is_some (value_on (trail_of c.self.inside.entries.items) c.args.v) ≡ true
known c = ap (λ (t : Trail). is_some (value_on t c.args.v)) (same c)
    ∙ (map_some (value_on c.args.self.now.placed c.args.v) c.in_ok-place.field-0
    (place_on c.args.self.now.placed c.args.v) c.in_ok-place.ensures.value).1

place : (c : goal.In_ok-place) → c.in_ok-place.field-0 ≡ place_on (trail_of c.self.inside.entries.items) c.args.v
place c = (map_some (value_on c.args.self.now.placed c.args.v) c.in_ok-place.field-0
    (place_on c.args.self.now.placed c.args.v) c.in_ok-place.ensures.value).0 ∙ ap (λ (t : Trail). place_on t c.args.v)
    (sym (same c))

pub index-requires : goal.index-requires
index-requires c = rw (c.self.inside.entries.ok.0, place c)
    (place_within c.self.inside.entries.items c.args.v (known c))

pub returns : goal.returns
returns c =
    let items = c.self.inside.entries.items in
    let d = c.index.result.now in
    let entry = entry_at 0 items c.args.v d c.self.invariant.0.leveled (known c.before) in
    let read : d ≡ get_or items (place_on (trail_of items) c.args.v) d = c.index.ensures ∙ ap (λ n. get_or items n d)
    (place c.before) in
    some_map (value_on c.args.self.now.placed c.args.v) d.level (decision_level_on c.args.self.now.placed c.args.v)
    (ap (λ (t : Trail). is_some (value_on t c.args.v)) (sym (same c.before)) ∙ known c.before)
    (ap (λ (e : Entry). e.level) read
    ∙ (entry.level ∙ ap (λ (t : Trail). decision_level_on t c.args.v) (same c.before)))
