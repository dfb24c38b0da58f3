use Rattle.std.proofs.Common.{◌≡◌, ◌∙◌, sym, ap, true, is_some, get_or, Some}
use Rattle.std.specs.Option.{option_map}
use Rattle.calculus.specs.Search.{place_on, value_on, cause_on, Trail}
use Rattle.trail.specs.declared.entry.Entry.{Entry}
use Rattle.trail.specs.Causes.{cause_of}
use Rattle.trail.specs.State.{TrailState}
use Rattle.trail.specs.Table.{trail_of}
use Rattle.trail.proofs.Tables.{entry_at, place_within, map_some, none_map, cause_none}
use Rattle.trail.proofs.trail.Trail.why.Goals as goal

same : (c : goal.In_ok-place) → trail_of c.self.inside.entries.items ≡ c.args.self.now.placed
same c = ap (λ (t : TrailState). t.placed) c.self.view_is

known : (c : goal.In_ok-place) → is_some (value_on (trail_of c.self.inside.entries.items) c.args.v) ≡ true
known c = ap (λ (t : Trail). is_some (value_on t c.args.v)) (same c)
    ∙ (map_some (value_on c.args.self.now.placed c.args.v) c.in_ok-place.field-0
    (place_on c.args.self.now.placed c.args.v) c.in_ok-place.ensures.value).1

place : (c : goal.In_ok-place) → c.in_ok-place.field-0 ≡ place_on (trail_of c.self.inside.entries.items) c.args.v
place c = (map_some (value_on c.args.self.now.placed c.args.v) c.in_ok-place.field-0
    (place_on c.args.self.now.placed c.args.v) c.in_ok-place.ensures.value).0 ∙ ap (λ (t : Trail). place_on t c.args.v)
    (sym (same c))

pub index-requires : goal.index-requires
index-requires c = rw (c.self.inside.entries.ok.0, place c)
    (place_within c.self.inside.entries.items c.args.v (known c))

pub returns-in_err-place : goal.returns-in_err-place
returns-in_err-place c =
    ap (option_map cause_of) c.from_residual.ensures
    ∙ sym (cause_none c.args.self.now.placed c.args.v
    (none_map (value_on c.args.self.now.placed c.args.v) (place_on c.args.self.now.placed c.args.v)
    c.in_err-place.ensures.value))

pub returns : goal.returns
returns c =
    let items = c.self.inside.entries.items in
    let d = c.index.result.now in
    let entry = entry_at 0 items c.args.v d c.self.invariant.0.leveled (known c.before.before) in
    let read : d ≡ get_or items (place_on (trail_of items) c.args.v) d = c.index.ensures ∙ ap (λ n. get_or items n d)
    (place c.before.before) in
    ap (λ (e : Entry). Some (cause_of e.why)) read
    ∙ (sym entry.cause ∙ ap (λ (t : Trail). cause_on t c.args.v) (same c.before.before))
