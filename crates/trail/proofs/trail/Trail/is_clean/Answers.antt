use Rattle.std.proofs.Common.{◌≡◌, ◌∙◌, sym, ap, is_some, get_or, None}
use Rattle.calculus.specs.Search.{place_on, value_on, Trail}
use Rattle.trail.specs.declared.entry.Entry.{Entry}
use Rattle.trail.specs.State.{TrailState, is_marked}
use Rattle.trail.specs.Table.{trail_of}
use Rattle.trail.proofs.Tables.{map_some, none_map}
use Rattle.trail.proofs.Marking.{mark_none, mark_read}
use Rattle.trail.proofs.trail.Trail.is_clean.Goals as goal

pub returns-in-None : goal.returns-in-None
returns-in-None c =
    let t = c.args.self.now in
    let same : trail_of c.self.inside.entries.items ≡ t.placed = ap (λ (t : TrailState). t.placed) c.self.view_is in
    let none : value_on t.placed c.args.v ≡ None = none_map (value_on t.placed c.args.v) (place_on t.placed c.args.v)
    (sym c.in-None.is ∙ c.place.ensures.value) in
    sym (mark_none c.self.inside.entries.items c.args.v (ap (λ (t : Trail). value_on t c.args.v) same ∙ none))
    ∙ ap (λ (t : TrailState). is_marked t c.args.v) c.self.view_is

pub returns-in-Some : goal.returns-in-Some
returns-in-Some c =
    let items = c.self.inside.entries.items in
    let t = c.args.self.now in
    let same : trail_of items ≡ t.placed = ap (λ (t : TrailState). t.placed) c.self.view_is in
    let d = c.index.result.now in
    let found = map_some (value_on t.placed c.args.v) c.in-Some.place (place_on t.placed c.args.v)
    (sym c.in-Some.is ∙ c.place.ensures.value) in
    let place = found.0 ∙ ap (λ (t : Trail). place_on t c.args.v) (sym same) in
    let read : d ≡ get_or items (place_on (trail_of items) c.args.v) d = c.index.ensures
    ∙ ap (λ n. get_or items n d) place in
    ap (λ (e : Entry). e.clean) read
    ∙ (mark_read items c.args.v d (ap (λ (t : Trail). is_some (value_on t c.args.v)) same ∙ found.1)
    ∙ ap (λ (t : TrailState). is_marked t c.args.v) c.self.view_is)
