use Rattle.std.proofs.Common.{◌≡◌, ◌-◌, ◌≤◌, List, Option, None, is_some, set, true, ap, sym, subst, ◌∙◌}
use Rattle.std.specs.Option.{IfSome, option_map}
use Rattle.std.proofs.lemmas.List.{get_or_default}
use Rattle.rows.specs.declared.places.Place.{Place}
use Rattle.rows.specs.Places.{around_gone, moved_to, place_at}
use Rattle.rows.proofs.Gone.{Before, live_given, live_kept, live_set}
use Rattle.rows.proofs.table.Table.set_start.Goals as goal

there : (c : goal.After-index_mut) → c.index_mut.result.now ≡ place_at c.args.self.now c.args.id
there c =
    let t = c.self.inside in
    let slots = t.slots.items in
    let id = c.args.id in
    let before = c.gone_before.result in
    let within = c.self.invariant.0 in
    let is : Before t.split t.gone id before = (c.gone_before.ensures.front, c.gone_before.ensures.behind) in
    let live : is_some (place_at (around_gone t.split t.gone slots) id) ≡ true =
    ap (λ (ps : List (Option Place)). is_some (place_at ps id)) c.self.view_is ∙ c.requires.live in
    c.index_mut.ensures.value
    ∙ (get_or_default slots (id - before) c.index_mut.result.now None
    (live_given t.split t.gone id before slots within is live)
    ∙ (sym (live_kept t.split t.gone id before slots within is live)
    ∙ ap (λ (ps : List (Option Place)). place_at ps id) c.self.view_is))

pub set_start-requires-clause-own : goal.set_start-requires-clause-own
set_start-requires-clause-own c =
    let P : Option Place → Type 0 = λ o. IfSome o (λ p. p.block ≡ None) in
    subst P (sym (there c)) c.requires.own

pub set_start-requires-clause-down : goal.set_start-requires-clause-down
set_start-requires-clause-down c =
    let P : Option Place → Type 0 = λ o. IfSome o (λ p. c.args.start ≤ p.start) in
    subst P (sym (there c)) c.requires.down

pub returns : goal.returns
returns c =
    let t = c.self.inside in
    let slots = t.slots.items in
    let id = c.args.id in
    let before = c.gone_before.result in
    let within = c.self.invariant.0 in
    let is : Before t.split t.gone id before = (c.gone_before.ensures.front, c.gone_before.ensures.behind) in
    let live : is_some (place_at (around_gone t.split t.gone slots) id) ≡ true =
    ap (λ (ps : List (Option Place)). is_some (place_at ps id)) c.self.view_is ∙ c.requires.live in
    let there : c.index_mut.result.now ≡ place_at (around_gone t.split t.gone slots) id =
    c.index_mut.ensures.value
    ∙ (get_or_default slots (id - before) c.index_mut.result.now None
    (live_given t.split t.gone id before slots within is live)
    ∙ sym (live_kept t.split t.gone id before slots within is live)) in
    ap (λ (o : Option Place). around_gone t.split t.gone (set slots (id - before) o))
    (c.set_start.ensures ∙ ap (option_map (moved_to c.args.start)) there)
    ∙ (live_set t.split t.gone id before slots within is live
    (option_map (moved_to c.args.start) (place_at (around_gone t.split t.gone slots) id))
    ∙ ap (λ (ps : List (Option Place)). set ps id (option_map (moved_to c.args.start) (place_at ps id)))
    c.self.view_is)
