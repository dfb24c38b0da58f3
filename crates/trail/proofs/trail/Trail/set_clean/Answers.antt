use Rattle.std.proofs.Common.{◌≡◌, Bool, subst, ap₂, ℕ, ◌∙◌, List, true, sym, ap, set, get_or, length, vec_capacity, None}
use Rattle.std.proofs.lemmas.List.{length-set}
use Rattle.calculus.specs.Search.{cause_on, place_on, value_on, Trail}
use Rattle.trail.specs.declared.entry.Entry.{Entry}
use Rattle.trail.specs.State.{TrailState, IsTrailFor, with_clean, with_reason}
use Rattle.trail.specs.Table.{depths_of, marks_of, trail_of}
use Rattle.trail.proofs.Tables.{cause_none, map_some, none_map}
use Rattle.trail.proofs.Marking.{IsMarkedOn, cleaned, kept_clean, marked_at, no_cause, table_marked}
use Rattle.trail.proofs.trail.Trail.set_clean.Goals as goal

pub returns-in_default-clause-value : goal.returns-in_default-clause-value
returns-in_default-clause-value c =
    let t = c.args.self.now in
    let none : value_on t.placed c.args.v ≡ None = none_map (value_on t.placed c.args.v) (place_on t.placed c.args.v)
    (sym c.in_default.is ∙ c.place.ensures.value) in
    no_cause c.requires.propagated.0 (sym (cause_none t.placed c.args.v none) ∙ c.requires.propagated.1)

same : (c : goal.After-self-1) → trail_of c.self.inside.entries.items ≡ c.args.self.now.placed
same c = ap (λ (t : TrailState). t.placed) c.self.view_is

place : (c : goal.After-self-1) → c.in-Some.place ≡ place_on c.args.self.now.placed c.args.v
place c =
    (map_some (value_on c.args.self.now.placed c.args.v) c.in-Some.place (place_on c.args.self.now.placed c.args.v)
    (sym c.in-Some.is ∙ c.place.ensures.value)).0

abbrev entries : (c : goal.After-self-1) → List Entry
entries c = set c.self.inside.entries.items c.in-Some.place (cleaned c.index_mut-entry.result.now c.args.reason)

marked : (c : goal.After-self-1) → IsMarkedOn c.self.inside.entries.items (entries c) c.args.v c.args.reason
    c.in-Some.place
marked c =
    let items = c.self.inside.entries.items in
    let d = c.index_mut-entry.result.now in
    let value : d ≡ get_or items c.in-Some.place d = c.index_mut-entry.ensures.value in
    subst (λ (e : Entry). IsMarkedOn items (set items c.in-Some.place (cleaned e c.args.reason)) c.args.v c.args.reason
    c.in-Some.place) (sym value)
    (marked_at items c.args.v c.args.reason c.in-Some.place c.requires.propagated.0 d
    (ap (λ (t : Trail). cause_on t c.args.v) (same c) ∙ c.requires.propagated.1)
    (ap (λ (t : Trail). place_on t c.args.v) (same c) ∙ sym (place c)))

pub invariant_of-self : goal.invariant_of-self
invariant_of-self c =
    let items = c.self.inside.entries.items in
    let both = table_marked items (entries c) c.self.inside.spots c.self.inside.tallies.items
    (vec_capacity c.self.inside.entries) c.args.v c.args.reason c.in-Some.place c.requires.propagated.0
    (ap (λ (t : Trail). cause_on t c.args.v) (same c) ∙ c.requires.propagated.1)
    (length-set items c.in-Some.place (cleaned c.index_mut-entry.result.now c.args.reason))
    (marked c)
    (c.self.invariant.0, c.self.invariant.1) in
    (both.0, both.1, c.self.invariant.2)

is_value : (c : goal.After-self-1) → record {
  placed = trail_of (entries c);
  depths = depths_of (entries c);
  marks =
      marks_of (entries c);
  finished = c.self.inside.finished;
  assigned = c.self.inside.assigned;
  restarts =
      c.self.inside.restarts;
  room = length c.self.inside.spots;
  allowed = c.self.inside.allowed;
} ≡ with_clean
    c.args.self.now c.args.v c.args.reason
is_value c =
    let t = c.args.self.now in
    let is = marked c in
    let placed : trail_of (entries c) ≡ with_reason t.placed c.args.v c.args.reason = is.trail
    ∙ ap (λ (r : Trail). with_reason r c.args.v c.args.reason) (same c) in
    let depths : depths_of (entries c) ≡ t.depths = is.depths ∙ ap (λ (s : TrailState). s.depths) c.self.view_is in
    let marks : marks_of (entries c) ≡ set t.marks (place_on t.placed c.args.v) true = is.marks
    ∙ ap₂ (λ (bs : List Bool) (n : ℕ). set bs n true) (ap (λ (s : TrailState). s.marks) c.self.view_is) (place c) in
    let finished : c.self.inside.finished ≡ t.finished = ap (λ (s : TrailState). s.finished) c.self.view_is in
    let assigned : c.self.inside.assigned ≡ t.assigned = ap (λ (s : TrailState). s.assigned) c.self.view_is in
    let restarts : c.self.inside.restarts ≡ t.restarts = ap (λ (s : TrailState). s.restarts) c.self.view_is in
    let room : length c.self.inside.spots ≡ t.room = ap (λ (s : TrailState). s.room) c.self.view_is in
    let allowed : c.self.inside.allowed ≡ t.allowed = ap (λ (s : TrailState). s.allowed) c.self.view_is in
    λ i. record {
      placed = placed i;
      depths = depths i;
      marks = marks i;
      finished = finished i;
      assigned = assigned i;
      restarts = restarts i;
      room = room i;
      allowed = allowed i;
    }

pub returns-in-Some-clause-value : goal.returns-in-Some-clause-value
returns-in-Some-clause-value c = is_value c

pub returns-in-Some-clause-kept : goal.returns-in-Some-clause-kept
returns-in-Some-clause-kept c = λ scopes kept. subst (IsTrailFor scopes) (sym (is_value c))
    (kept_clean scopes c.args.self.now c.args.v c.args.reason c.requires.propagated kept)
