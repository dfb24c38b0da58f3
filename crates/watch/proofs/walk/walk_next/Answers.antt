use Rattle.std.proofs.Common.{◌≡◌, Some, min, ap, refl, subst, sym, ◌∙◌}
use Rattle.std.specs.Prelude.{slice_get}
use Rattle.truth.specs.Truth.{assumed_value}
use Rattle.calculus.specs.Search.{literals_on, value_on}
use Rattle.watch.specs.declared.board.Family.{Family}
use Rattle.watch.specs.Families.{base_of, lists_of, turn_of}
use Rattle.watch.specs.Links.{first_of}
use Rattle.watch.specs.Pairs.{bad_by, watch_name}
use Rattle.watch.specs.Walks.{IsSifting}
use Rattle.watch.proofs.Families.{linked_of}
use Rattle.watch.proofs.Keeping.{AreKept-one, AreKept-two}
use Rattle.watch.proofs.Stepping.{turn_first, turn_second, walk_begins}
use Rattle.watch.proofs.Walking.{sifting_ends}
use Rattle.watch.proofs.walk.walk_next.Goals as goal

pub walk_list-requires-clause-sifting : goal.walk_list-requires-clause-sifting
walk_list-requires-clause-sifting g c =
    let turn = turn_of c.args.ones.now c.args.twos.now in
    let here : slice_get (literals_on c.args.trail.now.placed) (min c.args.ones.now c.args.twos.now) ≡ Some
    c.at.result =
    rw c.min.ensures at c.at.ensures.literal in
    subst (λ (f : Family). IsSifting g.S.Side.PIVOT (value_on c.args.trail.now.placed) (base_of f)
    c.watch_name-name.result c.begin.result c.args.rows.now) (sym c.turn-family.ensures)
    (walk_begins g.S.Side.PIVOT (literals_on c.args.trail.now.placed) c.args.ones.now c.args.twos.now c.args.at.now
    c.begin.result
    (lists_of turn c.args.first.now c.args.second.now) c.args.rows.now c.at.result c.watch_name-name.result
    (linked_of g.S.Side.PIVOT turn c.args.first.now c.args.second.now c.args.rows.now c.requires.kept.board)
    c.requires.walking here (c.watch_name-name.ensures.name ∙ ap watch_name c.bad_by.ensures)
    c.begin.ensures.reached
    (λ e. c.begin.ensures.none e ∙ ap (λ (f : Family). first_of (lists_of f c.args.first.now c.args.second.now)
    c.watch_name-name.result) c.turn-family.ensures))

pub returns-in-Some-clause-kept : goal.returns-in-Some-clause-kept
returns-in-Some-clause-kept g c = λ calm h. c.walk_list.ensures.goes calm c.args.ones.now c.args.twos.now h

pub returns-in-Some-clause-walking : goal.returns-in-Some-clause-walking
returns-in-Some-clause-walking g c = λ some.
    let here : slice_get (literals_on c.args.trail.now.placed) (min c.args.ones.now c.args.twos.now) ≡ Some
    c.at.result =
    rw c.min.ensures at c.at.ensures.literal in
    let named : c.watch_name-name.result ≡ watch_name (bad_by g.S.Side.PIVOT c.at.result) =
    c.watch_name-name.ensures.name ∙ ap watch_name c.bad_by.ensures in
    record {
      literal = c.at.result;
      here = here;
      sifting = rw (c.turn-family.ensures, named) at c.walk_list.ensures.sifting;
    }

pub returns-in-First-clause-kept : goal.returns-in-First-clause-kept
returns-in-First-clause-kept g c = λ calm h.
    let here : slice_get (literals_on c.args.trail.now.placed) (min c.args.ones.now c.args.twos.now) ≡ Some
    c.at.result =
    rw c.min.ensures at c.at.ensures.literal in
    let named : c.watch_name-name.result ≡ watch_name (bad_by g.S.Side.PIVOT c.at.result) =
    c.watch_name-name.ensures.name ∙ ap watch_name c.bad_by.ensures in
    AreKept-one g.S.Side.PIVOT c.args.prefix.now (literals_on c.args.trail.now.placed) calm c.args.ones.now
    c.args.twos.now c.walk_list.new.first
    c.walk_list.new.second c.walk_list.new.rows (c.walk_list.ensures.goes calm c.args.ones.now c.args.twos.now h)
    c.at.result
    (rw (turn_first c.args.ones.now c.args.twos.now (sym c.turn-family.ensures ∙ c.in-First.is)) at here)
    (sifting_ends g.S.Side.PIVOT (assumed_value (literals_on c.args.trail.now.placed)) 0 (watch_name (bad_by
    g.S.Side.PIVOT c.at.result))
    c.walk_list.new.at c.walk_list.new.rows (c.in_default.ensures.ended refl)
    (rw (c.in-First.is, named) at c.walk_list.ensures.sifting))

pub returns-in-Second-clause-kept : goal.returns-in-Second-clause-kept
returns-in-Second-clause-kept g c = λ calm h.
    let here : slice_get (literals_on c.args.trail.now.placed) (min c.args.ones.now c.args.twos.now) ≡ Some
    c.at.result =
    rw c.min.ensures at c.at.ensures.literal in
    let named : c.watch_name-name.result ≡ watch_name (bad_by g.S.Side.PIVOT c.at.result) =
    c.watch_name-name.ensures.name ∙ ap watch_name c.bad_by.ensures in
    AreKept-two g.S.Side.PIVOT c.args.prefix.now (literals_on c.args.trail.now.placed) calm c.args.ones.now
    c.args.twos.now c.walk_list.new.first
    c.walk_list.new.second c.walk_list.new.rows (c.walk_list.ensures.goes calm c.args.ones.now c.args.twos.now h)
    c.at.result
    (rw (turn_second c.args.ones.now c.args.twos.now (sym c.turn-family.ensures ∙ c.in-Second.is)) at here)
    (sifting_ends g.S.Side.PIVOT (assumed_value (literals_on c.args.trail.now.placed)) 3 (watch_name (bad_by
    g.S.Side.PIVOT c.at.result))
    c.walk_list.new.at c.walk_list.new.rows (c.in_default.ensures.ended refl)
    (rw (c.in-Second.is, named) at c.walk_list.ensures.sifting))
