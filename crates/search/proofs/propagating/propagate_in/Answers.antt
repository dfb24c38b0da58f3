use Rattle.std.proofs.Common.{◌≡◌, ◌-◌, ◌<◌, sym, subst}
use Rattle.std.proofs.lemmas.Result.{err_from_is_err_and}
use Rattle.steps.specs.Counter.{Counter}
use Rattle.calculus.specs.Limits.{propagation_limit}
use Rattle.search.specs.Counting.{size_of}
use Rattle.trail.specs.State.{TrailState}
use Rattle.search.specs.Moves.{Propagates, WasDue}
use Rattle.search.specs.State.{IsSearching, SearchState}
use Rattle.search.specs.Watching.{holding}
use Rattle.search.proofs.Assigning.{IsAsked, asked, due_unit_found, few_until_unit, keeps_rows, propagates_looked, propagates_pushed}
use Rattle.search.proofs.propagating.propagate_in.Goals as goal

asked_now : (c : goal.After-propagate-arg-in-Unit-1) → IsAsked c.args.prefix.now c.units.trail c.in-Unit.lit
asked_now c =
    let s = c.requires.searching.0 in
    let goes = c.units.invariant.held s c.requires.searching.1 in
    let looks = c.in-Unit.ensures.looks s goes.goes.searching in
    let found = c.in-Unit.ensures.found s in
    asked c.args.prefix.now (holding s c.look.new.watches c.units.trail c.look.new.rows) c.in-Unit.side c.in-Unit.row
    c.in-Unit.lit looks.searching
    (looks.searching.paused.intact.watched.sides c.in-Unit.side c.in-Unit.row found.0) found.1

pub propagate-requires-clause-known : goal.propagate-requires-clause-known
propagate-requires-clause-known c = (asked_now c).known

pub propagate-requires-clause-unassigned : goal.propagate-requires-clause-unassigned
propagate-requires-clause-unassigned c = (asked_now c).unassigned

pub propagate-requires-clause-room : goal.propagate-requires-clause-room
propagate-requires-clause-room c = (asked_now c).room

held_on : (c : goal.In_ok-propagate-in-Unit) (s : SearchState)
    → IsSearching c.args.prefix.now (holding s c.args.watches.now c.args.trail.now c.args.rows.now)
    → Propagates c.args.prefix.now (holding s c.args.watches.now c.args.trail.now c.args.rows.now)
    (holding s c.look.new.watches c.propagate.new.trail c.look.new.rows) c.args.steps.now c.propagate.new.steps
held_on c s searching =
    let goes = c.units.invariant.held s searching in
    let old = holding s c.args.watches.now c.args.trail.now c.args.rows.now in
    let between = holding s c.look.new.watches c.units.trail c.look.new.rows in
    let found = c.in-Unit.ensures.found s in
    let e = c.in_ok-propagate-in-Unit.ensures in
    subst
    (λ (n : Counter). Propagates c.args.prefix.now old
    (holding s c.look.new.watches c.propagate.new.trail c.look.new.rows) c.args.steps.now n)
    (sym e.counted)
    (propagates_pushed c.args.prefix.now old between c.args.steps.now c.units.steps c.in-Unit.side c.in-Unit.row
    c.in-Unit.lit
    (propagates_looked goes (c.in-Unit.ensures.looks s goes.goes.searching)) found.0 found.1
    c.propagate.new.trail e.ok c.propagate.ensures.kept c.propagate.ensures.within e.left e.one)

pub units-preserved : goal.units-preserved
units-preserved c = record {
  held = held_on c;
  same = keeps_rows c.units.invariant.same c.look.ensures.same;
}

pub returns-in_err-propagate-in-Unit-clause-goes :
    goal.returns-in_err-propagate-in-Unit-clause-goes
returns-in_err-propagate-in-Unit-clause-goes c s searching =
    let goes = c.units.invariant.held s searching in
    let old = holding s c.args.watches.now c.args.trail.now c.args.rows.now in
    let e = c.in_err-propagate-in-Unit.ensures in
    subst
    (λ (t : TrailState). Propagates c.args.prefix.now old (holding s c.look.new.watches t c.look.new.rows)
    c.args.steps.now c.propagate.new.steps)
    (sym e.same)
    (subst
    (λ (n : Counter). Propagates c.args.prefix.now old (holding s c.look.new.watches c.units.trail c.look.new.rows)
    c.args.steps.now n)
    (sym e.uncounted)
    (propagates_looked goes (c.in-Unit.ensures.looks s goes.goes.searching)))

pub returns-in_err-propagate-in-Unit-clause-due : goal.returns-in_err-propagate-in-Unit-clause-due
returns-in_err-propagate-in-Unit-clause-due c =
    let p = err_from_is_err_and c.from_residual.result c.from_residual.ensures.1 in
    rw p.1
    (λ s searching.
    let goes = c.units.invariant.held s searching in
    let old = holding s c.args.watches.now c.args.trail.now c.args.rows.now in
    let between = holding s c.look.new.watches c.units.trail c.look.new.rows in
    let found = c.in-Unit.ensures.found s in
    subst (λ (t : TrailState). WasDue c.args.prefix.now old (holding s c.look.new.watches t c.look.new.rows))
    (sym c.in_err-propagate-in-Unit.ensures.same)
    (due_unit_found c.args.prefix.now old between c.args.steps.now c.units.steps c.in-Unit.side c.in-Unit.row
    c.in-Unit.lit (propagates_looked goes (c.in-Unit.ensures.looks s goes.goes.searching)) found.0 found.1))

pub returns-in_err-propagate-in-Unit-clause-few : goal.returns-in_err-propagate-in-Unit-clause-few
returns-in_err-propagate-in-Unit-clause-few c =
    let p = err_from_is_err_and c.from_residual.result c.from_residual.ensures.1 in
    rw p.1
    (λ s matrix start searching refuting.
    let goes = c.units.invariant.held s searching in
    let old = holding s c.args.watches.now c.args.trail.now c.args.rows.now in
    let between = holding s c.look.new.watches c.units.trail c.look.new.rows in
    let found = c.in-Unit.ensures.found s in
    let e = c.in_err-propagate-in-Unit.ensures in
    subst (λ (n : Counter). n.budget - start < propagation_limit (size_of c.args.prefix.now)) (sym e.uncounted)
    (few_until_unit c.args.prefix.now old between c.args.steps.now c.units.steps c.in-Unit.side c.in-Unit.row
    c.in-Unit.lit (propagates_looked goes (c.in-Unit.ensures.looks s goes.goes.searching)) found.0 found.1
    matrix start refuting (subst (λ (n : Counter). n.spent ≡ n.budget) e.uncounted e.spent)))
