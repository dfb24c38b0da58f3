use Rattle.std.proofs.Common.{sym, subst}
use Rattle.calculus.specs.Search.{IsUnitIn, value_on}
use Rattle.clean.specs.Reasons.{IsReducedStep}
use Rattle.derive.specs.State.{row_of}
use Rattle.search.specs.Moves.{Advances}
use Rattle.search.specs.State.{IsSearching, SearchState}
use Rattle.search.specs.contracts.search.Search.{the_view}
use Rattle.search.proofs.Assigning.{IsAsked, asked, pushed}
use Rattle.search.proofs.search.Search.propagate.Goals as goal

asked_now : (c : goal.After-propagate-arg-2-1) → IsAsked c.args.prefix.now c.self.inside.trail c.args.lit
asked_now c =
    subst (λ (s : SearchState). IsAsked c.args.prefix.now s.trail c.args.lit) (sym c.self.view_is)
    (asked c.args.prefix.now c.args.self.now c.args.side c.args.row c.args.lit c.requires.searching c.requires.row
    c.requires.unit)

pub propagate-requires-clause-trail : goal.propagate-requires-clause-trail
propagate-requires-clause-trail c = (asked_now c).trail

pub propagate-requires-clause-known : goal.propagate-requires-clause-known
propagate-requires-clause-known c = (asked_now c).known

pub propagate-requires-clause-unassigned : goal.propagate-requires-clause-unassigned
propagate-requires-clause-unassigned c = (asked_now c).unassigned

pub propagate-requires-clause-room : goal.propagate-requires-clause-room
propagate-requires-clause-room c = (asked_now c).room

pub returns-clause-ok : goal.returns-clause-ok
returns-clause-ok c =
    let s = the_view c.self.inside in
    let view = sym c.self.view_is in
    let e = c.in_ok-propagate.ensures in
    let done = pushed c.args.prefix.now s c.args.side c.args.row c.args.lit
    (subst (IsSearching c.args.prefix.now) view c.requires.searching)
    (subst (λ (t : SearchState). IsReducedStep c.args.side c.args.prefix.now t.derivation c.args.row) view
    c.requires.row)
    (subst (λ (t : SearchState). IsUnitIn c.args.side c.args.prefix.now (value_on t.trail.placed)
    (row_of t.derivation c.args.row) c.args.lit) view c.requires.unit)
    c.propagate.new.trail c.args.steps.now e.ok c.propagate.ensures.kept c.propagate.ensures.within e.left e.one in
    subst (λ (t : SearchState). Advances c.args.prefix.now 0 t (record s { trail = c.propagate.new.trail })
    c.args.steps.now c.propagate.new.steps) c.self.view_is (rw e.counted done)
