use Rattle.std.proofs.Common.{◌≡◌, ◌≤◌, ℕ, List, length, sym, subst, arith}
use Rattle.std.proofs.lemmas.List.Elements.{All-from_recursion}
use Rattle.prefix.specs.declared.quant.Quant.TheVariants.{Forall}
use Rattle.calculus.specs.Rows.{IsRow}
use Rattle.derive.specs.Cubes.{misses_one}
use Rattle.derive.specs.Dropping.{Falls}
use Rattle.derive.specs.State.{OpenClause, clauses_of, side_at}
use Rattle.search.specs.Changing.{AddsClauses, WatchesMany}
use Rattle.search.specs.State.{SearchState, rows_of}
use Rattle.search.proofs.Aging.{older_same, older_then}
use Rattle.search.proofs.Entering.{resting_entered}
use Rattle.search.proofs.Inputs.{no_cubes_same}
use Rattle.search.proofs.Reducing.{reductions_same}
use Rattle.search.proofs.Shedding.{all_fall_before, none_reached}
use Rattle.search.proofs.search.Search.add_clauses.Goals as goal

pub input_all-requires-clause-rows : goal.input_all-requires-clause-rows
input_all-requires-clause-rows c = All-from_recursion (IsRow c.args.prefix.now) c.args.clauses.now c.requires.rows

pub input_all-requires-clause-none : goal.input_all-requires-clause-none
input_all-requires-clause-none c =
    let old = c.args.self.now in
    let now = c.detach_from.new.self in
    let clauses = c.args.clauses.now in
    let falls = subst (λ (s : SearchState). (id : ℕ) → Falls (misses_one clauses (rows_of s)) s.derivation.notes id
    → (c.missing_one_from-from.result ≤ id) × (side_at s.derivation id ≡ Forall)) c.self.view_is
    c.missing_one_from-from.ensures in
    none_reached (misses_one clauses (rows_of now)) (λ id. side_at old.derivation id ≡ Forall) now
    c.missing_one_from-from.result c.detach_from.ensures.free
    (λ id fell. falls id (all_fall_before old.derivation now.derivation c.detach_from.ensures.sheds.steps clauses id
    fell))

pub attach_from-requires-clause-live : goal.attach_from-requires-clause-live
attach_from-requires-clause-live c = λ id at. c.in_ok-place.ensures.takes.live id at

pub returns-clause-ok : goal.returns-clause-ok
returns-clause-ok c =
    subst (λ (old : List OpenClause). AddsClauses c.args.frame c.args.clauses.now old
    (clauses_of c.attach_from.new.self.derivation)) c.detach_from.ensures.sheds.steps.clauses
    (subst (AddsClauses c.args.frame c.args.clauses.now (clauses_of c.detach_from.new.self.derivation))
    (sym c.attach_from.ensures.steps.clauses) c.in_ok-place.ensures.ok)

pub returns-clause-more : goal.returns-clause-more
returns-clause-more c =
    subst (λ (old : List ℕ). WatchesMany (length c.args.clauses.now) old c.attach_from.new.self.watched)
    c.detach_from.ensures.sheds.watched
    (subst (WatchesMany (length c.args.clauses.now) c.detach_from.new.self.watched)
    (sym c.attach_from.ensures.watched) c.in_ok-place.ensures.more)

pub returns-clause-older : goal.returns-clause-older
returns-clause-older c =
    older_then c.args.self.now.derivation c.input_all.new.self.derivation c.attach_from.new.self.derivation
    (older_then c.args.self.now.derivation c.detach_from.new.self.derivation c.input_all.new.self.derivation
    (older_same c.args.self.now.derivation c.detach_from.new.self.derivation c.detach_from.ensures.sheds.steps)
    c.input_all.ensures.older)
    (older_same c.input_all.new.self.derivation c.attach_from.new.self.derivation c.attach_from.ensures.steps)

pub returns-clause-resting : goal.returns-clause-resting
returns-clause-resting c =
    resting_entered c.args.prefix.now c.args.self.now c.detach_from.new.self c.input_all.new.self c.attach_from.new.self
    _ c.detach_from.ensures.sheds c.in_ok-place.ensures.takes c.attach_from.ensures c.requires.resting

pub returns-clause-cubes : goal.returns-clause-cubes
returns-clause-cubes c = λ none.
    no_cubes_same c.input_all.new.self c.attach_from.new.self
    (c.in_ok-place.ensures.cubes (no_cubes_same c.args.self.now c.detach_from.new.self none
    c.detach_from.ensures.sheds.steps c.detach_from.ensures.sheds.watched))
    c.attach_from.ensures.steps c.attach_from.ensures.watched

pub returns-clause-reductions : goal.returns-clause-reductions
returns-clause-reductions c =
    let before = reductions_same c.args.self.now.derivation c.detach_from.new.self.derivation
    c.detach_from.ensures.sheds.steps in
    let few = c.input_all.ensures.reductions in
    let after = reductions_same c.input_all.new.self.derivation c.attach_from.new.self.derivation
    c.attach_from.ensures.steps in
    omega (arith, before, few, after)
