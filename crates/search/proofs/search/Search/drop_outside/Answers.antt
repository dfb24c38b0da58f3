use Rattle.std.proofs.Common.{◌≡◌, true, ap, sym, subst, ◌∙◌, arith}
use Rattle.derive.specs.Dropping.{NoneOutsideBelow, is_outside, mentions, names}
use Rattle.derive.specs.State.{arena_of, row_of}
use Rattle.clean.specs.Turns.{reductions_in}
use Rattle.search.specs.State.{IsAtRest, SearchState, rows_of}
use Rattle.search.specs.Watching.{NoneFalls, Sheds}
use Rattle.search.specs.contracts.search.Search.{the_view}
use Rattle.search.proofs.Dropping.{clauses_left, named_falls, no_named_root, rederived, resting_left, shed_attached, shed_inputs, shed_stay}
use Rattle.search.proofs.Popping.{loses_shed, resting_moves}
use Rattle.search.proofs.Reducing.{reductions_left, reductions_same}
use Rattle.search.proofs.Shedding.{names_alike, none_below_same}
use Rattle.search.proofs.Laws.{agreeing_laws, clauses_are_listed, holding_laws, prefixes_may_change, reductions_stay}
use Rattle.search.proofs.search.Search.drop_outside.Goals as goal

pub detach_outside-requires-clause-intact : goal.detach_outside-requires-clause-intact
detach_outside-requires-clause-intact c = (c.requires.resting.0, c.requires.resting.2.intact)

pub detach_outside-requires-clause-tallied : goal.detach_outside-requires-clause-tallied
detach_outside-requires-clause-tallied c = c.requires.resting.2.tallied

pub drop_outside-requires-clause-below : goal.drop_outside-requires-clause-below
drop_outside-requires-clause-below c =
    subst (λ (s : SearchState). NoneOutsideBelow c.args.prefix.now c.args.from s.derivation) (sym c.self.view_is)
    (none_below_same c.args.self.now.derivation c.detach_outside.new.self.derivation
    c.detach_outside.ensures.sheds.steps
    c.args.prefix.now c.args.from c.requires.below)

sheds : (c : goal.After-drop_outside)
    → Sheds (λ id. mentions (is_outside c.args.prefix.now) (row_of c.args.self.now.derivation id) ≡ true)
    c.args.self.now
    (the_view c.self.inside)
sheds c =
    subst (Sheds (λ id. mentions (is_outside c.args.prefix.now) (row_of c.args.self.now.derivation id) ≡ true)
    c.args.self.now) (sym c.self.view_is) c.detach_outside.ensures.sheds

none : (c : goal.After-drop_outside)
    → NoneFalls (names (is_outside c.args.prefix.now) (arena_of c.self.inside.derivation)) (the_view c.self.inside)
none c =
    subst (λ (s : SearchState). NoneFalls (names (is_outside c.args.prefix.now) (rows_of s)) s) (sym c.self.view_is)
    c.detach_outside.ensures.none

pub returns-clause-loses : goal.returns-clause-loses
returns-clause-loses c =
    let old = c.args.self.now.derivation in
    let now = c.self.inside.derivation in
    loses_shed (names (is_outside c.args.prefix.now) (arena_of old))
    (names (is_outside c.args.prefix.now) (arena_of now))
    old now c.drop_outside.new.self (sheds c).steps (names_alike old now (sheds c).steps (is_outside c.args.prefix.now))
    c.drop_outside.ensures.drops

pub returns-clause-resting : goal.returns-clause-resting
returns-clause-resting c =
    let start = c.args.self.now in
    let s = the_view c.self.inside in
    let d = c.drop_outside.new.self in
    let scopes = c.requires.resting.0 in
    let extends = c.requires.resting.1 in
    let resting = c.requires.resting.2 in
    let roots = names (is_outside c.args.prefix.now) (rows_of s) in
    let drops = c.drop_outside.ensures.drops in
    let shed = sheds c in
    let known = resting.intact in
    let intact = shed.intact scopes known in
    resting_moves prefixes_may_change clauses_are_listed reductions_stay
    holding_laws scopes c.args.prefix.now (rederived s d s.watched) extends c.drop_outside.ensures.left
    (resting_left scopes s d roots drops
    (λ k at. let r = clauses_left scopes s.derivation d roots _ clauses_are_listed drops
    c.drop_outside.ensures.clauses (no_named_root scopes s.derivation (is_outside c.args.prefix.now)) k at in
    (r.0, λ id i. r.1 id))
    holding_laws agreeing_laws (subst IsAtRest (sym shed.trail) resting.rest) intact
    shed.tallied (c.drop_outside.ensures.legal scopes intact.legal)
    (shed_stay scopes start s d roots drops _ shed known (none c))
    (shed_inputs scopes start s d roots drops _ shed known (none c))
    (shed_attached scopes start s d roots drops _ shed known (none c) resting
    (λ id named live. named_falls (is_outside c.args.prefix.now) s.derivation id
    (ap (mentions (is_outside c.args.prefix.now)) (shed.steps.literals id) ∙ named) live)))

pub returns-clause-reductions : goal.returns-clause-reductions
returns-clause-reductions c =
    let few = reductions_left (names (is_outside c.args.prefix.now) (arena_of c.self.inside.derivation))
    c.self.inside.derivation c.drop_outside.new.self c.drop_outside.ensures.drops in
    let same = reductions_same c.args.self.now.derivation c.detach_outside.new.self.derivation
    c.detach_outside.ensures.sheds.steps in
    let is = ap (λ (s : SearchState). reductions_in s.derivation) c.self.view_is in
    omega (arith, few, same, is)
