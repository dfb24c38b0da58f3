use Rattle.std.proofs.Common.{List, Contains, ap, sym, subst, ◌∙◌}
use Rattle.derive.specs.Dropping.{finishes}
use Rattle.derive.specs.State.{OpenClause, note_at}
use Rattle.search.specs.Long.{is_input}
use Rattle.search.specs.Forcing.{HasNoCubes}
use Rattle.clean.specs.Turns.{reductions_in}
use Rattle.search.specs.State.{IsResting, SearchState}
use Rattle.search.specs.contracts.search.Search.{the_view}
use Rattle.search.specs.Moves.{KeepsOlder}
use Rattle.search.proofs.Aging.{older_dropped}
use Rattle.search.proofs.Dropping.{no_cubes_left, resting_left, stays_live, step_unfinished, input_unfinished}
use Rattle.search.proofs.Reducing.{reductions_alike}
use Rattle.search.proofs.Laws.{agreeing_laws, holding_laws}
use Rattle.search.proofs.search.Search.drop_finish.Goals as goal

pub returns-clause-resting : goal.returns-clause-resting
returns-clause-resting c =
    let s = the_view c.self.inside in
    let d = c.drop_finish.new.self in
    let scopes = c.args.prefix.now in
    let resting = subst (IsResting scopes) (sym c.self.view_is) c.requires in
    resting_left scopes s d finishes c.drop_finish.ensures.drops
    (λ k at. (
      subst (λ (cs : List OpenClause). Contains cs k) c.drop_finish.ensures.clauses at,
      λ id i r.
          step_unfinished s.derivation d c.drop_finish.ensures.exactly id r.step,
    ))
    holding_laws agreeing_laws resting.rest resting.intact resting.tallied
    (c.drop_finish.ensures.legal scopes resting.intact.legal)
    (λ side id a. step_unfinished s.derivation d c.drop_finish.ensures.exactly id
    (resting.intact.watched.sides side id a).step)
    (λ id a attached why. ap is_input (c.drop_finish.ensures.exactly a) ∙ input_unfinished (note_at s.derivation a))
    (λ joined id at live. resting.attached joined id at (stays_live scopes s d finishes c.drop_finish.ensures.drops id
    live))

pub returns-clause-cubes : goal.returns-clause-cubes
returns-clause-cubes c = λ none.
    no_cubes_left c.args.prefix.now (the_view c.self.inside) c.drop_finish.new.self finishes c.drop_finish.ensures.drops
    (subst HasNoCubes (sym c.self.view_is) none)

pub returns-clause-reductions : goal.returns-clause-reductions
returns-clause-reductions c =
    reductions_alike c.self.inside.derivation c.drop_finish.new.self c.drop_finish.ensures.steps
    ∙ ap (λ (s : SearchState). reductions_in s.derivation) c.self.view_is

pub returns-clause-older : goal.returns-clause-older
returns-clause-older c =
    subst (λ (s : SearchState). KeepsOlder s.derivation c.drop_finish.new.self) c.self.view_is
    (older_dropped finishes c.self.inside.derivation c.drop_finish.new.self c.drop_finish.ensures.drops)
