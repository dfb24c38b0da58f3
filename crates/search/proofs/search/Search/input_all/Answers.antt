use Rattle.std.proofs.Common.{◌≤◌, ◌+◌, drop, length, sym, subst, ◌∙◌}
use Rattle.clean.specs.Turns.{reductions_in}
use Rattle.decide.specs.Memory.{Memory}
use Rattle.derive.specs.Cubes.{misses_one}
use Rattle.derive.specs.State.{clauses_of}
use Rattle.search.specs.Changing.{AddsClauses, WatchesMany}
use Rattle.search.specs.Finishes.{GainsNoFinish}
use Rattle.search.specs.Forcing.{HasNoCubes}
use Rattle.search.specs.Moves.{KeepsOlder}
use Rattle.search.specs.State.{IsIntact, IsTallied, SearchState, rows_of}
use Rattle.search.specs.Watching.{NoneFalls, TakesAll}
use Rattle.search.specs.contracts.search.Search.{the_view}
use Rattle.search.proofs.Entering.{Enters, no_cubes_entered, older_entered, takes_entered}
use Rattle.search.proofs.Finishing.{finishes_inputs}
use Rattle.search.proofs.Reducing.{reductions_inputs}
use Rattle.search.proofs.Laws.{agreeing_laws, holding_laws}
use Rattle.search.proofs.search.Search.input_all.Goals as goal

enters : (c : goal.After-count_all)
    → Enters c.args.prefix.now c.args.frame c.self.inside.derivation c.input_clauses.new.self c.args.clauses.now
    c.self.inside.watched.items c.input_clauses.new.reductions.items
enters c = record {
  inputs = c.in_ok-input_clauses.ensures.ok;
  kept = c.in_ok-input_clauses.ensures.kept;
  others = c.in_ok-input_clauses.ensures.others;
  stays = c.in_ok-input_clauses.ensures.stays;
  unlinked = c.in_ok-input_clauses.ensures.unlinked;
}

pub returns-clause-ok : goal.returns-clause-ok
returns-clause-ok c =
    let gains = c.in_ok-input_clauses.ensures.ok.gains in
    subst (λ (s : SearchState). AddsClauses c.args.frame c.args.clauses.now (clauses_of s.derivation)
    (clauses_of c.input_clauses.new.self)) c.self.view_is
    (record { added = gains.added; clauses = gains.clauses; has_rows = gains.has_rows; of_frame = gains.of_frame })

pub returns-clause-more : goal.returns-clause-more
returns-clause-more c =
    let inputs = c.in_ok-input_clauses.ensures.ok in
    subst (λ (s : SearchState). WatchesMany (length c.args.clauses.now) s.watched c.input_clauses.new.reductions.items)
    c.self.view_is
    (record { added = inputs.ids; many = inputs.gains.count; watched = inputs.lists })

pub returns-clause-takes : goal.returns-clause-takes
returns-clause-takes c =
    let s = the_view c.self.inside in
    let scopes = c.args.prefix.now in
    let ids = c.input_clauses.new.reductions.items in
    let place = c.len-place.result in
    let intact = subst (IsIntact scopes) (sym c.self.view_is) c.requires.intact in
    subst (λ (old : SearchState). TakesAll scopes old (record {
      derivation = c.input_clauses.new.self;
      trail = s.trail;
      clauses = s.clauses;
      cubes = s.cubes;
      signs = c.count_all.new.decider;
      watched = ids;
      joined = s.joined;
      long = s.long;
    }) (drop place ids)) c.self.view_is
    (subst (λ (signs : Memory). TakesAll scopes s (record {
      derivation = c.input_clauses.new.self;
      trail = s.trail;
      clauses = s.clauses;
      cubes = s.cubes;
      signs = signs;
      watched = ids;
      joined = s.joined;
      long = s.long;
    }) (drop place ids)) (sym c.count_all.ensures)
    (takes_entered scopes c.args.frame s c.input_clauses.new.self c.args.clauses.now ids
    (enters c) intact.watched intact
    (subst (λ (t : SearchState). NoneFalls (misses_one c.args.clauses.now (rows_of t)) t) (sym c.self.view_is)
    c.requires.none)
    holding_laws agreeing_laws
    (subst IsTallied (sym c.self.view_is) c.requires.tallied)
    c.input_clauses.ensures.rows
    (c.in_ok-input_clauses.ensures.legal c.requires.rows intact.legal)
    place (c.len-place.ensures ∙ c.self.inside.watched.ok.0)))

pub returns-clause-cubes : goal.returns-clause-cubes
returns-clause-cubes c = λ none.
    let s = the_view c.self.inside in
    let scopes = c.args.prefix.now in
    let intact = subst (IsIntact scopes) (sym c.self.view_is) c.requires.intact in
    no_cubes_entered scopes c.args.frame s c.input_clauses.new.self c.args.clauses.now
    c.input_clauses.new.reductions.items (enters c) intact.watched (subst HasNoCubes (sym c.self.view_is) none)

pub returns-clause-finishes : goal.returns-clause-finishes
returns-clause-finishes c =
    subst (λ (s : SearchState). GainsNoFinish s.derivation c.input_clauses.new.self) c.self.view_is
    (finishes_inputs c.args.prefix.now c.args.frame c.self.inside.derivation c.input_clauses.new.self
    c.args.clauses.now c.self.inside.watched.items c.input_clauses.new.reductions.items
    c.in_ok-input_clauses.ensures.ok)

pub returns-clause-reductions : goal.returns-clause-reductions
returns-clause-reductions c =
    subst (λ (s : SearchState). reductions_in c.input_clauses.new.self
    ≤ reductions_in s.derivation + length c.args.clauses.now) c.self.view_is
    (reductions_inputs c.args.prefix.now c.args.frame c.self.inside.derivation c.input_clauses.new.self
    c.args.clauses.now c.self.inside.watched.items c.input_clauses.new.reductions.items
    c.in_ok-input_clauses.ensures.ok)

pub returns-clause-older : goal.returns-clause-older
returns-clause-older c =
    subst (λ (s : SearchState). KeepsOlder s.derivation c.input_clauses.new.self) c.self.view_is
    (older_entered c.args.prefix.now c.args.frame c.self.inside.derivation c.input_clauses.new.self
    c.args.clauses.now c.self.inside.watched.items c.input_clauses.new.reductions.items
    c.in_ok-input_clauses.ensures.ok)
