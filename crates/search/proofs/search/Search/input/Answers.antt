use Rattle.std.proofs.Common.{◌≡◌, ◌<◌, ◌≤◌, ◌+◌, ◌∷◌, ◌++◌, [], ℕ, List, is_ok, vec_len, vec_capacity, arith, sym, ap, subst, ◌∙◌}
use Rattle.std.proofs.lemmas.Bool.{cond-true}
use Rattle.decide.specs.Memory.{Memory}
use Rattle.search.specs.Forcing.{HasNoCubes}
use Rattle.search.specs.State.{IsIntact, IsTallied, SearchState, rows_of}
use Rattle.search.specs.Watching.{NoneFalls, TakesIn}
use Rattle.derive.specs.Cubes.{misses}
use Rattle.search.specs.contracts.search.Search.{the_view}
use Rattle.search.specs.Finishes.{GainsNoFinish}
use Rattle.search.specs.Moves.{KeepsOlder}
use Rattle.search.proofs.Aging.{older_input}
use Rattle.search.proofs.Finishing.{finishes_input}
use Rattle.search.proofs.Reducing.{reductions_input}
use Rattle.clean.specs.Turns.{reductions_in}
use Rattle.search.proofs.Inputs.{Inputs, no_cubes_input, takes_input}
use Rattle.search.proofs.Laws.{agreeing_laws, growth_laws, holding_laws}
use Rattle.search.proofs.search.Search.input.Goals as goal

more : (c : goal.After-push) → c.push.new.self.items ≡ c.self.inside.watched.items ++ c.in_ok-id.id ∷ []
more c =
    let reserved = c.in_ok-reserve.ensures.ok in
    let old = c.reserve.new.self in
    let held = old.ok.0 in
    let room : vec_len old < vec_capacity old = omega arith in
    c.push.ensures.items ∙ (cond-true (is_ok c.push.result) (old.items ++ c.in_ok-id.id ∷ []) old.items
    (c.push.ensures.succeeds room) ∙ ap (λ (ids : List ℕ). ids ++ c.in_ok-id.id ∷ []) c.reserve.ensures.items)

inputs : (c : goal.After-push)
    → Inputs c.args.prefix.now c.self.inside.derivation c.input_clause.new.self c.in_ok-id.field-0-0 c.in_ok-id.id
    c.args.frame c.args.lits.now
inputs c = record {
  inputs = c.in_ok-id.ensures.ok;
  reduction = c.in_ok-id.ensures.reduction;
  kept = c.in_ok-id.ensures.kept;
  others = c.in_ok-id.ensures.others;
  stays = c.in_ok-id.ensures.stays;
  unlinked = c.in_ok-id.ensures.unlinked;
  clauses = c.in_ok-id.ensures.clauses;
}

pub returns-clause-takes : goal.returns-clause-takes
returns-clause-takes c =
    let s = the_view c.self.inside in
    let scopes = c.args.prefix.now in
    let intact = subst (IsIntact scopes) (sym c.self.view_is) c.requires.intact in
    subst (λ (old : SearchState). TakesIn scopes old (record {
      derivation = c.input_clause.new.self;
      trail = s.trail;
      clauses = s.clauses;
      cubes = s.cubes;
      signs = c.count.new.self;
      watched = c.push.new.self.items;
      joined = s.joined;
      long = s.long;
    }) c.in_ok-id.id) c.self.view_is
    (subst (λ (signs : Memory). TakesIn scopes s (record {
      derivation = c.input_clause.new.self;
      trail = s.trail;
      clauses = s.clauses;
      cubes = s.cubes;
      signs = signs;
      watched = c.push.new.self.items;
      joined = s.joined;
      long = s.long;
    }) c.in_ok-id.id) (sym c.count.ensures)
    (takes_input growth_laws scopes s c.input_clause.new.self c.in_ok-id.field-0-0 c.in_ok-id.id
    c.args.frame c.args.lits.now (inputs c) c.push.new.self.items (more c) intact.watched intact
    (subst (λ (t : SearchState). NoneFalls (misses c.args.lits.now (rows_of t)) t) (sym c.self.view_is) c.requires.none)
    holding_laws agreeing_laws
    (subst IsTallied (sym c.self.view_is) c.requires.tallied)
    c.input_clause.ensures.rows
    (c.in_ok-id.ensures.legal c.requires.row intact.legal)))

pub returns-clause-cubes : goal.returns-clause-cubes
returns-clause-cubes c = λ none.
    let s = the_view c.self.inside in
    let scopes = c.args.prefix.now in
    let intact = subst (IsIntact scopes) (sym c.self.view_is) c.requires.intact in
    no_cubes_input growth_laws scopes s c.input_clause.new.self c.in_ok-id.field-0-0 c.in_ok-id.id
    c.args.frame c.args.lits.now (inputs c) c.push.new.self.items (more c) intact.watched
    (subst HasNoCubes (sym c.self.view_is) none)

pub returns-clause-finishes : goal.returns-clause-finishes
returns-clause-finishes c =
    subst (λ (s : SearchState). GainsNoFinish s.derivation c.input_clause.new.self) c.self.view_is
    (finishes_input c.args.prefix.now c.self.inside.derivation c.input_clause.new.self c.in_ok-id.field-0-0
    c.in_ok-id.id c.args.frame c.args.lits.now c.in_ok-id.ensures.ok)

pub returns-clause-reductions : goal.returns-clause-reductions
returns-clause-reductions c =
    subst (λ (s : SearchState). reductions_in c.input_clause.new.self ≤ reductions_in s.derivation + 1) c.self.view_is
    (reductions_input c.args.prefix.now c.self.inside.derivation c.input_clause.new.self c.in_ok-id.field-0-0
    c.in_ok-id.id c.args.frame c.args.lits.now c.in_ok-id.ensures.ok)

pub returns-clause-older : goal.returns-clause-older
returns-clause-older c =
    subst (λ (s : SearchState). KeepsOlder s.derivation c.input_clause.new.self) c.self.view_is
    (older_input c.args.prefix.now c.self.inside.derivation c.input_clause.new.self c.in_ok-id.field-0-0
    c.in_ok-id.id c.args.frame c.args.lits.now c.in_ok-id.ensures.ok)
