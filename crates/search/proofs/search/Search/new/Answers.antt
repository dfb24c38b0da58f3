use Rattle.std.proofs.Common.{refl, [], true, ◌≡◌}
use Rattle.search.specs.State.{SearchState, watch_of}
use Rattle.prefix.specs.declared.quant.Quant.TheVariants.{Exists, Forall}
use Rattle.watch.specs.State.{new_watch}
use Rattle.search.proofs.Growing.{resting_new}
use Rattle.search.proofs.Laws.{holding_laws}
use Rattle.search.proofs.search.Search.new.Goals as goal

pub returns-clause-resting : goal.returns-clause-resting
returns-clause-resting c =
    let new : SearchState = record {
      derivation = c.new.result;
      trail = c.new-2.result;
      clauses = c.new-3.result.clauses;
      cubes = c.new-3.result.cubes;
      signs = c.new-4.result;
      watched = c.new-5.result.items;
      joined = true;
      long = 0;
    } in
    resting_new holding_laws new (record {
      derivation = c.new.ensures.state;
      legal = c.new.ensures.legal [];
      trail = c.new-2.ensures.value;
      kept = c.new-2.ensures.kept;
      watches = λ side. elim side as (λ p. watch_of p new ≡ new_watch)
          [ Exists ↦ c.new-3.ensures.clauses | Forall ↦ c.new-3.ensures.cubes ];
      watched = c.new-5.ensures.items;
      long = refl;
    })
