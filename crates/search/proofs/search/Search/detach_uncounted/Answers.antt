use Rattle.std.proofs.Common.{refl, sym, subst}
use Rattle.search.specs.State.{IsIntact, SearchState}
use Rattle.search.specs.Watching.{Parts}
use Rattle.search.specs.contracts.search.Search.{the_view}
use Rattle.search.proofs.Joining.{parts}
use Rattle.search.proofs.Laws.{holding_laws}
use Rattle.search.proofs.search.Search.detach_uncounted.Goals as goal

pub detach-requires-clause-threaded : goal.detach-requires-clause-threaded
detach-requires-clause-threaded c =
    ((subst (IsIntact c.requires.intact.0) (sym c.self.view_is) c.requires.intact.1).watching.holds
    c.side-side.result).kept.board

pub returns-clause-parts : goal.returns-clause-parts
returns-clause-parts c =
    let old = the_view c.self.inside in
    let new : SearchState = record old {
      derivation = c.detach.new.derivation;
      clauses = c.detach.new.self.clauses;
      cubes = c.detach.new.self.cubes;
    } in
    subst (λ (s : SearchState). Parts s new c.args.id) c.self.view_is
    (parts holding_laws c.side-side.result c.requires.intact.0 old new (record {
      trail = refl;
      signs = refl;
      watched = refl;
      joined = refl;
      others = c.detach.ensures.others;
      touches = c.detach.ensures.touches;
      looked = c.detach.ensures.looked;
    })
    (subst (IsIntact c.requires.intact.0) (sym c.self.view_is) c.requires.intact.1)
    c.args.id
    c.detach.ensures.detached
    (sym c.side-side.ensures)
    c.detach.ensures.holds)
