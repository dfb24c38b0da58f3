use Rattle.std.proofs.Common.{refl, sym, ap, subst}
use Rattle.search.specs.State.{IsIntact, SearchState}
use Rattle.search.specs.Watching.{Joins}
use Rattle.search.specs.contracts.search.Search.{the_view}
use Rattle.search.proofs.Joining.{joins, row_known}
use Rattle.search.proofs.Laws.{holding_laws}
use Rattle.search.proofs.search.Search.attach_uncounted.Goals as goal

pub attach-requires-clause-holds : goal.attach-requires-clause-holds
attach-requires-clause-holds c =
    (subst (IsIntact c.args.prefix.now) (sym c.self.view_is) c.requires.intact).watching.holds c.side-side.result

pub attach-requires-clause-known : goal.attach-requires-clause-known
attach-requires-clause-known c =
    let intact = subst (IsIntact c.args.prefix.now) (sym c.self.view_is) c.requires.intact in
    row_known c.args.prefix.now (the_view c.self.inside) c.args.id intact
    (intact.watched.steps c.args.id (rw (ap (λ (s : SearchState). s.watched) c.self.view_is) c.requires.listed)
    (rw (ap (λ (s : SearchState). s.derivation) c.self.view_is) c.requires.live)).step c.side-side.result

pub returns-clause-joins : goal.returns-clause-joins
returns-clause-joins c =
    let old = the_view c.self.inside in
    let new : SearchState = record old {
      derivation = c.attach.new.derivation;
      clauses = c.attach.new.self.clauses;
      cubes = c.attach.new.self.cubes;
    } in
    subst (λ (s : SearchState). Joins c.args.prefix.now s new c.args.id) c.self.view_is
    (joins holding_laws c.side-side.result c.args.prefix.now old new (record {
      trail = refl;
      signs = refl;
      watched = refl;
      joined = refl;
      others = c.attach.ensures.others;
      touches = c.attach.ensures.touches;
      looked = c.attach.ensures.looked;
    })
    (subst (IsIntact c.args.prefix.now) (sym c.self.view_is) c.requires.intact)
    c.args.id
    c.attach.ensures.attached (
      rw (ap (λ (s : SearchState). s.watched) c.self.view_is) c.requires.listed,
      rw (ap (λ (s : SearchState). s.derivation) c.self.view_is) c.requires.live,
      sym c.side-side.ensures,
    )
    c.attach.ensures.holds)
