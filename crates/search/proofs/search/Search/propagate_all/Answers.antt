use Rattle.std.proofs.Common.{◌≡◌, Option, Some, sym, ap, subst, ◌∙◌}
use Rattle.rows.specs.Arena.{Arena}
use Rattle.derive.specs.State.{State}
use Rattle.search.specs.Forcing.{IsRefuting}
use Rattle.search.specs.Moves.{Propagates, WasDue}
use Rattle.search.specs.State.{IsSearching, SearchState}
use Rattle.search.specs.Watching.{holding}
use Rattle.search.specs.contracts.search.Search.{the_view}
use Rattle.search.proofs.Learning.{on_err}
use Rattle.search.proofs.search.Search.propagate_all.Goals as goal

-- the search with the rows that were handed out is the search
own : (s : SearchState) (rows : Arena) → Some rows ≡ s.derivation.rows
    → record s { derivation = record { notes = s.derivation.notes; rows = Some rows } } ≡ s
own s rows e = ap (λ (o : Option Arena). record s { derivation = record { notes = s.derivation.notes; rows = o } }) e

pub propagate_in-found-requires-clause-searching :
    goal.propagate_in-found-requires-clause-searching
propagate_in-found-requires-clause-searching c = (
  the_view c.self.inside,
  subst (IsSearching c.args.prefix.now)
      (sym (own (the_view c.self.inside) c.take_rows-rows.result c.take_rows-rows.ensures.rows ∙ c.self.view_is))
      c.requires.searching,
)

pub returns-clause-goes : goal.returns-clause-goes
returns-clause-goes c =
    let s = the_view c.self.inside in
    let is = own s c.take_rows-rows.result c.take_rows-rows.ensures.rows ∙ c.self.view_is in
    let back : c.put_rows.new.self ≡ record {
      notes = c.self.inside.derivation.notes;
      rows = Some c.propagate_in-found.new.rows;
    } = c.put_rows.ensures.state
    ∙ ap (λ (d : State). record { notes = d.notes; rows = Some c.propagate_in-found.new.rows })
    c.take_rows-rows.ensures.state in
    subst (λ (old : SearchState). Propagates c.args.prefix.now old
    (record (holding s c.propagate_in-found.new.watches c.propagate_in-found.new.trail c.propagate_in-found.new.rows) {
      derivation = c.put_rows.new.self;
    }) c.args.steps.now c.propagate_in-found.new.steps) is
    (subst (λ (d : State). Propagates c.args.prefix.now
    (record s { derivation = record { notes = s.derivation.notes; rows = Some c.take_rows-rows.result } })
    (record (holding s c.propagate_in-found.new.watches c.propagate_in-found.new.trail c.propagate_in-found.new.rows) {
      derivation = d;
    }) c.args.steps.now c.propagate_in-found.new.steps) (sym back)
    (c.propagate_in-found.ensures.goes s (subst (IsSearching c.args.prefix.now) (sym is) c.requires.searching)))

pub returns-clause-few : goal.returns-clause-few
returns-clause-few c =
    let s = the_view c.self.inside in
    let is = own s c.take_rows-rows.result c.take_rows-rows.ensures.rows ∙ c.self.view_is in
    on_err c.propagate_in-found.result
    (λ few matrix start refuting. few s matrix start
    (subst (IsSearching c.args.prefix.now) (sym is) c.requires.searching)
    (subst (λ (t : SearchState). IsRefuting c.args.prefix.now matrix start t c.args.steps.now) (sym is) refuting))
    c.propagate_in-found.ensures.few

pub returns-clause-due : goal.returns-clause-due
returns-clause-due c =
    let s = the_view c.self.inside in
    let is = own s c.take_rows-rows.result c.take_rows-rows.ensures.rows ∙ c.self.view_is in
    let back : c.put_rows.new.self ≡ record {
      notes = c.self.inside.derivation.notes;
      rows = Some c.propagate_in-found.new.rows;
    } = c.put_rows.ensures.state
    ∙ ap (λ (d : State). record { notes = d.notes; rows = Some c.propagate_in-found.new.rows })
    c.take_rows-rows.ensures.state in
    on_err c.propagate_in-found.result
    (λ due. subst (λ (old : SearchState). WasDue c.args.prefix.now old
    (record (holding s c.propagate_in-found.new.watches c.propagate_in-found.new.trail c.propagate_in-found.new.rows) {
      derivation = c.put_rows.new.self;
    })) is
    (subst (λ (d : State). WasDue c.args.prefix.now
    (record s { derivation = record { notes = s.derivation.notes; rows = Some c.take_rows-rows.result } })
    (record (holding s c.propagate_in-found.new.watches c.propagate_in-found.new.trail c.propagate_in-found.new.rows) {
      derivation = d;
    })) (sym back) (due s (subst (IsSearching c.args.prefix.now) (sym is) c.requires.searching))))
    c.propagate_in-found.ensures.due
