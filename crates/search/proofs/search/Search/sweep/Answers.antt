use Rattle.std.proofs.Common.{ℕ, List, Contains, length, ap, sym, subst, ◌∙◌, ⊎_elim, arith}
use Rattle.std.proofs.lemmas.List.Elements.{Contains-append_cases}
use Rattle.search.specs.Forgetting.{AreLive, Clears, HaveAllReasons}
use Rattle.search.specs.State.{IsSearching, SearchState}
use Rattle.search.specs.contracts.search.Search.{the_view}
use Rattle.search.proofs.Clearing.{cleared, extended}
use Rattle.search.proofs.Laws.{agreeing_laws, holding_laws}
use Rattle.search.proofs.search.Search.sweep.Goals as goal

pub sweep-requires-clause-live : goal.sweep-requires-clause-live
sweep-requires-clause-live c = λ id at.
    let s = the_view c.self.inside in
    let same = ap (λ (s : SearchState). length s.watched) c.self.view_is in
    let room = c.requires.room in
    let have = c.deref.ensures.len in
    let kept = c.args.keep.now.ok.0 in
    let is = extended _ _ _ _ _ c.extend_from_slice.ensures.items
    (c.extend_from_slice.ensures.succeeds (omega (arith, same, room, have, kept))) c.deref.ensures.value in
    ⊎_elim
    (λ one. subst (λ (t : SearchState). AreLive t.derivation c.args.keep.now.items) (sym c.self.view_is)
    c.requires.live id one)
    (λ two. subst (λ (t : SearchState). AreLive t.derivation t.watched) (sym c.self.view_is) c.requires.watched id two)
    (Contains-append_cases c.args.keep.now.items s.watched id
    (subst (λ (ids : List ℕ). Contains ids id) (c.deref-2.ensures.value ∙ is) at))

pub returns : goal.returns
returns c =
    let s = the_view c.self.inside in
    let e = c.sweep.ensures in
    let same = ap (λ (s : SearchState). length s.watched) c.self.view_is in
    let room = c.requires.room in
    let have = c.deref.ensures.len in
    let kept = c.args.keep.now.ok.0 in
    let is = extended _ _ _ _ _ c.extend_from_slice.ensures.items
    (c.extend_from_slice.ensures.succeeds (omega (arith, same, room, have, kept))) c.deref.ensures.value in
    let searching = subst (IsSearching c.args.prefix.now) (sym c.self.view_is) c.requires.searching in
    subst (λ (t : SearchState). Clears c.args.prefix.now t (record s { derivation = c.sweep.new.self })) c.self.view_is
    (cleared holding_laws agreeing_laws c.args.prefix.now s c.sweep.new.self
    c.args.keep.now.items c.deref-2.result.now searching
    (subst (λ (t : SearchState). AreLive t.derivation t.watched) (sym c.self.view_is) c.requires.watched)
    (c.deref-2.ensures.value ∙ is)
    (subst (λ (t : SearchState). HaveAllReasons t.derivation t.trail.placed c.args.keep.now.items)
    (sym c.self.view_is) c.requires.reasons)
    e.sweeps e.drops.0 e.drops.1 e.kept e.clauses
    (e.legal c.args.prefix.now searching.paused.intact.legal))
