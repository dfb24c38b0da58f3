use Rattle.std.proofs.Common.{◌≤◌, ℕ, List, length, arith, sym, subst, Contains}
use Rattle.search.specs.State.{IsIntact, IsTallied, SearchState}
use Rattle.search.specs.contracts.search.Search.{the_view}
use Rattle.search.proofs.Listing.{intact_left, joined_all, joined_more, joined_none, was_before}
use Rattle.search.proofs.search.Search.attach_listed.Goals as goal

pub loop-k-init : goal.loop-k-init
loop-k-init c =
    let s = the_view c.self.inside in
    let ids = c.unlist_dropped.new.watched.items in
    joined_none c.args.prefix.now _ (intact_left c.args.prefix.now s ids c.unlist_dropped.ensures
    (subst (IsIntact c.args.prefix.now) (sym c.self.view_is) c.requires.intact))
    (subst IsTallied (sym c.self.view_is) c.requires.tallied)
    (λ id at. (was_before c.args.prefix.now s ids c.unlist_dropped.ensures id at).1)

pub loop-k-preserved : goal.loop-k-preserved
loop-k-preserved c = joined_more c.args.prefix.now _ c.loop-k.self c.attach_at.new.self c.loop-k.k c.loop-k.invariant
    c.attach_at.ensures.joins c.attach_at.ensures.tallied

pub returns-clause-paused : goal.returns-clause-paused
returns-clause-paused c =
    let s = the_view c.self.inside in
    let start : SearchState = record s { watched = c.unlist_dropped.new.watched.items } in
    let held = c.unlist_dropped.new.watched.ok.0 in
    let past : length start.watched ≤ c.loop-k.k = omega (arith, held) in
    joined_all c.args.prefix.now start c.loop-k.self c.loop-k.self.joined c.loop-k.k c.loop-k.invariant past

pub returns-clause-part : goal.returns-clause-part
returns-clause-part c = λ id at.
    let s = the_view c.self.inside in
    let ids = c.unlist_dropped.new.watched.items in
    let here : Contains ids id = subst (λ (ws : List ℕ). Contains ws id) c.loop-k.invariant.over.watched at in
    subst (λ (t : SearchState). Contains t.watched id) c.self.view_is
    (was_before c.args.prefix.now s ids c.unlist_dropped.ensures id here).0
