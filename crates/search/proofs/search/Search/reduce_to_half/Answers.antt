use Rattle.std.proofs.Common.{◌≡◌, ℕ, ◌+◌, ◌<◌, ◌≤◌, ◌⊎◌, ⊎_elim, length, arith, ap, sym, subst}
use Rattle.std.proofs.Math.Nat.{div-le_self}
use Rattle.std.proofs.lemmas.List.Sums.{count_by-le-length, length-filter}
use Rattle.search.specs.Forgetting.{AreLive, Clears, is_held, left_long, without_detached}
use Rattle.search.specs.State.{IsSearching, SearchState, rows_of}
use Rattle.search.proofs.Clearing.{clears_none, forgets}
use Rattle.search.proofs.Thinning.{left_live, left_searching}
use Rattle.search.proofs.Laws.{clauses_are_listed}
use Rattle.search.proofs.search.Search.reduce_to_half.Goals as goal

-- exactly so many are left
exactly : (kept reasons there old new : ℕ) → kept + reasons < old → reasons ≡ there
    → (left_long kept + reasons ≤ old → left_long kept + reasons ≤ new)
    → (new ≤ left_long kept + reasons) ⊎ (new ≤ there) → new ≡ left_long kept + there
exactly kept reasons there old new more same enough few =
    let half : left_long kept ≤ kept = div-le_self kept 2 in
    let least = enough (omega (arith, more, half)) in
    ⊎_elim (λ one. omega (arith, one, least, same)) (λ two. omega (arith, two, least, same)) few

pub returns-then-next_id-self-clause-ok : goal.returns-then-next_id-self-clause-ok
returns-then-next_id-self-clause-ok c =
    let more = c.requires.more in
    let same = c.requires.reasons in
    let searching = left_searching c.args.prefix.now c.args.self.now c.detach_oldest.new.self clauses_are_listed
    c.requires.searching c.detach_oldest.ensures.thins in
    forgets c.args.kept c.args.prefix.now c.args.self.now c.detach_oldest.new.self c.unlist_detached.new.self
    c.requires.searching
    c.detach_oldest.ensures.thins c.detach_oldest.ensures.oldest (omega (arith, more, same))
    (exactly c.args.kept c.args.reasons _ _ _ more same c.detach_oldest.ensures.enough c.detach_oldest.ensures.few)
    (subst (Clears c.args.prefix.now (without_detached c.detach_oldest.new.self)) (sym c.unlist_detached.ensures)
    (clears_none c.args.prefix.now (without_detached c.detach_oldest.new.self) searching))

pub sweep-requires-clause-searching : goal.sweep-requires-clause-searching
sweep-requires-clause-searching c =
    subst (IsSearching c.args.prefix.now) (sym c.unlist_detached-2.ensures)
    (left_searching c.args.prefix.now c.args.self.now c.detach_oldest-2.new.self clauses_are_listed
    c.requires.searching c.detach_oldest-2.ensures.thins)

pub sweep-requires-clause-watched : goal.sweep-requires-clause-watched
sweep-requires-clause-watched c =
    subst (λ (s : SearchState). AreLive s.derivation s.watched) (sym c.unlist_detached-2.ensures)
    (left_live c.args.prefix.now c.args.self.now c.detach_oldest-2.new.self clauses_are_listed
    c.requires.searching c.detach_oldest-2.ensures.thins)

pub sweep-requires-clause-room : goal.sweep-requires-clause-room
sweep-requires-clause-room c =
    let p = is_held (rows_of c.detach_oldest-2.new.self) in
    let left = ap (λ (s : SearchState). length s.watched) c.unlist_detached-2.ensures in
    let few = count_by-le-length p c.detach_oldest-2.new.self.watched in
    let count = length-filter p c.detach_oldest-2.new.self.watched in
    let same = ap length c.detach_oldest-2.ensures.thins.watched in
    let view = ap (λ (s : SearchState). length s.watched) c.self.view_is in
    let held = c.self.inside.watched.ok.0 in
    let room = c.in_ok-reserve.ensures.ok in
    let own = c.reserve.new.self.ok.0 in
    let len = c.len.ensures in
    omega (arith, left, few, count, same, view, held, room, own, len)

pub returns-clause-ok : goal.returns-clause-ok
returns-clause-ok c =
    let more = c.requires.more in
    let same = c.requires.reasons in
    forgets c.args.kept c.args.prefix.now c.args.self.now c.detach_oldest-2.new.self c.sweep.new.self
    c.requires.searching
    c.detach_oldest-2.ensures.thins c.detach_oldest-2.ensures.oldest (omega (arith, more, same))
    (exactly c.args.kept c.args.reasons _ _ _ more same c.detach_oldest-2.ensures.enough c.detach_oldest-2.ensures.few)
    (subst (λ (s : SearchState). Clears c.args.prefix.now s c.sweep.new.self) c.unlist_detached-2.ensures
    c.sweep.ensures)
