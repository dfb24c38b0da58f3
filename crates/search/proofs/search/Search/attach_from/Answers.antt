use Rattle.std.proofs.Common.{◌≡◌, ◌<◌, ℕ, List, length, get_or, true, ap, sym, subst, ◌∙◌, arith}
use Rattle.derive.specs.State.{is_live}
use Rattle.search.specs.State.{SearchState}
use Rattle.search.proofs.Entering.{joined_to_end, joined_to_next, joined_to_none, stands_behind}
use Rattle.search.proofs.Marks.{live_same}
use Rattle.search.proofs.search.Search.attach_from.Goals as goal

pub loop-k-init : goal.loop-k-init
loop-k-init c = joined_to_none c.args.prefix.now c.args.self.now c.args.place c.requires.intact c.requires.tallied

pub attach_at-requires-clause-within : goal.attach_at-requires-clause-within
attach_at-requires-clause-within c =
    let test = c.loop-k-test.true in
    let end = c.len-k-end.ensures in
    let held = c.self.inside.watched.ok.0 in
    let is = ap (λ (s : SearchState). length s.watched) c.self.view_is in
    let same = ap (λ (ids : List ℕ). length ids) c.loop-k.invariant.watched in
    omega (arith, test, end, held, is, same)

pub attach_at-requires-clause-live : goal.attach_at-requires-clause-live
attach_at-requires-clause-live c =
    let test = c.loop-k-test.true in
    let end = c.len-k-end.ensures in
    let held = c.self.inside.watched.ok.0 in
    let is = ap (λ (s : SearchState). length s.watched) c.self.view_is in
    let within : c.loop-k.k < length c.args.self.now.watched = omega (arith, test, end, held, is) in
    live_same c.args.self.now.derivation c.loop-k.self.derivation c.loop-k.invariant.steps
    (get_or c.loop-k.self.watched c.loop-k.k 0)
    ∙ subst (λ (ids : List ℕ). is_live c.args.self.now.derivation (get_or ids c.loop-k.k 0) ≡ true)
    (sym c.loop-k.invariant.watched)
    (c.requires.live (get_or c.args.self.now.watched c.loop-k.k 0)
    (stands_behind c.args.self.now.watched c.args.place c.loop-k.k c.loop-k.auto.k within))

pub loop-k-preserved : goal.loop-k-preserved
loop-k-preserved c = joined_to_next c.args.prefix.now c.args.self.now c.loop-k.self c.attach_at.new.self c.args.place
    c.loop-k.k c.loop-k.invariant c.attach_at.ensures.joins c.attach_at.ensures.tallied

pub returns : goal.returns
returns c =
    let test = c.loop-k-test.false in
    let end = c.len-k-end.ensures in
    let held = c.self.inside.watched.ok.0 in
    let is = ap (λ (s : SearchState). length s.watched) c.self.view_is in
    joined_to_end c.args.prefix.now c.args.self.now c.loop-k.self c.args.place c.loop-k.k c.loop-k.invariant
    (omega (arith, test, end, held, is))
