use Rattle.std.proofs.Common.{◌≡◌, ◌≤◌, ℕ, true, sym, subst}
use Rattle.prefix.specs.declared.quant.Quant.TheVariants.{Exists, Forall}
use Rattle.derive.specs.Dropping.{Falls, NoneOutsideBelow, is_outside, mentions, names}
use Rattle.derive.specs.State.{row_of, side_at}
use Rattle.search.specs.State.{SearchState, rows_of}
use Rattle.search.proofs.Shedding.{names_fall_before, none_below_same, none_of_both, sheds_then}
use Rattle.search.proofs.search.Search.detach_outside.Goals as goal

pub detach_from-requires-2-clause-intact : goal.detach_from-requires-2-clause-intact
detach_from-requires-2-clause-intact c = (
  c.requires.intact.0,
  c.detach_from.ensures.sheds.intact c.requires.intact.0 c.requires.intact.1,
)

pub outside_from-cubes-requires-clause-below : goal.outside_from-cubes-requires-clause-below
outside_from-cubes-requires-clause-below c =
    subst (λ (s : SearchState). NoneOutsideBelow c.args.prefix.now c.args.from s.derivation) (sym c.self-2.view_is)
    (none_below_same c.args.self.now.derivation c.detach_from.new.self.derivation c.detach_from.ensures.sheds.steps
    c.args.prefix.now c.args.from c.requires.below)

pub returns-clause-sheds : goal.returns-clause-sheds
returns-clause-sheds c =
    let outside = is_outside c.args.prefix.now in
    let old = c.args.self.now.derivation in
    let now = c.detach_from.new.self.derivation in
    let same = c.detach_from.ensures.sheds.steps in
    sheds_then (λ id. mentions outside (row_of old id) ≡ true) (λ id. mentions outside (row_of now id) ≡ true)
    c.args.self.now c.detach_from.new.self c.detach_from-2.new.self c.detach_from.ensures.sheds
    c.detach_from-2.ensures.sheds
    (λ id named. subst (λ row. mentions outside row ≡ true) (same.literals id) named)

pub returns-clause-none : goal.returns-clause-none
returns-clause-none c =
    let outside = is_outside c.args.prefix.now in
    let old = c.args.self.now in
    let mid = c.detach_from.new.self in
    let new = c.detach_from-2.new.self in
    let first = subst (λ (s : SearchState). (id : ℕ) → Falls (names outside (rows_of s)) s.derivation.notes id
    → side_at s.derivation id ≡ Exists → c.outside_from-clauses.result ≤ id) c.self.view_is
    c.outside_from-clauses.ensures in
    let second = subst (λ (s : SearchState). (id : ℕ) → Falls (names outside (rows_of s)) s.derivation.notes id
    → side_at s.derivation id ≡ Forall → c.outside_from-cubes.result ≤ id) c.self-2.view_is
    c.outside_from-cubes.ensures in
    none_of_both c.requires.intact.0 old mid new _ _ c.outside_from-clauses.result c.outside_from-cubes.result
    (names outside (rows_of old)) (names outside (rows_of mid)) (names outside (rows_of new)) c.requires.intact.1
    c.detach_from.ensures.sheds c.detach_from-2.ensures.sheds first second c.detach_from.ensures.free
    c.detach_from-2.ensures.free
    (names_fall_before mid.derivation new.derivation c.detach_from-2.ensures.sheds.steps outside)
    (names_fall_before old.derivation mid.derivation c.detach_from.ensures.sheds.steps outside)
