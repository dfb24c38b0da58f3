use Rattle.std.proofs.Common.{ℕ, Option, unwrap_or, [], ◌≡◌, ◌≤◌, sym, subst, ap}
use Rattle.rows.specs.Arena.{Arena}
use Rattle.derive.specs.Dropping.{Falls, is_outside, names}
use Rattle.derive.specs.State.{State, arena_of, side_at}
use Rattle.derive.proofs.Leaving.{falls_no_earlier, none_noted}
use Rattle.derive.proofs.derivation.Derivation.outside_from.Goals as goal

pub returns : goal.returns
returns c =
    let test = is_outside c.args.prefix.now in
    let arena = c.rows.result.now in
    let first = c.first_outside.result in
    let notes = c.self.inside.notes in
    let rows : arena_of c.args.self.now ≡ arena = ap (λ (o : Option Arena). unwrap_or o []) c.rows.ensures.value in
    subst (λ (a : Arena). (id : ℕ) → Falls (names test a) c.args.self.now.notes id
    → side_at c.args.self.now id ≡ c.args.side → first ≤ id) (sym rows)
    (subst (λ (s : State). (id : ℕ) → Falls (names test arena) s.notes id → side_at s id ≡ c.args.side → first ≤ id)
    c.self.view_is
    (falls_no_earlier test arena notes c.args.side c.args.from first c.self.invariant.0.supported
    (none_noted c.args.prefix.now c.args.from c.args.self.now notes arena
    (ap (λ (s : State). s.notes) c.self.view_is) rows c.requires.below)
    c.first_outside.ensures))
