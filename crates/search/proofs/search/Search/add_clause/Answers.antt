use Rattle.std.proofs.Common.{◌≡◌, ◌≤◌, ℕ, subst, arith}
use Rattle.prefix.specs.declared.quant.Quant.TheVariants.{Forall}
use Rattle.derive.specs.Cubes.{misses}
use Rattle.derive.specs.Dropping.{Falls}
use Rattle.derive.specs.State.{side_at}
use Rattle.search.specs.State.{SearchState, rows_of}
use Rattle.search.proofs.Aging.{older_same, older_then}
use Rattle.search.proofs.Inputs.{no_cubes_same, resting_joined}
use Rattle.search.proofs.Reducing.{reductions_same}
use Rattle.search.proofs.Shedding.{falls_before, none_reached}
use Rattle.search.proofs.search.Search.add_clause.Goals as goal

pub input-requires-clause-none : goal.input-requires-clause-none
input-requires-clause-none c =
    let old = c.args.self.now in
    let now = c.detach_from.new.self in
    let clause = c.args.lits.now in
    let falls = subst (λ (s : SearchState). (id : ℕ) → Falls (misses clause (rows_of s)) s.derivation.notes id
    → (c.missing_from-from.result ≤ id) × (side_at s.derivation id ≡ Forall)) c.self.view_is
    c.missing_from-from.ensures in
    none_reached (misses clause (rows_of now)) (λ id. side_at old.derivation id ≡ Forall) now c.missing_from-from.result
    c.detach_from.ensures.free
    (λ id fell. falls id (falls_before old.derivation now.derivation c.detach_from.ensures.sheds.steps clause id fell))

pub returns-clause-older : goal.returns-clause-older
returns-clause-older c =
    older_then c.args.self.now.derivation c.input.new.self.derivation c.attach.new.self.derivation
    (older_then c.args.self.now.derivation c.detach_from.new.self.derivation c.input.new.self.derivation
    (older_same c.args.self.now.derivation c.detach_from.new.self.derivation c.detach_from.ensures.sheds.steps)
    c.input.ensures.older)
    (older_same c.input.new.self.derivation c.attach.new.self.derivation c.attach.ensures.joins.steps)

pub returns-clause-resting : goal.returns-clause-resting
returns-clause-resting c =
    resting_joined c.args.prefix.now c.args.self.now c.detach_from.new.self c.input.new.self c.attach.new.self
    c.in_ok-id.id c.detach_from.ensures.sheds c.in_ok-id.ensures.takes c.attach.ensures.joins c.attach.ensures.tallied
    c.requires.resting

pub returns-clause-cubes : goal.returns-clause-cubes
returns-clause-cubes c = λ none.
    no_cubes_same c.input.new.self c.attach.new.self
    (c.in_ok-id.ensures.cubes (no_cubes_same c.args.self.now c.detach_from.new.self none
    c.detach_from.ensures.sheds.steps c.detach_from.ensures.sheds.watched))
    c.attach.ensures.joins.steps c.attach.ensures.joins.watched

pub returns-clause-reductions : goal.returns-clause-reductions
returns-clause-reductions c =
    let before = reductions_same c.args.self.now.derivation c.detach_from.new.self.derivation
    c.detach_from.ensures.sheds.steps in
    let few = c.input.ensures.reductions in
    let after = reductions_same c.input.new.self.derivation c.attach.new.self.derivation c.attach.ensures.joins.steps in
    omega (arith, before, few, after)
