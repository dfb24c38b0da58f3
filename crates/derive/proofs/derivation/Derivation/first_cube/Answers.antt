use Rattle.std.proofs.Common.{ℕ, Option, unwrap_or, [], ◌≡◌, ◌≤◌, ◌<◌, ⊎_elim, sym, subst, ap}
use Rattle.std.proofs.lemmas.Bool.{cases_lt}
use Rattle.prefix.specs.declared.quant.Quant.TheVariants.{Forall}
use Rattle.rows.specs.Arena.{Arena}
use Rattle.derive.specs.Cubes.{AreCubes}
use Rattle.derive.specs.Dropping.{Falls}
use Rattle.derive.specs.Roots.{is_root}
use Rattle.derive.specs.State.{State, arena_of, side_at}
use Rattle.derive.proofs.Falling.{none_below}
use Rattle.derive.proofs.Missed.{falls_as_cube}
use Rattle.derive.proofs.derivation.Derivation.first_cube.Goals as goal

pub first_cube-requires-clause-cubes : goal.first_cube-requires-clause-cubes
first_cube-requires-clause-cubes c =
    subst (λ (a : Arena). AreCubes (is_root c.args.roots.now a))
    (ap (λ (o : Option Arena). unwrap_or o []) c.rows.ensures.value) c.requires.cubes

pub returns : goal.returns
returns c =
    let arena = c.rows.result.now in
    let first = c.first_cube.result in
    let kept = c.self.invariant.0 in
    let rows : arena_of c.args.self.now ≡ arena = ap (λ (o : Option Arena). unwrap_or o []) c.rows.ensures.value in
    let test = is_root c.args.roots.now arena in
    let cubes : AreCubes test = subst (λ (a : Arena). AreCubes (is_root c.args.roots.now a)) rows c.requires.cubes in
    subst (λ (a : Arena). (id : ℕ) → Falls (is_root c.args.roots.now a) c.args.self.now.notes id
    → (first ≤ id) × (side_at c.args.self.now id ≡ Forall)) (sym rows)
    (subst (λ (s : State). (id : ℕ) → Falls test s.notes id → (first ≤ id) × (side_at s id ≡ Forall))
    c.self.view_is
    (λ id falls. (
      ⊎_elim
          (λ (low : id < first). absurd (none_below test c.self.inside.notes first kept.supported
          c.first_cube.ensures id low falls))
          (λ (high : first ≤ id). high)
          (cases_lt id first),
      falls_as_cube test c.self.inside.notes cubes kept.supported id falls,
    )))
