use Rattle.std.proofs.Common.{◌≡◌, ◌∙◌, ap, sym, subst, Some, arith}
use Rattle.std.specs.Option.{option_copied_mut}
use Rattle.rows.specs.Arena.{Arena}
use Rattle.derive.specs.Antecedents.{AreSupported}
use Rattle.derive.specs.Cubes.{AreCubes}
use Rattle.derive.specs.Dropping.{Drops}
use Rattle.derive.specs.Roots.{is_root}
use Rattle.derive.specs.State.{State}
use Rattle.derive.proofs.Drops.{kept_drop, kept_listed, drops_of, rows_here}
use Rattle.derive.proofs.derivation.Derivation.drop_cubes.Goals as goal

here : (c : goal.After-self-1) → c.self.inside.rows ≡ Some c.unwrap.result.now
here c = sym c.as_mut.ensures.value ∙ ap option_copied_mut c.unwrap.ensures

pub drop_cubes-requires-clause-cubes : goal.drop_cubes-requires-clause-cubes
drop_cubes-requires-clause-cubes c =
    let here : c.self.inside.rows ≡ Some c.unwrap.result.now =
    sym c.as_mut.ensures.value ∙ ap option_copied_mut c.unwrap.ensures in
    subst (λ (a : Arena). AreCubes (is_root c.args.roots.now a))
    (rows_here _ _ _ _ c.self.view_is here) c.requires.cubes

pub invariant_of-self : goal.invariant_of-self
invariant_of-self c = (
  kept_listed _ _ _ _ _ _ c.drop_cubes.ensures.listed
      (kept_drop _ _ _ _ _ _ _ _ _ (here c) c.drop_cubes.ensures.drops c.self.invariant.0),
  (let same = c.drop_cubes.ensures.drops.same_next in let room = c.self.invariant.1 in omega arith),
)

pub returns-clause-drops : goal.returns-clause-drops
returns-clause-drops c =
    subst (λ (a : Arena). Drops (is_root c.args.roots.now a) c.args.self.now (record {
      notes = c.drop_cubes.new.notes;
      rows = Some c.drop_cubes.new.rows;
    })) (sym (rows_here _ _ _ _ c.self.view_is (here c)))
    (drops_of _ _ _ _ _ _ _ c.self.view_is (here c) c.drop_cubes.ensures.drops)

pub returns-clause-supported : goal.returns-clause-supported
returns-clause-supported c = subst (λ (d : State). AreSupported d.notes) c.self.view_is c.self.invariant.0.supported
