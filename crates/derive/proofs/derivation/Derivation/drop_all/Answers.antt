use Rattle.std.proofs.Common.{◌≡◌, ◌∙◌, false, ap, sym, subst, Some, arith}
use Rattle.std.specs.Option.{option_copied_mut}
use Rattle.rows.specs.Arena.{Arena}
use Rattle.derive.specs.Dropping.{Drops}
use Rattle.derive.specs.Roots.{is_root}
use Rattle.derive.specs.State.{State, note_in}
use Rattle.derive.proofs.Drops.{drops_of, kept_drop, rows_here}
use Rattle.derive.proofs.derivation.Derivation.drop_all.Goals as goal

here : (c : goal.After-self-1) → c.self.inside.rows ≡ Some c.unwrap.result.now
here c = sym c.as_mut.ensures.value ∙ ap option_copied_mut c.unwrap.ensures

pub drop_roots-requires-clause-below : goal.drop_roots-requires-clause-below
drop_roots-requires-clause-below c =
    let here : c.self.inside.rows ≡ Some c.unwrap.result.now =
    sym c.as_mut.ensures.value ∙ ap option_copied_mut c.unwrap.ensures in
    λ id note there low.
    subst (λ (a : Arena). is_root c.args.roots a id note ≡ false) (rows_here _ _ _ _ c.self.view_is here)
    (c.requires.below id note (sym (ap (λ (d : State). note_in d.notes id) c.self.view_is) ∙ there) low)

pub invariant_of-self : goal.invariant_of-self
invariant_of-self c = (
  kept_drop _ _ _ _ _ _ _ _ _ (here c) c.drop_roots.ensures c.self.invariant.0,
  (let same = c.drop_roots.ensures.same_next in let room = c.self.invariant.1 in omega arith),
)

pub returns-clause-drops : goal.returns-clause-drops
returns-clause-drops c =
    subst (λ (a : Arena). Drops (is_root c.args.roots a) c.args.self.now (record {
      notes = c.drop_roots.new.notes;
      rows = Some c.drop_roots.new.rows;
    })) (sym (rows_here _ _ _ _ c.self.view_is (here c)))
    (drops_of _ _ _ _ _ _ _ c.self.view_is (here c) c.drop_roots.ensures)
