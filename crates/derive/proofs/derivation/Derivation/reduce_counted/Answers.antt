use Rattle.std.proofs.Common.{◌≡◌, ◌∙◌, ap₂, sym, refl, inl, Option, Some, None, is_some, true}
use Rattle.calculus.specs.Rows.{Row, reduce}
use Rattle.derive.specs.State.{Note, may_be_antecedent, note_at, row_of, side_at}
use Rattle.derive.proofs.Additions.{removes_none}
use Rattle.derive.proofs.Legality.{legal_reduction}
use Rattle.derive.proofs.Removals.{reduced_whole}
use Rattle.derive.proofs.derivation.Derivation.reduce_counted.Goals as goal

reduced : (c : goal.After-as_slice) → c.as_slice.result.now ≡ reduce (side_at c.args.self.now c.args.a)
    c.args.prefix.now (row_of c.args.self.now c.args.a)
reduced c = c.as_slice.ensures ∙ c.in_ok-reduce_of.ensures ∙ ap₂ (λ side (row : Row). reduce side c.args.prefix.now row)
    c.side.ensures c.lits.ensures

pub add_removal-requires-clause-part : goal.add_removal-requires-clause-part
add_removal-requires-clause-part c e = reduced_whole (side_at c.args.self.now c.args.a) c.args.prefix.now
    (row_of c.args.self.now c.args.a) _ (reduced c) e

step_live : (o : Option Note) → may_be_antecedent o ≡ true → is_some o ≡ true
step_live None h = h
step_live (Some n) h = refl

pub returns-then-is_reduced-clause-ok : goal.returns-then-is_reduced-clause-ok
returns-then-is_reduced-clause-ok c =
    let s = c.args.self.now in
    removes_none s c.args.a _ _ c.requires.rows (step_live (note_at s c.args.a) c.requires.step)
    (c.is_reduced.ensures.0 c.if-is_reduced.true)

pub returns-then-is_reduced-clause-step : goal.returns-then-is_reduced-clause-step
returns-then-is_reduced-clause-step c =
    record {
      step = c.requires.step;
      has_side = refl;
      has_row = sym (c.is_reduced.ensures.0 c.if-is_reduced.true);
      has_tag = refl;
    }

pub returns-then-is_reduced-clause-counted : goal.returns-then-is_reduced-clause-counted
returns-then-is_reduced-clause-counted c = inl (c.is_reduced.ensures.0 c.if-is_reduced.true, refl)

pub returns-clause-legal : goal.returns-clause-legal
returns-clause-legal c = λ legal.
    let s = c.args.self.now in
    let is : c.as_slice.result.now ≡ reduce (side_at s c.args.a) c.args.prefix.now (row_of s c.args.a) =
    c.as_slice.ensures ∙ c.in_ok-reduce_of.ensures ∙ ap₂ (λ side (row : Row). reduce side c.args.prefix.now row)
    c.side.ensures c.lits.ensures in
    legal_reduction c.args.prefix.now _ _ c.in_ok-add_removal.field-0 c.args.a c.requires.step
    (rw is at c.in_ok-add_removal.ensures.ok) legal
