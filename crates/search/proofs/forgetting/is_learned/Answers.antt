use Rattle.std.proofs.Common.{is_some, refl, sym, ap, subst, ◌∙◌}
use Rattle.calculus.specs.Derivations.{RestsOn}
use Rattle.derive.specs.State.{side_at, why_at}
use Rattle.search.proofs.Told.{told_reduced}
use Rattle.search.proofs.forgetting.is_learned.Goals as goal

pub is_input-requires : goal.is_input-requires
is_input-requires c =
    let d = c.args.derivation.now in
    let is = told_reduced (side_at d c.args.id) (why_at d c.args.id) c.in-Reduced.a
    (sym c.step.ensures.value ∙ c.in-Reduced.is) in
    ap is_some (c.step.ensures.antecedents c.in-Reduced.a
    (subst (λ w. RestsOn w c.in-Reduced.a) (sym is) refl)).there
