use Rattle.std.proofs.Common.{inl, inr, sym, ◌∙◌, ap₂}
use Rattle.calculus.specs.Rows.{Row}
use Rattle.clean.specs.Staying.{has_as_deep}
use Rattle.clean.proofs.Staying.{turn_whole}
use Rattle.derive.specs.State.{row_of}
use Rattle.clean.proofs.reach.stays_reduced.Goals as goal

pub returns-then-reaches : goal.returns-then-reaches
returns-then-reaches g c =
    let may = c.requires.resolvable in
    λ _. turn_whole g.S.Side.PIVOT c.args.prefix.now (row_of c.args.derivation.now c.args.row)
    (row_of c.args.derivation.now c.args.reason) c.args.lit may.row_reduced may.reason_reduced may.stands may.opposes
    may.pivot_type
    (inl (ap₂ (λ x (r : Row). has_as_deep g.S.Side.PIVOT c.args.prefix.now x r) (sym c.var.ensures) (sym c.lits.ensures)
    ∙ (sym c.reaches.ensures ∙ c.if-reaches.true)))

pub returns-else-reaches : goal.returns-else-reaches
returns-else-reaches g c =
    let may = c.requires.resolvable in
    λ t. turn_whole g.S.Side.PIVOT c.args.prefix.now (row_of c.args.derivation.now c.args.row)
    (row_of c.args.derivation.now c.args.reason) c.args.lit may.row_reduced may.reason_reduced may.stands may.opposes
    may.pivot_type
    (inr (ap₂ (λ x (r : Row). has_as_deep g.S.Side.PIVOT c.args.prefix.now x r) (sym c.var-else-reaches.ensures)
    (sym c.lits-else-reaches.ensures) ∙ (sym c.reaches-else-reaches.ensures ∙ t)))
