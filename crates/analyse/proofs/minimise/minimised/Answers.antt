use Rattle.std.proofs.Common.{Contains, subst, sym, ◌∙◌}
use Rattle.calculus.specs.Rows.{Row}
use Rattle.clean.proofs.Keeping.{row_stays}
use Rattle.analyse.proofs.minimise.minimised.Goals as goal

pub returns-then-is_part-clause-part : goal.returns-then-is_part-clause-part
returns-then-is_part-clause-part g c = λ l i.
    let same = row_stays c.args.derivation.now c.resolved-shorter.new.derivation
    c.resolved-shorter.ensures.counted.resolves.grows c.args.row c.requires.row.step in
    subst (λ (r : Row). Contains r l) (c.lits-2.ensures ∙ same)
    (c.is_part.ensures.part c.if-is_part.true l (subst (λ (r : Row). Contains r l) (sym c.lits.ensures) i))
