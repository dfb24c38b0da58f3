use Rattle.std.proofs.Common.{refl, sym, ◌∙◌}
use Rattle.reduce.proofs.Reducing.{all_pivots, keeps_where}
use Rattle.reduce.proofs.reduction.is_reduced.Goals as goal

pub returns-in-Some : goal.returns-in-Some
returns-in-Some g c =
    let both = keeps_where g.S.Side.PIVOT c.args.prefix.now c.args.lits.now c.in-Some.depth c.in-Some.ensures in
    (λ t. both.0 (sym c.keeps_all.ensures ∙ t), λ e. c.keeps_all.ensures ∙ both.1 e)

pub returns-in-None : goal.returns-in-None
returns-in-None g c =
    (λ e. all_pivots g.S.Side.PIVOT c.args.prefix.now c.args.lits.now c.in-None.ensures, λ e. refl)
