use Rattle.std.proofs.Common.{[], ◌∷◌, ap, ◌∙◌, ◌++◌}
use Rattle.qcir.specs.Building.{literal_when}
use Rattle.qcir.specs.Translation.{rows_of}
use Rattle.qcir.proofs.Putting.{map_step}
use Rattle.qcir.proofs.matrix.put_pairs.Goals as goal

pub loop-lit-preserved : goal.loop-lit-preserved
loop-lit-preserved c =
    map_step (λ x. c.args.first ∷ literal_when c.args.kept x ∷ []) c.args.lits.now c.loop-lit.lit-index
    c.lit-item.result c.args.rows.now.items c.loop-lit.rows.items c.put.new.rows.items c.loop-lit-test.true
    c.lit-item.is c.loop-lit.invariant
    (c.in_ok-put.ensures ∙ ap (λ l. c.loop-lit.rows.items ++ rows_of ((c.args.first ∷ l ∷ []) ∷ [])) c.when.ensures)
