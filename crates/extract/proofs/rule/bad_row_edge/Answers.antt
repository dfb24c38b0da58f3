use Rattle.std.proofs.Common.{◌≡◌, ◌+◌, ◌++◌, ◌∷◌, [], take, arith, ap, sym, ◌∙◌}
use Rattle.std.proofs.lemmas.List.{take_more}
use Rattle.prefix.specs.Literal.{Literal}
use Rattle.extract.proofs.Rules.{row_more}
use Rattle.extract.proofs.rule.bad_row_edge.Goals as goal

pub loop-lit-preserved : goal.loop-lit-preserved
loop-lit-preserved c =
    let row = take c.loop-lit.lit-index c.args.lits.now in
    let more : take (c.loop-lit.lit-index + 1) c.args.lits.now ≡ row ++ c.lit-item.result ∷ [] =
    take_more c.args.lits.now c.loop-lit.lit-index c.lit-item.result (omega arith)
    ∙ ap (λ (m : Literal). row ++ m ∷ []) (sym c.lit-item.is) in
    rw more (row_more c.args.pivot c.args.aig.now c.loop-lit.aig c.and.new.self c.args.table.now.items row
    c.lit-item.result c.loop-lit.all c.bad_edge.result c.in_ok-all.all c.requires.edges c.loop-lit.invariant
    (λ i v a. c.bad_edge.ensures.value c.loop-lit.aig i v a) c.in_ok-all.ensures.value c.in_ok-all.ensures.stands
    c.in_ok-all.ensures.grows c.in_ok-all.ensures.size)
