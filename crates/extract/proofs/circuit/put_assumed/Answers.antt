use Rattle.std.proofs.Common.{◌≡◌, arith, sym, ap, ◌∙◌, is_some, None}
use Rattle.std.proofs.lemmas.List.{take_all}
use Rattle.calculus.proofs.RowLemmas.{none_from}
use Rattle.extract.specs.Tables.{edge_of}
use Rattle.extract.proofs.Filled.{assumed_step, assumed_pass}
use Rattle.extract.proofs.circuit.put_assumed.Goals as goal

pub loop-lit-preserved : goal.loop-lit-preserved
loop-lit-preserved c =
    let none : edge_of c.loop-lit.table.items c.var.result ≡ None =
    none_from (edge_of c.loop-lit.table.items c.var.result)
    (ap is_some (sym c.edge_at.ensures) ∙ sym c.is_some.ensures ∙ c.if-is_some.false) in
    assumed_step c.args.assumptions.now c.loop-lit.lit-index c.args.table.now.items c.loop-lit.table.items
    c.put_edge.new.table.items c.lit-item.result c.var-in-loop-lit.result c.var.result c.is_positive.result
    c.constant.result (omega arith) c.loop-lit.invariant c.lit-item.is c.var.ensures c.var-in-loop-lit.ensures
    c.is_positive.ensures none c.in_ok-put_edge.ensures c.constant.ensures.value c.constant.ensures.stands
    c.constant.ensures.edge

pub loop-lit-preserved-then-is_some : goal.loop-lit-preserved-then-is_some
loop-lit-preserved-then-is_some c =
    assumed_pass c.args.assumptions.now c.loop-lit.lit-index c.args.table.now.items c.loop-lit.table.items
    c.lit-item.result c.var.result (omega arith) c.loop-lit.invariant c.lit-item.is c.var.ensures
    (ap is_some (sym c.edge_at.ensures) ∙ sym c.is_some.ensures ∙ c.if-is_some.true)

pub returns-clause-covers : goal.returns-clause-covers
returns-clause-covers c x b is =
    c.loop-lit.invariant.covers x b (rw (take_all c.loop-lit.lit-index c.args.assumptions.now (omega arith)) is)
