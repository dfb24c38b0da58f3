use Rattle.std.proofs.Common.{sym, ap, ◌∙◌, is_some}
use Rattle.std.proofs.lemmas.Result.{on_ok_weaker}
use Rattle.calculus.proofs.RowLemmas.{none_from}
use Rattle.step_core.specs.Cores.{core_rows}
use Rattle.extract.specs.Tables.{edge_of}
use Rattle.extract.proofs.Filled.{turn_edges}
use Rattle.extract.proofs.circuit.put_rule.Goals as goal

pub rule_edge-requires-clause-ready : goal.rule_edge-requires-clause-ready
rule_edge-requires-clause-ready c =
    c.requires.ready (none_from (edge_of c.args.table.now.items c.args.v)
    (ap is_some (sym c.edge_at.ensures) ∙ sym c.is_some.ensures ∙ c.if-is_some.false))

pub returns-clause-edges : goal.returns-clause-edges
returns-clause-edges c =
    on_ok_weaker c.put_edge.result (λ puts. turn_edges c.args.pivot
    (core_rows c.args.core.now.lines) c.args.index.now.items c.args.v c.rule_edge.new.aig c.args.table.now.items
    c.put_edge.new.table.items _ (none_from (edge_of c.args.table.now.items c.args.v)
    (ap is_some (sym c.edge_at.ensures) ∙ sym c.is_some.ensures ∙ c.if-is_some.false)) c.in_ok-e.ensures.value puts)
    c.put_edge.ensures
