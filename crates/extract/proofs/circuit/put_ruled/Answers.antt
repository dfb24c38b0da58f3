use Rattle.std.proofs.Common.{◌≡◌, get_or, arith, ◌∙◌}
use Rattle.std.proofs.lemmas.List.{take_all, get_or_default}
use Rattle.step_core.specs.Cores.{core_rows}
use Rattle.extract.proofs.Filled.{ready_now, ruled_more}
use Rattle.extract.proofs.circuit.put_ruled.Goals as goal

pub put_rule-requires-clause-ready : goal.put_rule-requires-clause-ready
put_rule-requires-clause-ready c =
    let same : c.v-item.result ≡ get_or c.args.vars.now c.loop-v.v-index 0 = c.v-item.is
    ∙ get_or_default c.args.vars.now c.loop-v.v-index _ 0 (omega arith) in
    rw same (ready_now c.args.pivot (core_rows c.args.core.now.lines) c.args.index.now.items c.args.vars.now
    c.loop-v.v-index c.args.table.now.items c.args.aig.now c.loop-v.aig c.loop-v.table.items
    (omega arith) c.requires.ready c.loop-v.invariant.0)

pub loop-v-preserved : goal.loop-v-preserved
loop-v-preserved c =
    let same : c.v-item.result ≡ get_or c.args.vars.now c.loop-v.v-index 0 = c.v-item.is
    ∙ get_or_default c.args.vars.now c.loop-v.v-index _ 0 (omega arith) in
    let turn = c.in_ok-put_rule.ensures in (
      ruled_more c.args.pivot (core_rows c.args.core.now.lines) c.args.index.now.items c.args.vars.now
          c.loop-v.v-index c.args.table.now.items c.args.aig.now c.loop-v.aig c.put_rule.new.aig c.loop-v.table.items
          c.put_rule.new.table.items (omega arith) c.loop-v.invariant.0
          (rw (← same) (record {
            edges = turn.edges;
            keeps = turn.keeps;
            covers = turn.covers;
            stand = turn.stand;
            grows = turn.grows;
            size = turn.size;
          })),
      turn.kept,
    )

pub returns-clause-covers : goal.returns-clause-covers
returns-clause-covers c x h =
    c.loop-v.invariant.0.covers x (rw (take_all c.loop-v.v-index c.args.vars.now (omega arith)) h)

pub returns-clause-size : goal.returns-clause-size
returns-clause-size c = rw (take_all c.loop-v.v-index c.args.vars.now (omega arith)) at c.loop-v.invariant.0.size
