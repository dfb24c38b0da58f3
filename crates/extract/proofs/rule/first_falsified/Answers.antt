use Rattle.std.proofs.Common.{◌-◌, arith, false}
use Rattle.step_core.specs.Cores.{core_rows}
use Rattle.extract.specs.Tables.{removed_of}
use Rattle.extract.proofs.Rules.{contains_mapped, drop_before, rule_more}
use Rattle.extract.proofs.rule.first_falsified.Goals as goal

pub one_more-requires-clause-covered : goal.one_more-requires-clause-covered
one_more-requires-clause-covered c =
    c.requires.covered _ (contains_mapped (removed_of (core_rows c.args.core.now.lines)) c.args.removals.now
    (c.loop-left.left - 1) (record { step = 0; value = false }) (omega arith))

pub loop-left-preserved : goal.loop-left-preserved
loop-left-preserved c = (
  omega arith,
  rw (drop_before (removed_of (core_rows c.args.core.now.lines)) c.args.removals.now c.loop-left.left
      (record { step = 0; value = false }) (omega arith) (omega arith))
      (rule_more c.args.pivot c.args.aig.now c.loop-left.aig c.one_more.new.aig c.args.table.now.items _ _
      c.loop-left.rest c.in_ok-rest.rest c.requires.edges c.loop-left.invariant.1 c.in_ok-rest.ensures.value
      c.in_ok-rest.ensures.stands c.in_ok-rest.ensures.grows c.in_ok-rest.ensures.size),
  c.in_ok-rest.ensures.kept,
)
