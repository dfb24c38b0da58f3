use Rattle.std.proofs.Common.{get_or, refl, arith}
use Rattle.certcheck.proofs.Groups.{units_step}
use Rattle.certcheck.proofs.put.put_units.Goals as goal

pub loop-i-preserved : goal.loop-i-preserved
loop-i-preserved c = record {
  adds = units_step c.args.build.now c.loop-i.build c.put_clause.new.build c.args.ns.now c.loop-i.i 0
      (get_or c.args.ns.now c.loop-i.i 0) (omega arith) refl
      c.loop-i.invariant.adds c.in_ok-put_clause.ensures.adds;
  empty = c.in_ok-put_clause.ensures.empty;
}
