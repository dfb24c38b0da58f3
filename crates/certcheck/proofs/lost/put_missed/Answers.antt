use Rattle.std.proofs.Common.{◌+◌, ◌*◌, get_or, refl, arith}
use Rattle.builder.specs.Rows.{flipped}
use Rattle.certcheck.proofs.Groups.{missed_step, two_as}
use Rattle.certcheck.proofs.lost.put_missed.Goals as goal

pub loop-i-preserved : goal.loop-i-preserved
loop-i-preserved c =
    let n = get_or c.args.ns.now c.loop-i.i 0 in
    record {
      adds = missed_step c.args.build.now c.loop-i.build c.put_clause.new.build c.args.first c.args.ns.now c.loop-i.i 0
          n (omega arith) refl
          c.loop-i.invariant.adds
          (two_as c.loop-i.build c.put_clause.new.build c.flip.result c.flip-in-loop-i.result
          (flipped (2 * (c.args.first + c.loop-i.i))) (flipped n)
          c.flip.ensures.value c.flip-in-loop-i.ensures.value c.in_ok-put_clause.ensures.adds);
      empty = c.in_ok-put_clause.ensures.empty;
    }
