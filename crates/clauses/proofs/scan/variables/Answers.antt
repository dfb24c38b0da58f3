use Rattle.std.proofs.Common.{sym, ◌∙◌, arith, pos}
use Rattle.clauses.proofs.Counting.{variables_kept, variables_grown}
use Rattle.clauses.proofs.scan.variables.Goals as goal

pub loop-i-preserved-then-is_repeated : goal.loop-i-preserved-then-is_repeated
loop-i-preserved-then-is_repeated c = record {
  small = omega arith;
  counted = variables_kept c.args.numbers.now c.loop-i.i c.loop-i.count (pos 0) c.loop-i-test.true
      (sym c.is_repeated.ensures ∙ c.if-is_repeated.true) c.loop-i.invariant.counted;
}

pub loop-i-preserved : goal.loop-i-preserved
loop-i-preserved c = record {
  small = omega arith;
  counted = variables_grown c.args.numbers.now c.loop-i.i c.loop-i.count (pos 0) c.loop-i-test.true
      (sym c.is_repeated.ensures ∙ c.if-is_repeated.false) c.loop-i.invariant.counted;
}
