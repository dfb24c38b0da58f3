use Rattle.std.proofs.Common.{◌≡◌, ◌<◌, ◌⊎◌, ◌∙◌, get_or, inl, inr, arith, sym}
use Rattle.std.proofs.lemmas.Bool.Decides.{nat_tests}
use Rattle.prefix.specs.Literal.{Literal}
use Rattle.reduce.proofs.Clashing.{turn_left, turn_right, turn_both, turn_none, up_more, no_clash_from, agree}
use Rattle.reduce.proofs.resolution.clashes.Goals as goal
use Rattle.reduce.proofs.resolution.clashes.Goals.{else-ne-via-then-ne+else-is_positive, else-ne-via-else-ne}

pub loop-i-preserved-then-lt : goal.loop-i-preserved-then-lt
loop-i-preserved-then-lt c =
    let d : Literal = c.index-a-i.result in
    let e : Literal = c.index-b-j.result in
    let l : get_or c.args.a.now c.loop-i.i d ≡ d = sym c.index-a-i.is in
    let m : get_or c.args.b.now c.loop-i.j e ≡ e = sym c.index-b-j.is in
    let less : d.variable < e.variable = grind (
      arith,
      nat_tests,
      c.if-lt.true,
      c.lt.ensures,
      c.var.ensures,
      c.var-in-loop-i.ensures,
    ) in
    let below : (get_or c.args.a.now c.loop-i.i d).variable < (get_or c.args.b.now c.loop-i.j e).variable =
    rw (l, m) less in
    record {
      in_a = omega (arith, c.loop-i-test.true);
      in_b = c.loop-i.invariant.in_b;
      up_a = up_more c.args.a.now c.loop-i.i d c.loop-i-test.true c.loop-i.invariant.up_a;
      up_b = c.loop-i.invariant.up_b;
      told = turn_left c.args.a.now c.args.b.now c.loop-i.i c.loop-i.j c.args.pivot d e c.loop-i-test.true c.if-j-b.true
          c.loop-i.invariant.up_a c.loop-i.invariant.up_b below ∙ c.loop-i.invariant.told;
    }

pub loop-i-preserved-then-lt-2 : goal.loop-i-preserved-then-lt-2
loop-i-preserved-then-lt-2 c =
    let d : Literal = c.index-a-i.result in
    let e : Literal = c.index-b-j.result in
    let l : get_or c.args.a.now c.loop-i.i d ≡ d = sym c.index-a-i.is in
    let m : get_or c.args.b.now c.loop-i.j e ≡ e = sym c.index-b-j.is in
    let less : e.variable < d.variable = grind (
      arith,
      nat_tests,
      c.if-lt-2.true,
      c.lt-in-loop-i.ensures,
      c.var-in-loop-i-2.ensures,
      c.var-in-loop-i-3.ensures,
    ) in
    let below : (get_or c.args.b.now c.loop-i.j e).variable < (get_or c.args.a.now c.loop-i.i d).variable =
    rw (l, m) less in
    record {
      in_a = c.loop-i.invariant.in_a;
      in_b = omega (arith, c.if-j-b.true);
      up_a = c.loop-i.invariant.up_a;
      up_b = up_more c.args.b.now c.loop-i.j e c.if-j-b.true c.loop-i.invariant.up_b;
      told = turn_right c.args.a.now c.args.b.now c.loop-i.i c.loop-i.j c.args.pivot d e c.loop-i-test.true
          c.if-j-b.true c.loop-i.invariant.up_a c.loop-i.invariant.up_b below ∙ c.loop-i.invariant.told;
    }

pub loop-i-preserved : goal.loop-i-preserved
loop-i-preserved c =
    let d : Literal = c.index-a-i.result in
    let e : Literal = c.index-b-j.result in
    let l : get_or c.args.a.now c.loop-i.i d ≡ d = sym c.index-a-i.is in
    let m : get_or c.args.b.now c.loop-i.j e ≡ e = sym c.index-b-j.is in
    let one : d.variable ≡ e.variable = grind (
      arith,
      nat_tests,
      c.if-lt.false,
      c.lt.ensures,
      c.var.ensures,
      c.var-in-loop-i.ensures,
      c.if-lt-2.false,
      c.lt-in-loop-i.ensures,
      c.var-in-loop-i-2.ensures,
      c.var-in-loop-i-3.ensures,
    ) in
    let alike : (d.variable ≡ c.args.pivot) ⊎ (d.positive ≡ e.positive) =
    elim c.else-ne.branch [
      | else-ne-via-then-ne+else-is_positive w ↦
          inr (sym w.is_positive.ensures
          ∙ (agree w.is_positive.result w.is_positive-then-ne.result w.if-is_positive.false
          ∙ w.is_positive-then-ne.ensures))
      | else-ne-via-else-ne w ↦
          inl (grind (arith, nat_tests, w.if-ne.false, c.ne.ensures, c.var-in-loop-i-4.ensures))
    ] in
    record {
      in_a = omega (arith, c.loop-i-test.true);
      in_b = omega (arith, c.if-j-b.true);
      up_a = up_more c.args.a.now c.loop-i.i d c.loop-i-test.true c.loop-i.invariant.up_a;
      up_b = up_more c.args.b.now c.loop-i.j e c.if-j-b.true c.loop-i.invariant.up_b;
      told = turn_both c.args.a.now c.args.b.now c.loop-i.i c.loop-i.j c.args.pivot d e c.loop-i-test.true c.if-j-b.true
          c.loop-i.invariant.up_a c.loop-i.invariant.up_b (rw (l, m) one)
          (rw (l, m) (no_clash_from c.args.pivot d e alike)) ∙ c.loop-i.invariant.told;
    }

pub returns-else-j-b : goal.returns-else-j-b
returns-else-j-b c = turn_none c.args.a.now c.args.b.now c.loop-i.i c.loop-i.j c.args.pivot
    (inr (omega (arith, c.if-j-b.false))) ∙ c.loop-i.invariant.told
