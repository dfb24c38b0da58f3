use Rattle.std.proofs.Common.{◌≡◌, ◌+◌, refl, sym, ap, ◌∙◌, arith}
use Rattle.samples.specs.declared.counts.Counts.{Counts}
use Rattle.samples.specs.Samples.{false_ones, true_ones}
use Rattle.samples.proofs.Counting.{false_more, false_same, true_more, true_same}
use Rattle.samples.proofs.counts.decide_samples.Goals.{then-branch, else-branch}
use Rattle.samples.proofs.counts.decide_samples.Goals as goal

pub loop-i-init : goal.loop-i-init
loop-i-init c = record { sat = refl; unsat = refl; all = refl }

pub overflow_add-counts : goal.overflow_add-counts
overflow_add-counts c =
    let all = c.loop-i.invariant.all in
    let below = c.loop-i-test.true in
    let few = c.requires in
    omega (arith, all, below, few)

pub overflow_add-counts-else-branch : goal.overflow_add-counts-else-branch
overflow_add-counts-else-branch c =
    let all = c.loop-i.invariant.all in
    let below = c.loop-i-test.true in
    let few = c.requires in
    omega (arith, all, below, few)

pub loop-i-preserved : goal.loop-i-preserved
loop-i-preserved c =
    let seed = c.args.seed in
    let i = c.loop-i.i in
    let inv = c.loop-i.invariant in
    let is = c.in_ok-decide_sample.ensures in
    elim c.if-branch.branch [
      | then-branch w ↦
          let so = sym is ∙ w.if-branch.true in
          let sat : c.if-branch.counts.sat ≡ c.loop-i.counts.sat + 1 = ap (λ (n : Counts). n.sat) w.counts-is in
          let unsat : c.if-branch.counts.unsat ≡ c.loop-i.counts.unsat = ap (λ (n : Counts). n.unsat) w.counts-is in
          record {
            sat = sat ∙ ap (λ n. n + 1) inv.sat ∙ sym (true_more seed i so);
            unsat = unsat ∙ inv.unsat ∙ sym (false_same seed i so);
            all = let all = inv.all in omega (arith, all, sat, unsat);
          }
      | else-branch w ↦
          let so = sym is ∙ w.if-branch.false in
          let sat : c.if-branch.counts.sat ≡ c.loop-i.counts.sat = ap (λ (n : Counts). n.sat) w.counts-is in
          let unsat : c.if-branch.counts.unsat ≡ c.loop-i.counts.unsat + 1 = ap (λ (n : Counts). n.unsat) w.counts-is in
          record {
            sat = sat ∙ inv.sat ∙ sym (true_same seed i so);
            unsat = unsat ∙ ap (λ n. n + 1) inv.unsat ∙ sym (false_more seed i so);
            all = let all = inv.all in omega (arith, all, sat, unsat);
          }
    ]

-- when the loop ends all are counted
pub returns-clause-sat : goal.returns-clause-sat
returns-clause-sat c =
    let at : c.loop-i.i ≡ c.args.count =
    (let past = c.loop-i-test.false in let end = c.loop-i.auto.i-end in omega (arith, past, end)) in
    c.loop-i.invariant.sat ∙ ap (true_ones c.args.seed) at

pub returns-clause-unsat : goal.returns-clause-unsat
returns-clause-unsat c =
    let at : c.loop-i.i ≡ c.args.count =
    (let past = c.loop-i-test.false in let end = c.loop-i.auto.i-end in omega (arith, past, end)) in
    c.loop-i.invariant.unsat ∙ ap (false_ones c.args.seed) at
