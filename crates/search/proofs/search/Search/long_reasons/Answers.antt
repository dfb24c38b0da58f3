use Rattle.std.proofs.Common.{◌∙◌, ap, arith}
use Rattle.search.proofs.Tallying.{one_if}
use Rattle.search.proofs.Thinning.{reasons_back, reasons_few}
use Rattle.search.proofs.search.Search.long_reasons.Goals as goal

pub loop-place-preserved-then-has_long_reason : goal.loop-place-preserved-then-has_long_reason
loop-place-preserved-then-has_long_reason c =
    let i = c.loop-place.invariant in
    let some = c.loop-place-test.true in
    let back = reasons_back c.loop-place.self c.args.self.now c.loop-place.place c.has_long_reason.result i.same
    (omega arith) i.within c.has_long_reason.ensures.is in
    let one = ap one_if c.if-has_long_reason.true in
    let count = i.count in
    record {
      same = c.has_long_reason.ensures.same ∙ i.same;
      within = (let w = i.within in omega arith);
      count = omega (arith, back, one, count);
    }

pub loop-place-preserved : goal.loop-place-preserved
loop-place-preserved c =
    let i = c.loop-place.invariant in
    let some = c.loop-place-test.true in
    let back = reasons_back c.loop-place.self c.args.self.now c.loop-place.place c.has_long_reason.result i.same
    (omega arith) i.within c.has_long_reason.ensures.is in
    let one = ap one_if c.if-has_long_reason.false in
    let count = i.count in
    record {
      same = c.has_long_reason.ensures.same ∙ i.same;
      within = (let w = i.within in omega arith);
      count = omega (arith, back, one, count);
    }

pub returns-else-count-most-clause-few : goal.returns-else-count-most-clause-few
returns-else-count-most-clause-few c =
    let i = c.loop-place.invariant in
    let few = reasons_few c.args.self.now c.loop-place.place i.within in
    let count = i.count in
    omega (arith, few, count)
