use Rattle.std.proofs.Common.{◌≤◌, length, ap, inr, arith}
use Rattle.search.specs.State.{SearchState}
use Rattle.search.proofs.Thinning.{thinned_few, thinned_more, thinned_oldest}
use Rattle.search.proofs.search.Search.detach_oldest.Goals as goal

pub loop-self-preserved : goal.loop-self-preserved
loop-self-preserved c =
    let more = c.loop-self-test.true in
    let same = ap (λ (t : SearchState). t.long) c.self.view_is in
    thinned_more c.args.prefix.now c.args.self.now c.loop-self.self c.detach_free.new.self c.loop-self.k c.args.most
    c.loop-self.invariant c.detach_free.ensures.thins (omega (arith, more, same)) c.detach_free.ensures.one
    c.detach_free.ensures.seen c.detach_free.ensures.only

pub returns-else-k-len-clause-few : goal.returns-else-k-len-clause-few
returns-else-k-len-clause-few c =
    let held = c.self.inside.watched.ok.0 in
    let same = ap (λ (t : SearchState). length t.watched) c.self.view_is in
    let start = ap length c.loop-self.invariant.thins.watched in
    let len = c.len.ensures in
    let past = c.if-k-len.false in
    let all : length c.args.self.now.watched ≤ c.loop-self.k = omega (arith, held, same, start, len, past) in
    inr (thinned_few c.args.prefix.now c.args.self.now c.loop-self.self c.loop-self.k c.args.most
    c.loop-self.invariant all)

pub returns-else-k-len-clause-oldest : goal.returns-else-k-len-clause-oldest
returns-else-k-len-clause-oldest c =
    thinned_oldest c.args.prefix.now c.args.self.now c.loop-self.self c.loop-self.k c.args.most c.loop-self.invariant

pub returns-after-loop-self-clause-oldest : goal.returns-after-loop-self-clause-oldest
returns-after-loop-self-clause-oldest c =
    thinned_oldest c.args.prefix.now c.args.self.now c.loop-self.self c.loop-self.k c.args.most c.loop-self.invariant
