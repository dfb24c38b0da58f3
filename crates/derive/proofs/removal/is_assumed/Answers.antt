use Rattle.std.proofs.Common.{◌≡◌, ◌≢◌, ◌+◌, ◌-◌, ◌/◌, ◌<◌, ◌≤◌, sym, ◌∙◌, arith, rules}
use Rattle.derive.proofs.Assumed.{between_up, between_down, between_none, found_at}
use Rattle.derive.proofs.removal.is_assumed.Goals as goal

pub returns-then-eq : goal.returns-then-eq
returns-then-eq c =
    let test = c.loop-low-test.true in
    let within = c.loop-low.invariant.within in
    let same : c.var-found.result ≡ c.args.v = search (rules, c.if-eq.ensures) in
    sym (found_at c.args.assumptions.now c.args.v (c.loop-low.low + (c.loop-low.high - c.loop-low.low) / 2)
    c.index-assumptions-middle.result (omega arith) c.index-assumptions-middle.is (sym c.var-found.ensures ∙ same))

pub loop-low-preserved-then-lt : goal.loop-low-preserved-then-lt
loop-low-preserved-then-lt c =
    let test = c.loop-low-test.true in
    let less : c.var-found.result < c.args.v = search (rules, c.if-lt.ensures) in
    between_up _ _ _ _ _ _ c.requires c.loop-low.invariant (omega arith) c.index-assumptions-middle.is
    (rw c.var-found.ensures at less)

pub loop-low-preserved : goal.loop-low-preserved
loop-low-preserved c =
    let test = c.loop-low-test.true in
    let differs : c.var-found.result ≢ c.args.v = search (rules, c.if-eq.ensures) in
    let late : c.args.v ≤ c.var-found.result = search (rules, c.if-lt.ensures) in
    let more : c.args.v < c.var-found.result = omega arith in
    between_down _ _ _ _ _ _ c.requires c.loop-low.invariant (omega arith) (omega arith) c.index-assumptions-middle.is
    (rw c.var-found.ensures at more)

pub returns : goal.returns
returns c = sym (between_none _ _ _ _ c.loop-low.invariant c.loop-low-test.false)
