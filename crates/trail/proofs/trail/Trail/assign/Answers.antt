use Rattle.std.proofs.Common.{◌≡◌, ◌+◌, ◌-◌, ap, ◌∙◌, arith}
use Rattle.prefix.specs.Scopes.{depth_of}
use Rattle.calculus.specs.Search.{is_decision}
use Rattle.trail.specs.Causes.{cause_of}
use Rattle.trail.specs.Open.{is_finished}
use Rattle.trail.specs.State.{TrailState, with_finished, with_literal, with_placed}
use Rattle.trail.proofs.Counting.{depth_most}
use Rattle.trail.proofs.Keeping.{kept_more, kept_placed, raised_more}
use Rattle.trail.proofs.trail.Trail.assign.Goals as goal

depth : (c : goal.After-mark_finished-arg-1) → c.depth-depth.result ≡ depth_of c.args.prefix.now c.args.lit.variable
depth c = c.depth-depth.ensures.value ∙ ap (depth_of c.args.prefix.now) c.var.ensures

placed : (c : goal.After-mark_finished-arg-1) → c.push.new.self ≡ with_placed c.args.self.now c.args.lit
    (cause_of c.args.why) (depth_of c.args.prefix.now c.args.lit.variable)
placed c =
    let positive = c.depth-depth.ensures.positive in
    let back : c.depth-depth.result - 1 + 1 ≡ c.depth-depth.result = omega arith in
    c.push.ensures ∙ ap (with_placed c.args.self.now c.args.lit (cause_of c.args.why)) (back ∙ depth c)

pub mark_finished-requires-clause-prefix : goal.mark_finished-requires-clause-prefix
mark_finished-requires-clause-prefix c =
    rw (placed c)
    (kept_placed c.args.prefix.now c.args.self.now c.args.lit (cause_of c.args.why) c.requires.prefix c.requires.known
    c.requires.unassigned c.requires.order c.requires.allowed)

pub mark_finished-requires-clause-last : goal.mark_finished-requires-clause-last
mark_finished-requires-clause-last c = rw (depth c) (depth_most c.args.prefix.now c.args.lit.variable c.requires.known)

done : (c : goal.After-mark_finished) → c.mark_finished.new.self ≡ with_literal c.args.prefix.now c.args.self.now
    c.args.lit (cause_of c.args.why)
done c =
    let finished : TrailState → _ → TrailState = λ (t : TrailState) d. with_finished t
    (is_finished c.args.prefix.now t.placed d) (is_decision (cause_of c.args.why)) d in
    c.mark_finished.ensures ∙ (ap (λ t. finished t c.depth-depth.result) (placed c.before)
    ∙ ap (finished _) (depth c.before))

pub returns-clause-ok : goal.returns-clause-ok
returns-clause-ok c = done c

pub returns-clause-kept : goal.returns-clause-kept
returns-clause-kept c =
    rw (done c)
    (kept_more c.args.prefix.now c.args.self.now c.args.lit (cause_of c.args.why) c.requires.prefix c.requires.known
    c.requires.unassigned c.requires.order c.requires.allowed)

pub returns-clause-raised : goal.returns-clause-raised
returns-clause-raised c = λ n. rw (done c)
    (raised_more n c.args.self.now.placed (record { literal = c.args.lit; cause = cause_of c.args.why }))
