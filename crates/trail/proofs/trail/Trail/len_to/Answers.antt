use Rattle.std.proofs.Common.{◌≡◌, ◌-◌, suc, length, ap, ◌∙◌, arith}
use Rattle.calculus.specs.Search.{cut_trail}
use Rattle.trail.specs.State.{TrailState}
use Rattle.trail.proofs.Tables.{cut_length_first, cut_length_less, cut_length_found, cut_length_none}
use Rattle.trail.proofs.trail.Trail.len_to.Goals as goal

pub loop-len-init : goal.loop-len-init
loop-len-init c =
    let all : c.len-len.result ≡ length c.self.inside.entries.items = c.len-len.ensures ∙ c.self.inside.entries.ok.0 in
    rw all (cut_length_first c.args.level c.self.inside.entries.items)

pub loop-len-preserved : goal.loop-len-preserved
loop-len-preserved c =
    let some = c.loop-len-test.true in
    let next : c.loop-len.len ≡ suc (c.loop-len.len - 1) = omega arith in
    cut_length_less c.args.level c.self.inside.entries.items c.loop-len.len (c.loop-len.len - 1) c.index.result.now
    c.loop-len.invariant c.self.invariant.0.leveled next c.index.ensures c.if-index-level.true

pub returns-else-index-level : goal.returns-else-index-level
returns-else-index-level c =
    let some = c.loop-len-test.true in
    let next : c.loop-len.len ≡ suc (c.loop-len.len - 1) = omega arith in
    cut_length_found c.args.level c.self.inside.entries.items c.loop-len.len (c.loop-len.len - 1) c.index.result.now
    c.loop-len.invariant c.self.invariant.0.leveled next c.index.ensures c.if-index-level.false
    ∙ ap (λ (t : TrailState). length (cut_trail c.args.level t.placed)) c.self.view_is

pub returns-after-loop-len : goal.returns-after-loop-len
returns-after-loop-len c =
    cut_length_none c.args.level c.self.inside.entries.items c.loop-len.len c.loop-len.invariant c.loop-len-test.false
    ∙ ap (λ (t : TrailState). length (cut_trail c.args.level t.placed)) c.self.view_is
