use Rattle.std.proofs.Common.{◌≡◌, ◌-◌, ◌<◌, suc, length, get_or, ap, ◌∙◌, arith}
use Rattle.std.specs.Prelude.{count_by}
use Rattle.std.proofs.lemmas.Grind.{get_or_default_zero}
use Rattle.prefix.specs.Scopes.{variables_at}
use Rattle.trail.specs.Open.{is_assigned}
use Rattle.trail.specs.State.{TrailState}
use Rattle.trail.proofs.Counting.{kept_inside}
use Rattle.trail.proofs.Opening.{tally_is}
use Rattle.trail.proofs.trail.Trail.assigned_in.Goals as goal

pub returns-then-scope-len : goal.returns-then-scope-len
returns-then-scope-len c =
    let items = c.self.inside.entries.items in
    let tallies = c.self.inside.tallies in
    let first = c.requires.first in
    let next : c.args.scope ≡ suc (c.args.scope - 1) = omega arith in
    let fits = tallies.ok in
    let within : c.args.scope - 1 < length tallies.items = omega arith in
    let read : c.index.result.now ≡ get_or tallies.items (c.args.scope - 1) 0 = c.index.ensures
    ∙ get_or_default_zero tallies.items (c.args.scope - 1) c.index.result.now within in
    let kept = kept_inside c.args.prefix.now items c.args.self.now (ap (λ (t : TrailState). t.placed) c.self.view_is)
    (ap (λ (t : TrailState). t.depths) c.self.view_is) c.requires.prefix in
    tally_is c.args.prefix.now items tallies.items c.args.scope (c.args.scope - 1) c.index.result.now c.self.invariant.1
    next within (read ∙ c.self.invariant.1.tallied (c.args.scope - 1) within) c.requires.valid.distinct kept.0
    kept.1
    ∙ ap (λ (t : TrailState). count_by (is_assigned t.placed) (variables_at c.args.prefix.now c.args.scope))
    c.self.view_is
