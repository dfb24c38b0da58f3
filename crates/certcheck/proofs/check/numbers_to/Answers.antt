use Rattle.std.proofs.Common.{◌≡◌, ℕ, ◌+◌, ◌-◌, List, [], ◌∷◌, ◌++◌, ap, ◌∙◌, arith}
use Rattle.std.specs.List.{range_with_len}
use Rattle.certcheck.proofs.Scoping.{range_push}
use Rattle.certcheck.proofs.check.numbers_to.Goals as goal

pub loop-n-preserved : goal.loop-n-preserved
loop-n-preserved c =
    let n = c.loop-n.n in
    let own : n ≡ n - 1 + 1 = omega arith in
    let next : n ≡ n + 1 - 1 = omega arith in
    c.in_ok-push.ensures.items ∙ ap (λ (ns : List ℕ). ns ++ n ∷ []) c.loop-n.invariant
    ∙ range_push (n - 1) n own ∙ ap (range_with_len 1) next

pub returns : goal.returns
returns c =
    let end : c.loop-n.n - 1 ≡ c.args.last = omega arith in
    c.loop-n.invariant ∙ ap (range_with_len 1) end
