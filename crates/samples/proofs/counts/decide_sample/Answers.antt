use Rattle.std.proofs.Common.{◌≡◌, ◌+◌, ◌%◌, ◌^◌, ◌-◌, ◌<◌, ◌≤◌, false, subst, sym, ap, ◌∙◌, arith, length}
use Rattle.std.proofs.lemmas.List.FromFn.{length-range_with_len}
use Rattle.truth.specs.declared.formula.Formula.{Formula}
use Rattle.truth.specs.Truth.{truth}
use Rattle.search.specs.Counting.{size_of}
use Rattle.steps.specs.Counter.{step_limit}
use Rattle.generate.specs.Draws.{start_of}
use Rattle.generate.proofs.Forming.{variables_are}
use Rattle.solve.specs.Answers.{IsShort}
use Rattle.solve.specs.Terms.{terms_of}
use Rattle.samples.specs.Samples.{sample}
use Rattle.samples.proofs.Counting.{decided_false, enough, made_alike, three_more}
use Rattle.samples.proofs.counts.decide_sample.Goals as goal

-- the budget isn't short
pub returns : goal.returns
returns c =
    let v = 3 + c.args.i % 10 in
    let f = c.in_ok-f.f in
    let few : v ≤ 12 = three_more c.args.i in
    let size : size_of f.prefix ≡ v =
    ap (λ (f : Formula). size_of f.prefix) c.in_ok-f.ensures.value ∙ ap length (variables_are v)
    ∙ length-range_with_len 1 v in
    let long : IsShort (terms_of (2 ^ 64 - 1) 0 512) f → ⊥ =
    λ short.
    let under : 2 ^ 64 - 1 < step_limit 0 v = subst (λ n. 2 ^ 64 - 1 < step_limit 0 n) size short.limit in
    let above = enough v few in
    omega (arith, under, above) in
    let seed = c.seed_at.ensures in
    let alike : start_of c.seed_at.result ≡ start_of (c.args.seed + c.args.i) = omega (arith, seed) in
    let is : f ≡ sample c.args.seed c.args.i =
    c.in_ok-f.ensures.value ∙ made_alike c.seed_at.result (c.args.seed + c.args.i) v (1 + c.args.i % 37) alike in
    sym (subst (λ (g : Formula). truth g.prefix g.clauses ≡ false) is
    (decided_false (terms_of (2 ^ 64 - 1) 0 512) f c.in_ok-decide_formula.field-0 c.in_ok-decide_formula.ensures
    c.in_default.not-Sat long))
