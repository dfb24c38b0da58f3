use Rattle.std.proofs.Common.{◌≡◌, ◌+◌, ◌*◌, ◌<◌, ◌++◌, ◌∷◌, [], List, ℕ, sym, ap, subst, ◌∙◌, arith}
use Rattle.std.specs.List.{All}
use Rattle.std.proofs.lemmas.Result.{on_ok_weaker}
use Rattle.certcheck.specs.Check.{selectors}
use Rattle.builder.specs.Building.{Adds}
use Rattle.certcheck.proofs.Selecting.{selectors_push, selectors_small}
use Rattle.certcheck.proofs.lost.put_selectors.Goals as goal

pub loop-i-preserved : goal.loop-i-preserved
loop-i-preserved c =
    c.in_ok-push.ensures.items ∙ ap (λ (l : List ℕ). l ++ 2 * (c.args.first + c.loop-i.i) ∷ []) c.loop-i.invariant
    ∙ sym (selectors_push c.args.first c.loop-i.i)

pub put-requires : goal.put-requires
put-requires c =
    let end : c.loop-i.i ≡ c.args.count = omega arith in
    subst (λ (l : List ℕ). All (λ n. n < 2097154) l) (sym (c.loop-i.invariant ∙ ap (selectors c.args.first) end))
    (selectors_small c.args.first c.args.count c.requires.few)

pub returns-clause-adds : goal.returns-clause-adds
returns-clause-adds c =
    let end : c.loop-i.i ≡ c.args.count = omega arith in
    let items : c.loop-i.buffer.items ≡ selectors c.args.first c.args.count = c.loop-i.invariant
    ∙ ap (selectors c.args.first) end in
    on_ok_weaker c.put.result
    (λ adds. subst (λ (l : List ℕ). Adds c.args.build.now c.put.new.self (l ∷ [])) items adds)
    c.put.ensures.adds
