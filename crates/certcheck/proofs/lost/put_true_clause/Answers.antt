use Rattle.std.proofs.Common.{◌≡◌, List, ℕ, ◌∷◌, [], map, ap, subst, ◌∙◌, arith}
use Rattle.std.proofs.lemmas.List.{take_all}
use Rattle.std.proofs.lemmas.Result.{on_ok_weaker}
use Rattle.prefix.specs.Literal.{Literal}
use Rattle.builder.specs.Rows.{flipped}
use Rattle.certcheck.specs.Check.{number_of}
use Rattle.builder.specs.Building.{Adds}
use Rattle.certcheck.proofs.lost.put_true_clause.Goals as goal

pub returns-clause-adds : goal.returns-clause-adds
returns-clause-adds c =
    on_ok_weaker c.put.result
    (λ adds ns table.
    let items : c.loop-lit.buffer.items ≡ flipped c.args.selector ∷ map (number_of ns) c.args.clause.now =
    c.loop-lit.invariant.items ns table ∙ ap (λ (l : List Literal). flipped c.args.selector ∷ map (number_of ns) l)
    (take_all c.loop-lit.lit-index c.args.clause.now (omega arith)) in
    subst (λ (l : List ℕ). Adds c.args.build.now c.put.new.self (l ∷ [])) items adds)
    c.put.ensures.adds
