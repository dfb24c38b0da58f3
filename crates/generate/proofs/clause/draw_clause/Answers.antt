use Rattle.std.proofs.Common.{◌≡◌, ◌∷◌, [], List, ap, ap₂, ◌∙◌}
use Rattle.std.proofs.lemmas.Result.{IfOk-weaker}
use Rattle.prefix.specs.Literal.{Literal}
use Rattle.generate.specs.Draws.{drawn, state_at}
use Rattle.generate.specs.Made.{by_variable, clause_at, first_place, literal_at, literals_drawn}
use Rattle.generate.proofs.Sequence.{drawn_on, state_on}
use Rattle.generate.proofs.clause.draw_clause.Goals as goal

pub returns-clause-state : goal.returns-clause-state
returns-clause-state c =
    let start = c.args.draws.now in
    c.draw_literal-3.ensures.state
    ∙ ap (λ s. state_at s 1) (c.draw_literal-2.ensures.state
    ∙ ap (λ s. state_at s 1) (c.draw_literal.ensures.state
    ∙ ap (λ s. state_at s 1) c.draw_places-first.ensures.state ∙ state_on start 3 1) ∙ state_on start 4 1)
    ∙ state_on start 5 1

pub returns-clause-lits : goal.returns-clause-lits
returns-clause-lits c =
    let start = c.args.draws.now in
    let v = c.args.vars in
    let places = c.draw_places-first.ensures in
    let fourth : c.draw_literal.new.draws ≡ state_at start 4 =
    c.draw_literal.ensures.state ∙ ap (λ s. state_at s 1) places.state ∙ state_on start 3 1 in
    let fifth : c.draw_literal-2.new.draws ≡ state_at start 5 =
    c.draw_literal-2.ensures.state ∙ ap (λ s. state_at s 1) fourth ∙ state_on start 4 1 in
    let one = c.draw_literal.ensures.lit
    ∙ ap₂ literal_at places.first (ap (λ s. drawn s 0 2) places.state ∙ drawn_on start 3 0 2) in
    let two = c.draw_literal-2.ensures.lit
    ∙ ap₂ literal_at places.second (ap (λ s. drawn s 0 2) fourth ∙ drawn_on start 4 0 2) in
    let three = c.draw_literal-3.ensures.lit
    ∙ ap₂ literal_at places.third (ap (λ s. drawn s 0 2) fifth ∙ drawn_on start 5 0 2) in
    let Three : Literal → Literal → Literal → List Literal = λ a b d. a ∷ b ∷ d ∷ [] in
    let lits : Three c.draw_literal.result c.draw_literal-2.result c.draw_literal-3.result ≡ literals_drawn start v 0 =
    ap (λ a. Three a c.draw_literal-2.result c.draw_literal-3.result) one
    ∙ ap₂ (λ b d. Three (literal_at (first_place start v 0) (drawn start 3 2)) b d) two three in
    IfOk-weaker c.row_of.result _ (λ ls. ls ≡ clause_at start v 0) (λ ls e. e ∙ ap by_variable lits) c.row_of.ensures
