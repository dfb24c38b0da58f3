use Rattle.std.proofs.Common.{◌≡◌, ◌+◌, ◌-◌, ◌%◌, ap, ap₂, ◌∙◌}
use Rattle.generate.specs.Draws.{drawn, state_at}
use Rattle.generate.specs.Made.{first_place, past, second_from, second_place, third_from}
use Rattle.generate.proofs.Sequence.{drawn_on, state_on}
use Rattle.generate.proofs.clause.draw_places.Goals as goal

pub returns-clause-state : goal.returns-clause-state
returns-clause-state c =
    let start = c.args.draws.now in
    c.draw-2.ensures.state
    ∙ ap (λ s. state_at s 1) (c.draw.ensures.state ∙ ap (λ s. state_at s 1) c.draw-first.ensures.state
    ∙ state_on start 1 1)
    ∙ state_on start 2 1

pub returns-clause-second : goal.returns-clause-second
returns-clause-second c =
    let start = c.args.draws.now in
    ap₂ (λ x step. second_from c.args.vars x step) c.draw-first.ensures.value
    (c.draw.ensures.value ∙ ap (λ s. drawn s 0 (c.args.vars - 1)) c.draw-first.ensures.state
    ∙ drawn_on start 1 0 (c.args.vars - 1))

pub returns-clause-third : goal.returns-clause-third
returns-clause-third c =
    let start = c.args.draws.now in
    let v = c.args.vars in
    let x = c.draw-first.result in
    let y = (x + 1 + c.draw.result) % v in
    let step : c.draw-2.result ≡ drawn start 2 (v - 2) =
    c.draw-2.ensures.value
    ∙ ap (λ s. drawn s 0 (v - 2)) (c.draw.ensures.state ∙ ap (λ s. state_at s 1) c.draw-first.ensures.state
    ∙ state_on start 1 1)
    ∙ drawn_on start 2 0 (v - 2) in
    let second : y ≡ second_place start v 0 = returns-clause-second c in
    let third : c.past.result ≡ third_from x y c.draw-2.result =
    c.past.ensures ∙ ap₂ (λ taken t. past taken t) c.max.ensures (c.past-third.ensures
    ∙ ap (λ taken. past taken c.draw-2.result) c.min.ensures) in
    third ∙ ap₂ (λ a b. third_from a b c.draw-2.result) c.draw-first.ensures.value second
    ∙ ap (third_from (first_place start v 0) (second_place start v 0)) step
