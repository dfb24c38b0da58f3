use Rattle.std.proofs.Common.{◌≡◌, ◌+◌, ◌*◌, [], ◌∷◌, ◌++◌, refl, ap, ap₂, sym, ◌∙◌, arith}
use Rattle.std.proofs.lemmas.List.FromFn.{map-range_with_len_more}
use Rattle.generate.specs.Draws.{state_at}
use Rattle.generate.specs.Made.{clause_at}
use Rattle.generate.proofs.Sequence.{clause_on, state_on}
use Rattle.generate.proofs.formulas.draw_clauses.Goals as goal

pub loop-init : goal.loop-init
unfolding state_at
loop-init c = record { state = refl; done = c.new-clauses.ensures }

pub loop-preserved : goal.loop-preserved
loop-preserved c =
    let start = c.args.draws.now in
    let i = c.loop.counter in
    let v = c.args.vars in
    let clause : c.in_ok-draw_clause.field-0 ≡ clause_at start v i =
    c.in_ok-draw_clause.ensures.lits ∙ ap (λ s. clause_at s v 0) c.loop.invariant.state ∙ clause_on start v i in
    record {
      state = c.in_ok-draw_clause.ensures.state ∙ ap (λ s. state_at s 6) c.loop.invariant.state
          ∙ state_on start (6 * i) 6 ∙ ap (state_at start) (let e : 6 * i + 6 ≡ 6 * (i + 1) = omega arith in e);
      done = c.in_ok-push.ensures.ok
          ∙ ap₂ (λ front one. front ++ one ∷ []) c.loop.invariant.done clause
          ∙ sym (map-range_with_len_more (clause_at start v) 0 i i (omega arith));
    }
