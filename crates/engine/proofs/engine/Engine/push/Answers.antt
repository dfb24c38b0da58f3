use Rattle.std.proofs.Common.{◌≡◌, ◌<◌, ◌++◌, ◌∷◌, [], ℕ, List, is_ok, vec_len, vec_capacity, ap, subst, ◌∙◌}
use Rattle.std.proofs.lemmas.Bool.{cond-true}
use Rattle.derive.specs.State.{IsLegalFor, next_id}
use Rattle.frames.specs.State.{FramesState}
use Rattle.engine.proofs.Changing.{accepted, frame_pushed}
use Rattle.engine.proofs.Marked.{frame_marked, older_marked}
use Rattle.engine.proofs.engine.Engine.push.Goals as goal

pub forget_outcome-requires : goal.forget_outcome-requires
forget_outcome-requires c =
    rw c.in_ok-push.ensures.ok (frame_pushed c.self.inside.frames.formula c.self.inside.search c.self.invariant.tied
    (accepted _ c.push.result c.in_ok-push.field-0 c.in_ok-push.was c.push.ensures.refused))

pub invariant_of-self-2 : goal.invariant_of-self-2
invariant_of-self-2 c = record {
  tied = c.forget_outcome.ensures.tied;
  held = tt;
  finishes = c.forget_outcome.ensures.finishes;
  cubes = λ none. c.forget_outcome.ensures.cubes (c.self.invariant.cubes none);
  reductions = rw c.forget_outcome.ensures.reductions c.self.invariant.reductions;
  variables = tt;
  long = tt;
  marked =
      let f = c.self.inside.frames.formula in
      let marks = c.self.inside.marks.items in
      let e = c.forget_outcome.new.search.derivation in
      let accepts = accepted _ c.push.result c.in_ok-push.field-0 c.in_ok-push.was c.push.ensures.refused in
      let old = c.reserve_mark.new.marks in
      let room : vec_len old < vec_capacity old = c.in_ok-reserve_mark.ensures.room accepts in
      let next : c.next_id.result ≡ next_id e = c.next_id.ensures.value ∙ ap next_id c.derivation.ensures in
      let more = c.push-2.ensures.items
      ∙ (cond-true (is_ok c.push-2.result) (old.items ++ c.next_id.result ∷ []) old.items
      (c.push-2.ensures.succeeds room)
      ∙ ap (λ (ids : List ℕ). ids ++ c.next_id.result ∷ []) c.reserve_mark.ensures.same
      ∙ ap (λ (n : ℕ). marks ++ n ∷ []) next) in
      let legal = subst (λ (g : FramesState). IsLegalFor g.formula.scopes e) c.in_ok-push.ensures.ok
      c.forget_outcome.ensures.tied.resting.intact.legal in
      rw (c.in_ok-push.ensures.ok, more) (frame_marked f marks e legal c.forget_outcome.ensures.finishes
      (older_marked f marks c.self.inside.search.derivation e c.forget_outcome.ensures.older
      c.self.invariant.marked));
}
