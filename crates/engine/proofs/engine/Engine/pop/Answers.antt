use Rattle.std.proofs.Common.{◌≡◌, ℕ, ◌++◌, ap, arith, ◌∙◌, subst, not}
use Rattle.std.specs.Prelude.{filter, ◌==◌, ◌||◌, option_to_list}
use Rattle.std.specs.List.{AllByRecursion}
use Rattle.calculus.specs.Rows.{IsRow}
use Rattle.derive.specs.Dropping.{is_outside, mentions}
use Rattle.derive.specs.State.{OpenClause, clauses_of}
use Rattle.frames.specs.Commands.{Pop, formula_after}
use Rattle.frames.specs.Groups.{grouped_in}
use Rattle.frames.specs.State.{FramesState, clauses_in, variables_on_top}
use Rattle.search.specs.State.{IsResting}
use Rattle.engine.proofs.Changing.{accepted_pop, frame_popped}
use Rattle.engine.proofs.Marked.{AreMarkedIn, less_marked, older_marked}
use Rattle.engine.proofs.Marking.{fewer_extend}
use Rattle.engine.proofs.engine.Engine.pop.Goals as goal

pub drop_top-requires-clause-resting : goal.drop_top-requires-clause-resting
drop_top-requires-clause-resting c =
    let f = c.self.inside.frames.formula in
    rw c.in_ok-pop.ensures.ok (
      f.scopes,
      fewer_extend (variables_on_top f) f.scopes c.prefixes_grow.ensures,
      c.self.invariant.tied.resting,
    )

pub drop_top-requires-clause-below : goal.drop_top-requires-clause-below
drop_top-requires-clause-below c =
    let f = c.self.inside.frames.formula in
    let d = c.self.inside.search.derivation in
    let split = c.pop-2.ensures.items
    ∙ ap (λ o. c.pop-2.new.self.items ++ option_to_list o) c.unwrap-mark.ensures in
    let marked = subst (λ ms. AreMarkedIn f ms d) split c.self.invariant.marked in
    rw c.in_ok-pop.ensures.ok (less_marked f c.pop-2.new.self.items c.unwrap-mark.result d marked).0

pub forget_outcome-requires : goal.forget_outcome-requires
forget_outcome-requires c =
    let f = c.self.inside.frames.formula in
    let accepts = accepted_pop _ c.pop.result c.in_ok-pop.field-0 c.in_ok-pop.was c.pop.ensures.refused in
    let old = c.self.inside.search in
    let new = c.drop_top.new.search in
    let resting = subst (λ (g : FramesState). IsResting g.formula.scopes new) c.in_ok-pop.ensures.ok
    c.drop_top.ensures.resting in
    let rows = subst (λ (g : FramesState). AllByRecursion (IsRow g.formula.scopes) (clauses_in g.formula.frames))
    c.in_ok-pop.ensures.ok c.other_clauses-left.ensures.rows in
    let grouped = subst (λ (g : FramesState). AllByRecursion (IsRow g.formula.scopes) (grouped_in g.formula.groups))
    c.in_ok-pop.ensures.ok c.groups_len-groups.ensures.rows in
    let clauses = subst (λ (g : FramesState). clauses_of new.derivation ≡ filter (λ (d : OpenClause).
    not (d.frame == c.depth-top.result || mentions (is_outside g.formula.scopes) d.row)) (clauses_of old.derivation))
    c.in_ok-pop.ensures.ok c.drop_top.ensures.clauses in
    rw c.in_ok-pop.ensures.ok (frame_popped f old new c.self.invariant.tied accepts resting rows grouped
    (clauses ∙ ap (λ (top : ℕ). filter (λ (d : OpenClause).
    not (d.frame == top || mentions (is_outside (formula_after f Pop).scopes) d.row)) (clauses_of old.derivation))
    c.depth-top.ensures))

pub invariant_of-self-2 : goal.invariant_of-self-2
invariant_of-self-2 c = record {
  tied = c.forget_outcome.ensures.tied;
  held = tt;
  finishes = c.forget_outcome.ensures.finishes;
  cubes = λ none. c.forget_outcome.ensures.cubes (c.drop_top.ensures.cubes (c.self.invariant.cubes none));
  reductions = let most = c.self.invariant.reductions in let less = c.drop_top.ensures.reductions in
      let same = c.forget_outcome.ensures.reductions in omega (arith, most, less, same);
  variables = tt;
  long = tt;
  marked =
      let f = c.self.inside.frames.formula in
      let d = c.self.inside.search.derivation in
      let e = c.drop_top.new.search.derivation in
      let split = c.pop-2.ensures.items
      ∙ ap (λ o. c.pop-2.new.self.items ++ option_to_list o) c.unwrap-mark.ensures in
      let marked = subst (λ ms. AreMarkedIn f ms d) split c.self.invariant.marked in
      let left = (less_marked f c.pop-2.new.self.items c.unwrap-mark.result d marked).1 in
      rw c.in_ok-pop.ensures.ok (older_marked (formula_after f Pop) c.pop-2.new.self.items e
      c.forget_outcome.new.search.derivation c.forget_outcome.ensures.older
      (older_marked (formula_after f Pop) c.pop-2.new.self.items d e c.drop_top.ensures.older left));
}
