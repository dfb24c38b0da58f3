use Rattle.std.proofs.Common.{◌≡◌, ◌∙◌, ap, arith, subst, sym, Option}
use Rattle.std.proofs.lemmas.Result.{err_from_is_err_and}
use Rattle.clean.specs.Turns.{reductions_in}
use Rattle.frames.specs.Commands.{Activate, formula_after, refusal_of}
use Rattle.frames.specs.State.{FramesState, settled}
use Rattle.search.specs.Counting.{size_of}
use Rattle.search.proofs.Reducing.{reductions_same}
use Rattle.engine.specs.declared.counts.Counts.{Counts}
use Rattle.engine.specs.State.{EngineState, VerdictState}
use Rattle.engine.proofs.Bounding.{clauses_counted}
use Rattle.engine.proofs.Changing.{fewer_long, finishes_kept, held_kept, turned, verdict_kept}
use Rattle.engine.proofs.Marked.{AreMarkedIn, older_marked}
use Rattle.engine.proofs.engine.Engine.activate.Goals as goal

pub invariant_of-self : goal.invariant_of-self
invariant_of-self c =
    let e = c.in_err-count.ensures in
    record {
      tied = e.tied;
      held = held_kept c.self.inside.search.derivation c.put_group.new.search.derivation e.same
          c.self.inside.frames.formula c.self.inside.verdict c.self.invariant.held;
      finishes = finishes_kept c.self.inside.search.derivation c.put_group.new.search.derivation e.same
          c.self.inside.verdict c.self.invariant.finishes;
      cubes = λ none. c.put_group.ensures.cubes (c.self.invariant.cubes none);
      reductions = rw (reductions_same c.self.inside.search.derivation c.put_group.new.search.derivation e.same)
          c.self.invariant.reductions;
      variables = c.self.invariant.variables;
      long =
          let now = e.tied.resting.tallied in
          let before = c.self.invariant.tied.resting.tallied in
          let fewer = e.fewer in
          fewer_long c.self.inside.verdict c.self.inside.search.derivation
          c.put_group.new.search.derivation (size_of c.self.inside.frames.formula.scopes)
          (omega (arith, fewer, now, before)) c.self.invariant.long;
      marked = older_marked c.self.inside.frames.formula c.self.inside.marks.items
          c.self.inside.search.derivation c.put_group.new.search.derivation c.put_group.ensures.older
          c.self.invariant.marked;
    }

pub returns-in_err-count-clause-err : goal.returns-in_err-count-clause-err
returns-in_err-count-clause-err c =
    let h = err_from_is_err_and c.from_residual-in_err-count.result c.from_residual-in_err-count.ensures.1 in
    let e = c.in_err-count.ensures in
    rw h.1
    (ap (λ (v : Option VerdictState).
    record {
      formula = c.self.inside.frames.formula;
      verdict = v;
      counts = c.self.inside.counts;
      restarts = c.self.inside.restarts;
      kept_rows = c.self.inside.kept_rows;
      kept_long = c.put_group.new.search.long;
    })
    (verdict_kept c.self.inside.search.derivation c.put_group.new.search.derivation e.same c.self.inside.verdict)
    ∙ ap (λ (x : EngineState). record x { kept_long = c.put_group.new.search.long }) c.self.view_is)

pub invariant_of-self-2 : goal.invariant_of-self-2
invariant_of-self-2 c = record {
  tied = c.forget_outcome.ensures.tied;
  held = tt;
  finishes = c.forget_outcome.ensures.finishes;
  cubes = λ none. c.forget_outcome.ensures.cubes
      (c.put_group.ensures.cubes (c.self.invariant.cubes
      (ap (λ (n : Counts). n.solves) (sym c.with_clauses-self-inside.ensures) ∙ none)));
  reductions = rw c.with_clauses-self-inside.ensures (clauses_counted c.self.inside.counts c.in_ok-count.count
      (reductions_in c.self.inside.search.derivation) (reductions_in c.forget_outcome.new.search.derivation)
      (rw (c.forget_outcome.ensures.reductions, c.in_ok-count.ensures.count) c.put_group.ensures.reductions)
      c.forget_outcome.ensures.fit c.self.invariant.reductions);
  variables = tt;
  long = tt;
  marked =
      let f = c.self.inside.frames.formula in
      let marks = c.self.inside.marks.items in
      let e = c.forget_outcome.new.search.derivation in
      let is : c.activate.new.self ≡ settled (formula_after f (Activate c.args.group)) =
      turned (refusal_of f (Activate c.args.group)) c.may_turn.result c.in_ok-number.number c.args.group
      c.activate.result _ c.in_ok-number.was c.may_turn.ensures c.activate.ensures.refused
      c.activate.ensures.ok in
      subst (λ (g : FramesState). AreMarkedIn g.formula marks e) (sym is)
      (older_marked f marks c.put_group.new.search.derivation e c.forget_outcome.ensures.older
      (older_marked f marks c.self.inside.search.derivation c.put_group.new.search.derivation
      c.put_group.ensures.older c.self.invariant.marked));
}
