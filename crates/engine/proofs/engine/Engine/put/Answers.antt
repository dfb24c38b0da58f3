use Rattle.std.proofs.Common.{◌≤◌, ◌∙◌, ap, ap₂, arith, subst, sym, Option, option_map}
use Rattle.std.proofs.lemmas.Result.{err_from_is_err_and}
use Rattle.clean.specs.Turns.{reductions_in}
use Rattle.frames.specs.Commands.{AddClause, formula_after}
use Rattle.frames.specs.State.{OpenFormula}
use Rattle.search.specs.Counting.{size_of}
use Rattle.search.proofs.Reducing.{reductions_same}
use Rattle.engine.specs.declared.counts.Counts.{Counts}
use Rattle.search.specs.State.{SearchState}
use Rattle.engine.specs.Given.{numbers_of}
use Rattle.engine.specs.State.{EngineState, VerdictState}
use Rattle.engine.specs.Verdicts.{told}
use Rattle.engine.proofs.Bounding.{clause_counted}
use Rattle.engine.proofs.Changing.{fewer_long, finishes_kept, held_kept, verdict_kept}
use Rattle.engine.proofs.Marked.{clause_marked, older_marked}
use Rattle.engine.proofs.engine.Engine.put.Goals as goal

pub invariant_of-self : goal.invariant_of-self
invariant_of-self c =
    let e = c.in_err-put_clause.ensures in
    record {
      tied = c.put_clause.ensures.tied;
      held = rw e.err (held_kept c.self.inside.search.derivation c.put_clause.new.search.derivation e.same
          c.self.inside.frames.formula c.self.inside.verdict c.self.invariant.held);
      finishes = finishes_kept c.self.inside.search.derivation c.put_clause.new.search.derivation e.same
          c.self.inside.verdict c.self.invariant.finishes;
      cubes = λ none. c.put_clause.ensures.cubes (c.self.invariant.cubes none);
      reductions = rw (reductions_same c.self.inside.search.derivation c.put_clause.new.search.derivation e.same)
          c.self.invariant.reductions;
      variables = rw e.err c.self.invariant.variables;
      long =
          let now = c.put_clause.ensures.tied.resting.tallied in
          let before = c.self.invariant.tied.resting.tallied in
          let fewer = e.fewer in
          rw e.err (fewer_long c.self.inside.verdict c.self.inside.search.derivation
          c.put_clause.new.search.derivation (size_of c.self.inside.frames.formula.scopes)
          (omega (arith, fewer, now, before)) c.self.invariant.long);
      marked = rw e.err (older_marked c.self.inside.frames.formula c.self.inside.marks.items
          c.self.inside.search.derivation c.put_clause.new.search.derivation c.put_clause.ensures.older
          c.self.invariant.marked);
    }

pub returns-in_err-put_clause-clause-err : goal.returns-in_err-put_clause-clause-err
returns-in_err-put_clause-clause-err c =
    let h = err_from_is_err_and c.from_residual.result c.from_residual.ensures.1 in
    let e = c.in_err-put_clause.ensures in
    rw h.1
    (ap₂ (λ (f : OpenFormula) (v : Option VerdictState).
    record {
      formula = f;
      verdict = v;
      counts = c.self.inside.counts;
      restarts = c.self.inside.restarts;
      kept_rows = c.self.inside.kept_rows;
      kept_long = c.put_clause.new.search.long;
    })
    e.err (verdict_kept c.self.inside.search.derivation c.put_clause.new.search.derivation e.same
    c.self.inside.verdict)
    ∙ ap (λ (x : EngineState). record x { kept_long = c.put_clause.new.search.long }) c.self.view_is)

pub returns-in_err-put_clause-clause-stays : goal.returns-in_err-put_clause-clause-stays
returns-in_err-put_clause-clause-stays c =
    let h = err_from_is_err_and c.from_residual.result c.from_residual.ensures.1 in
    let e = c.in_err-put_clause.ensures in
    rw (h.1, h.2) (λ other.
    ap₂ (λ (f : OpenFormula) (s : SearchState).
    record {
      formula = f;
      verdict = option_map (told s.derivation) c.self.inside.verdict;
      counts = c.self.inside.counts;
      restarts = c.self.inside.restarts;
      kept_rows = c.self.inside.kept_rows;
      kept_long = s.long;
    })
    e.err (e.stays other) ∙ c.self.view_is)

pub returns-in_err-put_clause-clause-fewer : goal.returns-in_err-put_clause-clause-fewer
returns-in_err-put_clause-clause-fewer c =
    let h = err_from_is_err_and c.from_residual.result c.from_residual.ensures.1 in
    rw h.1 (subst (λ (x : EngineState). c.put_clause.new.search.long ≤ x.kept_long) c.self.view_is
    c.in_err-put_clause.ensures.fewer)

pub invariant_of-self-2 : goal.invariant_of-self-2
invariant_of-self-2 c = record {
  tied = c.forget_outcome.ensures.tied;
  held = tt;
  finishes = c.forget_outcome.ensures.finishes;
  cubes = λ none. c.forget_outcome.ensures.cubes
      (c.put_clause.ensures.cubes (c.self.invariant.cubes
      (ap (λ (n : Counts). n.solves) (sym c.with_clause-self-inside.ensures) ∙ none)));
  reductions = rw c.with_clause-self-inside.ensures (clause_counted c.self.inside.counts
      (reductions_in c.self.inside.search.derivation) (reductions_in c.forget_outcome.new.search.derivation)
      (rw c.forget_outcome.ensures.reductions c.put_clause.ensures.reductions) c.forget_outcome.ensures.fit
      c.self.invariant.reductions);
  variables = tt;
  long = tt;
  marked =
      let f = c.self.inside.frames.formula in
      older_marked c.put_clause.new.frames.formula c.self.inside.marks.items c.put_clause.new.search.derivation
      c.forget_outcome.new.search.derivation c.forget_outcome.ensures.older
      (rw c.in_ok-put_clause.ensures.ok (older_marked (formula_after f (AddClause (numbers_of c.args.clause)))
      c.self.inside.marks.items c.self.inside.search.derivation c.put_clause.new.search.derivation
      c.put_clause.ensures.older
      (clause_marked f (numbers_of c.args.clause) c.self.inside.marks.items c.self.inside.search.derivation
      c.self.invariant.marked)));
}
