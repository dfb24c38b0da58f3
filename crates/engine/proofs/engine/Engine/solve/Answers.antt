use Rattle.std.proofs.Common.{◌≡◌, length, List, sym, ap, ap₂, ◌∙◌, arith, subst}
use Rattle.std.proofs.lemmas.Result.{err_from_is_err_and}
use Rattle.prefix.specs.Literal.{Literal}
use Rattle.prefix.specs.Scopes.{IsAscending, Scope, all_variables}
use Rattle.calculus.specs.Rows.{Row, variables_in}
use Rattle.calculus.specs.Search.{IsRefuted}
use Rattle.calculus.specs.Verdicts.{relevant_of}
use Rattle.derive.specs.State.{State, row_of}
use Rattle.clean.specs.Turns.{reductions_in}
use Rattle.frames.specs.State.{open_clauses}
use Rattle.search.specs.Counting.{size_of}
use Rattle.engine.specs.declared.verdict.Held.{Held}
use Rattle.engine.specs.Kept.{IsFound}
use Rattle.engine.specs.State.{EngineState}
use Rattle.engine.proofs.Bounding.{solve_counted, some_solves, undecided, unsolved_counted}
use Rattle.engine.proofs.Framing.{tied_legal}
use Rattle.engine.proofs.Changing.{found_without, without_assumptions}
use Rattle.engine.proofs.Telling.{end_ascends, has_proof, stops}
use Rattle.engine.proofs.Marked.{older_marked}
use Rattle.engine.proofs.engine.Engine.solve.Goals as goal

pub returns-in_err-assumed-clause-stop : goal.returns-in_err-assumed-clause-stop
returns-in_err-assumed-clause-stop c =
    let h = err_from_is_err_and c.from_residual.result c.from_residual.ensures.1 in
    rw (h.1, h.2, ← c.self.view_is)
    (stops c.self.inside.restarts c.self.inside.frames.formula c.forget_outcome.new.search c.args.steps.now
    c.args.steps.now _ c.forget_outcome.ensures.tied tt)

pub returns-in_err-verdict-clause-quick : goal.returns-in_err-verdict-clause-quick
returns-in_err-verdict-clause-quick c none refuted =
    let h = err_from_is_err_and c.from_residual-in_err-verdict.result c.from_residual-in_err-verdict.ensures.1 in
    let first : c.self.inside.counts.solves ≡ 0 = ap (λ (e : EngineState). e.counts.solves) c.self.view_is ∙ none in
    let same = subst (λ (e : EngineState). IsRefuted e.formula.scopes
    (open_clauses e.formula) e.formula.assumptions) (sym c.self.view_is) refuted in
    rw (h.1, h.2, ← c.self.view_is) (c.in_err-verdict.ensures.quick
    (c.forget_outcome.ensures.cubes (c.self.invariant.cubes first)) same)

pub returns-in_err-relevant-clause-stop : goal.returns-in_err-relevant-clause-stop
returns-in_err-relevant-clause-stop c =
    let h = err_from_is_err_and c.from_residual-in_err-relevant.result c.from_residual-in_err-relevant.ensures.1 in
    rw (h.1, h.2, ← c.self.view_is)
    (stops c.self.inside.restarts c.self.inside.frames.formula c.forget_outcome.new.search c.args.steps.now
    c.args.steps.now _ c.forget_outcome.ensures.tied tt)

pub keep_mentioned-requires : goal.keep_mentioned-requires
keep_mentioned-requires c =
    let f = c.self.inside.frames.formula in
    let d = c.decide.new.search.derivation in
    let v = c.in_ok-verdict.verdict in
    let tied = c.decide.ensures.tied in
    subst (λ (row : Row). IsAscending (variables_in row))
    (sym (c.lits.ensures ∙ ap (λ (s : State). row_of s v.end) c.derivation.ensures))
    (end_ascends f d f.assumptions v c.prefix-valid.ensures.valid.distinct (tied_legal f c.decide.new.search tied)
    c.in_ok-verdict.ensures.found c.end_rows_give_proofs.ensures c.proofs_decide.ensures
    c.steps_are_listed.ensures)

pub returns-clause-proof : goal.returns-clause-proof
returns-clause-proof c =
    let f = c.self.inside.frames.formula in
    let d = c.decide.new.search.derivation in
    let v = c.in_ok-verdict.verdict in
    let tied = c.decide.ensures.tied in
    let assumed : c.from_vec.result ≡ f.assumptions = c.from_vec.ensures ∙ c.in_ok-assumed.ensures
    ∙ c.assumptions.ensures.value in
    let found = subst (λ (a : List Literal). IsFound f d a v) (sym assumed) c.in_ok-verdict.ensures.found in
    let held : Held = record {
      verdict = v;
      assumed = c.from_vec.result;
      relevant = c.from_vec-2.result;
      kept = c.self.inside.kept_rows;
    } in
    rw (← c.self.view_is)
    (has_proof f d held c.prefix-valid.ensures.valid.distinct (tied_legal f c.decide.new.search tied) found assumed
    c.end_rows_give_proofs.ensures c.proofs_decide.ensures
    c.steps_are_listed.ensures)

pub returns-clause-obeyed : goal.returns-clause-obeyed
returns-clause-obeyed c = ap (λ (e : EngineState). e.kept_rows) c.self.view_is

pub invariant_of-self-2 : goal.invariant_of-self-2
invariant_of-self-2 c =
    let f = c.self.inside.frames.formula in
    let d = c.decide.new.search.derivation in
    let v = c.in_ok-verdict.verdict in
    let e = c.in_ok-verdict.ensures in
    let assumed : c.from_vec.result ≡ f.assumptions = c.from_vec.ensures ∙ c.in_ok-assumed.ensures
    ∙ c.assumptions.ensures.value in
    let vars : c.len.result ≡ size_of f.scopes = c.len.ensures.value
    ∙ ap (λ (ss : List Scope). length (all_variables ss)) c.prefix.ensures.value in
    rw (c.clear_assumptions.ensures, c.with_solve-self-inside.ensures, c.budget.ensures.value, vars) (record {
      tied = without_assumptions f c.decide.new.search c.decide.ensures.tied;
      held = record {
        found = found_without f d c.from_vec.result v
            (subst (λ (a : List Literal). IsFound f d a v) (sym assumed) e.found);
        relevant = c.from_vec-2.ensures ∙ c.keep_mentioned.ensures
            ∙ ap₂ (λ (a : List Literal) (row : Row). relevant_of a row)
            (c.in_ok-relevant.ensures ∙ c.assumptions-2.ensures.value ∙ sym assumed)
            (c.lits.ensures ∙ ap (λ (s : State). row_of s v.end) c.derivation.ensures);
      };
      finishes = e.finishes;
      cubes = λ none. absurd (some_solves c.self.inside.counts none);
      reductions = solve_counted c.self.inside.counts c.args.steps.now c.decide.new.steps c.self.inside.restarts
          (size_of f.scopes)
          (reductions_in c.self.inside.search.derivation) (reductions_in c.forget_outcome.new.search.derivation)
          (reductions_in d) c.forget_outcome.ensures.reductions e.reductions e.fit e.few e.within e.budget
          c.self.invariant.reductions;
      variables = omega arith;
      long = e.long;
      marked = older_marked c.self.inside.frames.formula c.self.inside.marks.items
          c.forget_outcome.new.search.derivation
          c.decide.new.search.derivation c.decide.ensures.older
          (older_marked c.self.inside.frames.formula c.self.inside.marks.items c.self.inside.search.derivation
          c.forget_outcome.new.search.derivation c.forget_outcome.ensures.older c.self.invariant.marked);
    })

-- solves without a verdict

pub invariant_of-self : goal.invariant_of-self
invariant_of-self c =
    let e = c.forget_outcome.ensures in
    rw c.with_solve-self-inside.ensures (undecided c.self.inside.frames.formula c.forget_outcome.new.search
    c.self.inside.counts c.self.inside.marks.items c.budget.result c.self.inside.restarts c.len.result e.tied e.finishes
    (unsolved_counted c.self.inside.counts c.budget.result c.self.inside.restarts c.len.result
    (reductions_in c.self.inside.search.derivation) (reductions_in c.forget_outcome.new.search.derivation)
    e.reductions e.fit c.self.invariant.reductions)
    (older_marked c.self.inside.frames.formula c.self.inside.marks.items c.self.inside.search.derivation
    c.forget_outcome.new.search.derivation c.forget_outcome.ensures.older c.self.invariant.marked))

pub invariant_of-self-in_err-relevant : goal.invariant_of-self-in_err-relevant
invariant_of-self-in_err-relevant c =
    let e = c.forget_outcome.ensures in
    rw c.with_solve-self-inside.ensures (undecided c.self.inside.frames.formula c.forget_outcome.new.search
    c.self.inside.counts c.self.inside.marks.items c.budget.result c.self.inside.restarts c.len.result e.tied e.finishes
    (unsolved_counted c.self.inside.counts c.budget.result c.self.inside.restarts c.len.result
    (reductions_in c.self.inside.search.derivation) (reductions_in c.forget_outcome.new.search.derivation)
    e.reductions e.fit c.self.invariant.reductions)
    (older_marked c.self.inside.frames.formula c.self.inside.marks.items c.self.inside.search.derivation
    c.forget_outcome.new.search.derivation c.forget_outcome.ensures.older c.self.invariant.marked))

pub invariant_of-self-in_err-verdict : goal.invariant_of-self-in_err-verdict
invariant_of-self-in_err-verdict c =
    let f = c.self.inside.frames.formula in
    let d = c.decide.new.search.derivation in
    let e = c.in_err-verdict.ensures in
    let vars : c.len.result ≡ size_of f.scopes = c.len.ensures.value
    ∙ ap (λ (ss : List Scope). length (all_variables ss)) c.prefix.ensures.value in
    rw (c.with_solve-self-inside.ensures, c.budget.ensures.value, vars) (undecided f c.decide.new.search
    c.self.inside.counts c.self.inside.marks.items c.args.steps.now.budget c.self.inside.restarts (size_of f.scopes)
    e.tied e.unfinished
    (solve_counted c.self.inside.counts c.args.steps.now c.decide.new.steps c.self.inside.restarts (size_of f.scopes)
    (reductions_in c.self.inside.search.derivation) (reductions_in c.forget_outcome.new.search.derivation)
    (reductions_in d) c.forget_outcome.ensures.reductions e.reductions e.fit e.few e.within e.budget
    c.self.invariant.reductions)
    (older_marked c.self.inside.frames.formula c.self.inside.marks.items c.forget_outcome.new.search.derivation
    c.decide.new.search.derivation c.decide.ensures.older
    (older_marked c.self.inside.frames.formula c.self.inside.marks.items c.self.inside.search.derivation
    c.forget_outcome.new.search.derivation c.forget_outcome.ensures.older c.self.invariant.marked)))

pub invariant_of-self-in_err-matrix : goal.invariant_of-self-in_err-matrix
invariant_of-self-in_err-matrix c =
    let e = c.forget_outcome.ensures in
    rw c.with_solve-self-inside.ensures (undecided c.self.inside.frames.formula c.forget_outcome.new.search
    c.self.inside.counts c.self.inside.marks.items c.budget.result c.self.inside.restarts c.len.result e.tied e.finishes
    (unsolved_counted c.self.inside.counts c.budget.result c.self.inside.restarts c.len.result
    (reductions_in c.self.inside.search.derivation) (reductions_in c.forget_outcome.new.search.derivation)
    e.reductions e.fit c.self.invariant.reductions)
    (older_marked c.self.inside.frames.formula c.self.inside.marks.items c.self.inside.search.derivation
    c.forget_outcome.new.search.derivation c.forget_outcome.ensures.older c.self.invariant.marked))

pub returns-in_err-matrix-clause-stop : goal.returns-in_err-matrix-clause-stop
returns-in_err-matrix-clause-stop c =
    let h = err_from_is_err_and c.from_residual-in_err-matrix.result c.from_residual-in_err-matrix.ensures.1 in
    rw (h.1, h.2, ← c.self.view_is) (stops c.self.inside.restarts c.self.inside.frames.formula
    c.forget_outcome.new.search c.args.steps.now c.args.steps.now _ c.forget_outcome.ensures.tied tt)
