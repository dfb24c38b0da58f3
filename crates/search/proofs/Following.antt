-- Parts of a turn that follow each other.
use Rattle.std.proofs.Common.{◌≡◌, ◌⊎◌, ⊎_elim, ℕ, ◌+◌, ◌^◌, ◌<◌, ◌≤◌, List, map, Contains, refl, sym, ap, subst, ◌∙◌, arith}
use Rattle.prefix.specs.declared.quant.Quant.{Quant}
use Rattle.prefix.specs.Literal.{Literal}
use Rattle.prefix.specs.Scopes.{Scope}
use Rattle.steps.specs.Counter.{Counter, after}
use Rattle.calculus.specs.Rows.{Row}
use Rattle.calculus.specs.Search.{AreTheAssumptions, IsUnitIn, Trail, cut_trail, value_on}
use Rattle.calculus.specs.Verdicts.{IsEndRow}
use Rattle.trail.specs.State.{TrailState, counted}
use Rattle.trail.specs.declared.allowed.Allowed.TheVariants.{Anything}
use Rattle.derive.specs.State.{State, Notes, OpenClause, clauses_of, may_be_antecedent, note_in, row_of, side_in}
use Rattle.clean.specs.Reasons.{IsReducedStep}
use Rattle.analyse.specs.Lessons.{EndsOn}
use Rattle.decide.specs.Decision.{IsDecision}
use Rattle.decide.specs.Memory.{Memory}
use Rattle.search.specs.State.{IsPaused, IsSearching, SearchState}
use Rattle.search.specs.Counting.{IsBounded, IsCounted, lesson_cost, size_of}
use Rattle.search.specs.Forgetting.{Forgets}
use Rattle.search.specs.Moves.{Advances, Analyses, BeginsAnew, Continues, Ends, Halts, IsMatrix, KeepsAssumptions, KeepsOlder, Proceeds, Remains, SameSteps, Undoes, WasDue}
use Rattle.search.specs.Moves.IsDue.{decision, unit}
use Rattle.search.specs.Stops.{WasSpentWhenDue}
use Rattle.search.specs.Stops.WasSpentWhenDue.{searching as in_search}
use Rattle.std.specs.Prelude.{IfOk, IfSome, Option, Some, None, Result, Ok, Err}
use Rattle.search.specs.declared.outcome.EndRow.{EndRow}
use Rattle.search.specs.Watching.{Keeps, Looks}
use Rattle.clean.proofs.Keeping.{after_none}
use Rattle.clean.proofs.Turning.{reduces}
use Rattle.derive.specs.Adding.{CountsRemoval, Removes}
use Rattle.calculus.specs.Derivations.Why.{ReducedFrom}
use Rattle.search.proofs.Aging.{older_removed, older_same, older_then}
use Rattle.search.proofs.Counting.{bounded_now, bounded_step, counted_step, counted_weaker}

-- the derivation stayed, and then its steps did
older_kept : (old cut kept : State) → cut ≡ old → SameSteps cut kept → KeepsOlder old kept
older_kept old cut kept same steps = subst (λ (d : State). KeepsOlder d kept) same (older_same cut kept steps)

-- a step of a derivation with the same steps
pub step_same : (side : Quant) (scopes : List Scope) (old new : State) (id : ℕ) → SameSteps old new
    → IsReducedStep side scopes old id → IsReducedStep side scopes new id
step_same side scopes old new id same step = record {
  step = ap (λ (notes : Notes). may_be_antecedent (note_in notes id)) same.notes ∙ step.step;
  of_side = ap (λ (notes : Notes). side_in (note_in notes id)) same.notes ∙ step.of_side;
  reduced = rw (same.literals id) step.reduced;
}

-- a literal was due once the trail was cut and the row kept
pub due_unit : (scopes : List Scope) (level : ℕ) (s cut kept new : SearchState) (side : Quant) (row : ℕ)
    (literal : Literal) → Undoes scopes level s cut → Keeps scopes cut kept
    → IsReducedStep side scopes s.derivation row
    → IsUnitIn side scopes (value_on (cut_trail level s.trail.placed)) (row_of s.derivation row) literal → new ≡ kept
    → WasDue scopes s new
due_unit scopes level s cut kept new side row literal undoes keeps step is_unit same =
    let trail : kept.trail.placed ≡ cut_trail level s.trail.placed = ap (λ (t : TrailState). t.placed) keeps.trail
    ∙ undoes.placed in
    let there = step_same side scopes cut.derivation kept.derivation row keeps.steps (rw undoes.derivation step) in
    let literals : row_of kept.derivation row ≡ row_of s.derivation row = keeps.steps.literals row
    ∙ ap (λ (d : State). row_of d row) undoes.derivation in
    record {
      at = kept;
      searching = keeps.searching;
      clauses = keeps.steps.clauses ∙ ap clauses_of undoes.derivation;
      assumed = λ assumptions h. subst (λ (t : TrailState). AreTheAssumptions t.placed assumptions) (sym keeps.trail)
          (undoes.assumed assumptions h);
      assigned = ap (λ (x : SearchState). x.trail.assigned) same;
      due = unit side row literal there (subst
          (λ (t : Trail). IsUnitIn side scopes (value_on t) (row_of kept.derivation row) literal) (sym trail)
          (subst (λ (r : Row). IsUnitIn side scopes (value_on (cut_trail level s.trail.placed)) r literal)
          (sym literals) is_unit));
    }

-- the literal was assigned then
pub advances_undone : (scopes : List Scope) (level : ℕ) (s cut kept new : SearchState) (before now : Counter)
    → Undoes scopes level s cut → Keeps scopes cut kept → Advances scopes 0 kept new before now
    → Advances scopes (lesson_cost (size_of scopes)) s new before now
advances_undone scopes level s cut kept new before now undoes keeps goes = record {
  searching = goes.searching;
  clauses = goes.clauses ∙ (keeps.steps.clauses ∙ ap clauses_of undoes.derivation);
  older = older_then s.derivation kept.derivation new.derivation
      (older_kept s.derivation cut.derivation kept.derivation undoes.derivation keeps.steps) goes.older;
  assumed = λ assumptions h. goes.assumed assumptions
      (subst (λ (t : TrailState). AreTheAssumptions t.placed assumptions) (sym keeps.trail)
      (undoes.assumed assumptions h));
  allowed = goes.allowed;
  budget = goes.budget;
  rises = goes.rises;
  counted =
      λ start is.
      let r = goes.counted start (subst (λ (t : TrailState). IsCounted (size_of scopes) 0 start t before)
      (sym keeps.trail) (undoes.paid start before is)) in
      let assigned = ap (λ (t : TrailState). t.assigned) keeps.trail in
      let restarts = ap (λ (t : TrailState). t.restarts) keeps.trail in
      let assigned_cut = undoes.assigned in
      let restarts_cut = undoes.restarts in
      let more = r.1 in
      (r.0, omega (arith, assigned, restarts, assigned_cut, restarts_cut, more));
}

-- after an analysis
module _ (scopes : List Scope) (s between new : SearchState) (before now end : Counter)
    (analyses : Analyses scopes s between before now) where
  pub due_later : WasDue scopes between new → WasDue scopes s new
  due_later h = record {
    at = h.at;
    searching = h.searching;
    clauses = h.clauses ∙ analyses.clauses;
    assumed = λ assumptions a. h.assumed assumptions (analyses.assumed assumptions a);
    assigned = h.assigned;
    due = h.due;
  }

  pub halts_later : Halts scopes (lesson_cost (size_of scopes)) between new now end → Halts scopes 1 s new before end
  halts_later h =
      let more = h.rises in
      let rises = analyses.rises in
      record {
        paused = h.paused;
        clauses = h.clauses ∙ analyses.clauses;
        older = older_then s.derivation between.derivation new.derivation analyses.older h.older;
        budget = h.budget ∙ analyses.budget;
        rises = omega arith;
        bounded = λ start is. h.bounded start (analyses.owed start is);
      }

  pub advances_later : Advances scopes (lesson_cost (size_of scopes)) between new now end
      → Advances scopes 1 s new before end
  advances_later h =
      let more = h.rises in
      let rises = analyses.rises in
      record {
        searching = h.searching;
        clauses = h.clauses ∙ analyses.clauses;
        older = older_then s.derivation between.derivation new.derivation analyses.older h.older;
        assumed = λ assumptions a. h.assumed assumptions (analyses.assumed assumptions a);
        allowed = h.allowed;
        budget = h.budget ∙ analyses.budget;
        rises = omega arith;
        counted = λ start is. let r = h.counted start (analyses.owed start is) in
            (r.0, rw (← analyses.assigned, ← analyses.restarts) r.1);
      }

pub ends_analysed : (scopes : List Scope) (s new : SearchState) (before now : Counter) (side : Quant) (row : ℕ)
    → Analyses scopes s new before now → IsReducedStep side scopes new.derivation row
    → EndsOn side scopes new.trail.placed (row_of new.derivation row) → Ends scopes 1 s new before now side row
ends_analysed scopes s new before now side row analyses step ends = record {
  paused = analyses.searching.paused;
  clauses = analyses.clauses;
  older = analyses.older;
  budget = analyses.budget;
  rises = analyses.rises;
  bounded = λ start is. bounded_now (size_of scopes) (lesson_cost (size_of scopes)) start new.trail new.trail now
      (omega arith) refl
      (analyses.owed start is);
  row = step;
  end = λ assumptions a. ends assumptions (analyses.assumed assumptions a);
}

-- and the end row was kept
pub ends_kept : (scopes : List Scope) (s between new : SearchState) (before now : Counter) (side : Quant) (row : ℕ)
    → Ends scopes 1 s between before now side row → Keeps scopes between new
    → Ends scopes 1 s new before now side row
ends_kept scopes s between new before now side row ends keeps = record {
  paused = keeps.searching.paused;
  clauses = keeps.steps.clauses ∙ ends.clauses;
  older = older_then s.derivation between.derivation new.derivation ends.older
      (older_same between.derivation new.derivation keeps.steps);
  budget = ends.budget;
  rises = ends.rises;
  bounded = λ start is. subst (λ (t : TrailState). IsBounded (size_of scopes) start t now) (sym keeps.trail)
      (ends.bounded start is);
  row = step_same side scopes between.derivation new.derivation row keeps.steps ends.row;
  end = λ assumptions a. subst (λ (r : Row). IsEndRow side scopes assumptions r) (sym (keeps.steps.literals row))
      (ends.end assumptions a);
}

-- after what goes on
module _ {scopes : List Scope} {owed owes : ℕ} {s between new : SearchState} {before now end : Counter}
    (goes : Continues scopes owed owes s between before now) where
  pub advances_then : Advances scopes owes between new now end → Advances scopes owed s new before end
  advances_then h =
      let more = h.rises in
      let rises = goes.rises in
      record {
        searching = h.searching;
        clauses = h.clauses ∙ goes.clauses;
        older = older_then s.derivation between.derivation new.derivation goes.older h.older;
        assumed = λ assumptions a. h.assumed assumptions (goes.assumed assumptions a);
        allowed = h.allowed;
        budget = h.budget ∙ goes.budget;
        rises = omega arith;
        counted = λ start is. let p = goes.counted start is in let r = h.counted start p.0 in
            let remains = p.1 in let proceeds = r.1 in (r.0, omega (arith, remains, proceeds));
      }

  pub continues_then : {then : ℕ} → Continues scopes owes then between new now end
      → Continues scopes owed then s new before end
  continues_then h =
      let more = h.rises in
      let rises = goes.rises in
      record {
        searching = h.searching;
        clauses = h.clauses ∙ goes.clauses;
        older = older_then s.derivation between.derivation new.derivation goes.older h.older;
        assumed = λ assumptions a. h.assumed assumptions (goes.assumed assumptions a);
        budget = h.budget ∙ goes.budget;
        rises = omega arith;
        counted = λ start is. let p = goes.counted start is in let r = h.counted start p.0 in
            let first = p.1 in let second = r.1 in (r.0, omega (arith, first, second));
      }

  pub halts_then : Halts scopes owes between new now end → Halts scopes owed s new before end
  halts_then h =
      let more = h.rises in
      let rises = goes.rises in
      record {
        paused = h.paused;
        clauses = h.clauses ∙ goes.clauses;
        older = older_then s.derivation between.derivation new.derivation goes.older h.older;
        budget = h.budget ∙ goes.budget;
        rises = omega arith;
        bounded = λ start is. h.bounded start (goes.counted start is).0;
      }

  pub ends_then : (side : Quant) (id : ℕ) → Ends scopes owes between new now end side id
      → Ends scopes owed s new before end side id
  ends_then side id h =
      let more = h.rises in
      let rises = goes.rises in
      record {
        paused = h.paused;
        clauses = h.clauses ∙ goes.clauses;
        older = older_then s.derivation between.derivation new.derivation goes.older h.older;
        budget = h.budget ∙ goes.budget;
        rises = omega arith;
        bounded = λ start is. h.bounded start (goes.counted start is).0;
        row = h.row;
        end = λ assumptions a. h.end assumptions (goes.assumed assumptions a);
      }

pub due_then : {scopes : List Scope} {owed owes : ℕ} {s between new : SearchState} {before now : Counter}
    → Continues scopes owed owes s between before now → WasDue scopes between new → WasDue scopes s new
due_then goes h = record {
  at = h.at;
  searching = h.searching;
  clauses = h.clauses ∙ goes.clauses;
  assumed = λ assumptions a. h.assumed assumptions (goes.assumed assumptions a);
  assigned = h.assigned;
  due = h.due;
}

-- the search is as it was, but for what the watches looked at
pub continues_looked : {scopes : List Scope} {s new : SearchState} (c : Counter) → Looks scopes s new
    → Continues scopes 0 0 s new c c
continues_looked {scopes} {s} {new} c looks = record {
  searching = looks.searching;
  clauses = looks.steps.clauses;
  older = older_same s.derivation new.derivation looks.steps;
  assumed = λ assumptions a. subst (λ (t : TrailState). AreTheAssumptions t.placed assumptions) (sym looks.trail) a;
  budget = refl;
  rises = omega arith;
  counted = λ start is. subst (λ (t : TrailState). IsCounted (size_of scopes) 0 start t c × Remains s.trail t)
      (sym looks.trail) (is, (let e : Remains s.trail s.trail = omega arith in e));
}

-- it advanced
pub continues_advanced : {scopes : List Scope} {s new : SearchState} {before now : Counter}
    → Advances scopes 0 s new before now → Continues scopes 0 0 s new before now
continues_advanced {scopes} {s} {new} h = record {
  searching = h.searching;
  clauses = h.clauses;
  older = h.older;
  assumed = h.assumed;
  budget = h.budget;
  rises = h.rises;
  counted = λ start is. let r = h.counted start is in
      let more = r.1 in let e : Remains s.trail new.trail = omega (arith, more) in (r.0, e);
}

-- more may be owed
pub continues_owing : {scopes : List Scope} {s new : SearchState} {before now : Counter}
    → Continues scopes 0 0 s new before now → Continues scopes 0 1 s new before now
continues_owing {scopes} {s} {new} {before} {now} h = record {
  searching = h.searching;
  clauses = h.clauses;
  older = h.older;
  assumed = h.assumed;
  budget = h.budget;
  rises = h.rises;
  counted = λ start is. let r = h.counted start is in
      (counted_weaker (size_of scopes) 0 1 start new.trail now (omega arith) r.0, r.1);
}

-- it stops there
pub halts_now : {scopes : List Scope} {owed : ℕ} {s new : SearchState} {before now : Counter}
    → Continues scopes owed 0 s new before now → Halts scopes owed s new before now
halts_now {scopes} {owed} {s} {new} {before} {now} goes = record {
  paused = goes.searching.paused;
  clauses = goes.clauses;
  older = goes.older;
  budget = goes.budget;
  rises = goes.rises;
  bounded = λ start is. bounded_now (size_of scopes) 0 start new.trail new.trail now (omega arith) refl
      (goes.counted start is).0;
}

-- from a search with the same steps and the same trail
pub continues_moved : {scopes : List Scope} {owed owes : ℕ} {v s new : SearchState} {before now : Counter}
    → v.derivation ≡ s.derivation → v.trail ≡ s.trail → Continues scopes owed owes v new before now
    → Continues scopes owed owes s new before now
continues_moved {scopes} {owed} {owes} {v} {s} {new} {before} {now} same trail goes = record {
  searching = goes.searching;
  clauses = goes.clauses ∙ ap clauses_of same;
  older = subst (λ (d : State). KeepsOlder d new.derivation) same goes.older;
  assumed = subst (λ (t : TrailState). KeepsAssumptions t new.trail) trail goes.assumed;
  budget = goes.budget;
  rises = goes.rises;
  counted = subst (λ (t : TrailState). (start : ℕ) → IsCounted (size_of scopes) owed start t before
      → IsCounted (size_of scopes) owes start new.trail now × Remains t new.trail) trail goes.counted;
}

-- an initial cube came in, with its reduction
module _ (scopes : List Scope) (s middle new : SearchState) (before now : Counter) (within : now.spent ≤ now.budget)
    (clauses : clauses_of middle.derivation ≡ clauses_of s.derivation)
    (older : KeepsOlder s.derivation middle.derivation) (same : new.trail ≡ s.trail) where
  pub continues_reduced : (id a : ℕ) (row : Row) → IsSearching scopes new
      → Removes middle.derivation new.derivation id a (ReducedFrom a) row
      → CountsRemoval (row_of middle.derivation a) row before now → Continues scopes 0 1 s new before now
  continues_reduced id a row searching removes counts =
      let r = reduces scopes middle.derivation new.derivation before now id a row removes counts in
      let spent : now.spent ≡ before.spent + r.reduced = ap (λ (c : Counter). c.spent) r.counted in
      record {
        searching = searching;
        clauses = r.clauses ∙ clauses;
        older = older_then s.derivation middle.derivation new.derivation older
            (older_removed middle.derivation new.derivation id a (ReducedFrom a) row removes);
        assumed = λ assumptions h. subst (λ (t : TrailState). AreTheAssumptions t.placed assumptions) (sym same) h;
        budget = ap (λ (c : Counter). c.budget) r.counted;
        rises = omega arith;
        counted = λ start is. subst (λ (t : TrailState). IsCounted (size_of scopes) 1 start t now × Remains s.trail t)
            (sym same) (
              counted_step (size_of scopes) start r.reduced s.trail before now r.once r.counted within is,
              (let e : Remains s.trail s.trail = omega arith in e),
            );
      }

  pub halts_reduction : IsPaused scopes new → new.derivation ≡ middle.derivation
      → (now ≡ before) ⊎ (now ≡ after before 1) → Halts scopes 0 s new before now
  halts_reduction paused there tried =
      ⊎_elim (λ none. stopped 0 (omega arith) (none ∙ after_none before)) (λ one. stopped 1 (omega arith) one) tried
    where
      stopped : (k : ℕ) → k ≤ 1 → now ≡ after before k → Halts scopes 0 s new before now
      stopped k once is =
          let spent : now.spent ≡ before.spent + k = ap (λ (c : Counter). c.spent) is in
          record {
            paused = paused;
            clauses = ap clauses_of there ∙ clauses;
            older = subst (KeepsOlder s.derivation) (sym there) older;
            budget = ap (λ (c : Counter). c.budget) is;
            rises = omega arith;
            bounded = λ start. bounded_step (size_of scopes) start k s.trail new.trail before now once
                (ap (λ (t : TrailState). t.assigned) same) is;
          }

-- a decision was due
pub due_decision : (scopes : List Scope) (s new : SearchState) (x : ℕ) → IsSearching scopes s
    → s.trail.allowed ≡ Anything → IsDecision scopes s.trail.placed x → new.trail.assigned ≡ s.trail.assigned
    → WasDue scopes s new
due_decision scopes s new x searching may is same = record {
  at = s;
  searching = searching;
  clauses = refl;
  assumed = λ assumptions a. a;
  assigned = same;
  due = decision x may is;
}

-- a literal was due
pub due_now : (scopes : List Scope) (s new : SearchState) (side : Quant) (row : ℕ) (literal : Literal)
    → IsSearching scopes s → IsReducedStep side scopes s.derivation row
    → IsUnitIn side scopes (value_on s.trail.placed) (row_of s.derivation row) literal → new ≡ s → WasDue scopes s new
due_now scopes s new side row literal searching step is same = record {
  at = s;
  searching = searching;
  clauses = refl;
  assumed = λ assumptions a. a;
  assigned = ap (λ (x : SearchState). x.trail.assigned) same;
  due = unit side row literal step is;
}

-- the matrix of the same clauses
pub matrix_moves : (old new : State) (matrix : List Row) → clauses_of new ≡ clauses_of old → IsMatrix old matrix
    → IsMatrix new matrix
matrix_moves old new matrix same h = record {
  there = λ row i. h.there row (subst (λ (cs : List OpenClause). Contains (map (λ (c : OpenClause). c.row) cs) row)
      same i);
  none_else = λ row i. subst (λ (cs : List OpenClause). Contains (map (λ (c : OpenClause). c.row) cs) row) (sym same)
      (h.none_else row i);
}

-- a turn in which a step was due, in a search with these clauses under these assumptions
pub due_at_stop : (scopes : List Scope) (first : State) (s new : SearchState) (assumptions : List Literal)
    (before : Counter) → clauses_of s.derivation ≡ clauses_of first → AreTheAssumptions s.trail.placed assumptions
    → WasDue scopes s new → WasSpentWhenDue scopes first assumptions before new.trail.assigned
due_at_stop scopes first s new assumptions before clauses assumed h =
    in_search h.at h.searching (h.clauses ∙ clauses) (h.assumed assumptions assumed) h.assigned h.due

-- the search began anew, and a row was kept; or there was no memory for it
module _ (scopes : List Scope) (s cut kept : SearchState) (steps : Counter) (began : BeginsAnew scopes s cut)
    (keeps : Keeps scopes cut kept) where
  pub advances_anew : s.trail.restarts + 1 < 2 ^ 64
      → Advances scopes (lesson_cost (size_of scopes)) s kept steps steps
  advances_anew small =
      let more : cut.trail.restarts ≡ s.trail.restarts + 1 = began.restarts ∙ (let e : counted s.trail.restarts 1
      ≡ s.trail.restarts + 1 = omega arith in e) in
      let same = began.assigned in
      let goes : Proceeds s.trail cut.trail = omega arith in
      record {
        searching = keeps.searching;
        clauses = keeps.steps.clauses ∙ ap clauses_of began.derivation;
        older = older_kept s.derivation cut.derivation kept.derivation began.derivation keeps.steps;
        assumed = λ assumptions h. subst (λ (t : TrailState). AreTheAssumptions t.placed assumptions) (sym keeps.trail)
            (began.assumed assumptions h);
        allowed = ap (λ (t : TrailState). t.allowed) keeps.trail ∙ began.allowed;
        budget = refl;
        rises = omega arith;
        counted = λ start is. (
          subst (λ (t : TrailState). IsCounted (size_of scopes) 0 start t steps) (sym keeps.trail)
              (began.paid start steps is),
          subst (λ (t : TrailState). Proceeds s.trail t) (sym keeps.trail) goes,
        );
      }

  pub restarts_anew : s.trail.restarts + 1 < 2 ^ 64 → kept.trail.restarts ≡ s.trail.restarts + 1
  restarts_anew small = ap (λ (t : TrailState). t.restarts) keeps.trail ∙ (began.restarts
      ∙ (let e : counted s.trail.restarts 1 ≡ s.trail.restarts + 1 = omega arith in e))

  pub halts_anew : Halts scopes (lesson_cost (size_of scopes)) s kept steps steps
  halts_anew = record {
    paused = keeps.searching.paused;
    clauses = keeps.steps.clauses ∙ ap clauses_of began.derivation;
    older = older_kept s.derivation cut.derivation kept.derivation began.derivation keeps.steps;
    budget = refl;
    rises = omega arith;
    bounded = λ start. bounded_now (size_of scopes) (lesson_cost (size_of scopes)) start s.trail kept.trail steps
        (omega arith) (ap (λ (t : TrailState). t.assigned) keeps.trail ∙ began.assigned);
  }

-- by the outcome of a turn
pub ends_within : {E : Type 0} (r : Result (Option EndRow) E) (P Q : EndRow → Type 0) → ((e : EndRow) → P e → Q e)
    → IfOk r (λ end. IfSome end P) → IfOk r (λ end. IfSome end Q)
ends_within (Ok None) P Q f h = h
ends_within (Ok (Some e)) P Q f h = f e h
ends_within (Err e) P Q f h = h

-- the priorities of variables were raised, which no contract sees
pub bumped_same : (s old : SearchState) (signs : Memory) → signs ≡ s.signs → s ≡ old
    → record s { signs = signs } ≡ old
bumped_same s old signs same view = ap (λ (m : Memory). record s { signs = m }) same ∙ view

-- with other names of what it came to
pub advances_at : (scopes : List Scope) (slack : ℕ) (s between new : SearchState) (before now end : Counter)
    → new ≡ between → end ≡ now → Advances scopes slack s between before now → Advances scopes slack s new before end
advances_at scopes slack s between new before now end same counted h =
    subst (λ (t : SearchState). Advances scopes slack s t before end) (sym same)
    (subst (λ (c : Counter). Advances scopes slack s between before c) (sym counted) h)

-- long rows may be forgotten once more was assigned
pub advances_forgot : (kept : ℕ) (scopes : List Scope) (slack : ℕ) (s between new : SearchState) (before now : Counter)
    → Advances scopes slack s between before now → Forgets kept scopes between new
    → Advances scopes slack s new before now
advances_forgot kept scopes slack s between new before now h forgets = record {
  searching = forgets.searching;
  clauses = forgets.clauses ∙ h.clauses;
  older = older_then s.derivation between.derivation new.derivation h.older forgets.older;
  assumed = λ assumptions a. subst (λ (t : TrailState). AreTheAssumptions t.placed assumptions) (sym forgets.trail)
      (h.assumed assumptions a);
  allowed = ap (λ (t : TrailState). t.allowed) forgets.trail ∙ h.allowed;
  budget = h.budget;
  rises = h.rises;
  counted = λ start is. let r = h.counted start is in rw forgets.trail r;
}

-- or the search stops there
pub halts_advanced : (scopes : List Scope) (slack : ℕ) (s between new : SearchState) (before now : Counter)
    → Advances scopes slack s between before now → new ≡ between → Halts scopes slack s new before now
halts_advanced scopes slack s between new before now h same =
    subst (λ (t : SearchState). Halts scopes slack s t before now) (sym same) (record {
      paused = h.searching.paused;
      clauses = h.clauses;
      older = h.older;
      budget = h.budget;
      rises = h.rises;
      bounded = λ start is. bounded_now (size_of scopes) 0 start between.trail between.trail now (omega arith) refl
          (h.counted start is).0;
    })
