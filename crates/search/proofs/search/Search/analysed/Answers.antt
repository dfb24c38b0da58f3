use Rattle.std.proofs.Common.{◌≡◌, ℕ, OnErr, OnOk, refl, sym, subst, ◌∙◌, rules}
use Rattle.steps.specs.declared.stop.Stop.TheVariants.{Spent as spent}
use Rattle.clean.specs.Marks.{MarksMore}
use Rattle.clean.specs.Reasons.{HaveReasons, IsReducedStep}
use Rattle.calculus.specs.Search.{IsBadRow, value_on}
use Rattle.derive.specs.State.{row_of}
use Rattle.search.specs.State.{IsSearching, SearchState}
use Rattle.search.specs.Moves.{Analyses, Halts, WasDue}
use Rattle.search.proofs.Aging.{older_grown}
use Rattle.search.proofs.Learning.{either_way, analyses, due_analysis, halts_analysis, on_err, on_err_with, on_ok, searching_analysed}
use Rattle.search.proofs.Laws.{agreeing_laws, holding_laws}
use Rattle.search.proofs.search.Search.analysed.Goals as goal

pub lesson_of-lesson-requires-clause-reasons : goal.lesson_of-lesson-requires-clause-reasons
lesson_of-lesson-requires-clause-reasons c =
    subst (λ (s : SearchState). HaveReasons c.args.side c.args.prefix.now s.derivation s.trail) (sym c.self.view_is)
    (c.requires.searching.reasons c.args.side)

abbrev old : (c : goal.After-budget-budget) → SearchState
old c = record {
  derivation = c.self.inside.derivation;
  trail = c.self.inside.trail;
  clauses =
      c.self.inside.watches.clauses;
  cubes = c.self.inside.watches.cubes;
  signs = c.self.inside.decider;
  watched =
      c.self.inside.watched.items;
  joined = c.self.inside.joined;
  long = c.self.inside.long;
}

abbrev new : (c : goal.After-budget-budget) → SearchState
new c = record {
  derivation = c.lesson_of-lesson.new.derivation;
  trail = c.lesson_of-lesson.new.trail;
  clauses =
      c.self.inside.watches.clauses;
  cubes = c.self.inside.watches.cubes;
  signs = c.bump_resolved.new.decider;
  watched =
      c.self.inside.watched.items;
  joined = c.self.inside.joined;
  long = c.self.inside.long;
}

searching_old : (c : goal.After-budget-budget) → IsSearching c.args.prefix.now (old c)
searching_old c = subst (IsSearching c.args.prefix.now) (sym c.self.view_is) c.requires.searching

searching_new : (c : goal.After-budget-budget) (made : ℕ) → MarksMore (old c).trail (new c).trail made
    → IsSearching c.args.prefix.now (new c)
searching_new c made marks =
    let e = c.lesson_of-lesson.ensures in
    searching_analysed c.args.prefix.now (old c) (new c) made holding_laws agreeing_laws
    (searching_old c) e.gains e.legal refl refl refl (c.bump_resolved.ensures ∙ (c.decay.ensures ∙ c.bump.ensures)) refl
    e.trail marks e.reasons

pub returns-clause-ok : goal.returns-clause-ok
returns-clause-ok c =
    let e = c.lesson_of-lesson.ensures in
    subst (λ (s : SearchState). OnOk c.lesson_of-lesson.result
    (Analyses c.args.prefix.now s (new c) c.args.steps.now c.lesson_of-lesson.new.steps)) c.self.view_is
    (on_ok c.lesson_of-lesson.result
    (analyses c.args.prefix.now (old c) (new c) c.args.steps.now c.lesson_of-lesson.new.steps
    c.budget-budget.ensures.within (searching_old c) (searching_new c)
    e.gains.clauses (older_grown _ _ e.gains.grows))
    e.counted)

pub returns-clause-stops : goal.returns-clause-stops
returns-clause-stops c = record {
  err =
      let e = c.lesson_of-lesson.ensures in
      subst (λ (s : SearchState). OnErr c.lesson_of-lesson.result
      (Halts c.args.prefix.now 1 s (new c) c.args.steps.now c.lesson_of-lesson.new.steps)) c.self.view_is
      (on_err c.lesson_of-lesson.result
      (halts_analysis c.args.prefix.now (old c)
      (new c) c.args.steps.now c.lesson_of-lesson.new.steps c.budget-budget.ensures.within (searching_old c)
      (searching_new c)
      e.gains.clauses (older_grown _ _ e.gains.grows))
      e.err);
  spent = search rules;
  due =
      λ is.
      let e = c.lesson_of-lesson.ensures in
      let step = subst (λ (s : SearchState). IsReducedStep c.args.side c.args.prefix.now s.derivation c.args.row)
      (sym c.self.view_is) c.requires.row in
      let is_bad = subst (λ (s : SearchState). IsBadRow c.args.side c.args.prefix.now (value_on s.trail.placed)
      (row_of s.derivation c.args.row)) (sym c.self.view_is) c.requires.bad in
      subst (λ (s : SearchState). WasDue c.args.prefix.now s (new c)) c.self.view_is
      (on_err_with c.lesson_of-lesson.result spent is
      (λ stops needs.
      due_analysis c.args.prefix.now (old c) (new c) c.args.steps.now c.lesson_of-lesson.new.steps
      c.budget-budget.ensures.within (searching_old c) (searching_new c)
      c.args.side c.args.row stops.made step is_bad needs stops.marks)
      e.err e.due);
  reductions = search rules;
}

pub returns-clause-restarts : goal.returns-clause-restarts
returns-clause-restarts c =
    let e = c.lesson_of-lesson.ensures in
    subst (λ (s : SearchState). c.lesson_of-lesson.new.trail.restarts ≡ s.trail.restarts) c.self.view_is
    (either_way c.lesson_of-lesson.result e.counted e.err (λ cleans. cleans.marks.restarts)
    (λ stops. stops.marks.restarts))
