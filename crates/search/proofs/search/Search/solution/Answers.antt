use Rattle.std.proofs.Common.{◌≡◌, arith, IsTrue, List, map, Contains, OnErr, OnOk, refl, sym, ap, subst, ◌∙◌, rules}
use Rattle.prefix.specs.declared.quant.Quant.TheVariants.{Forall}
use Rattle.prefix.specs.declared.quant.Quant.{Quant}
use Rattle.calculus.specs.Rows.{Row, reduce}
use Rattle.calculus.specs.Search.{IsBadRow, value_on}
use Rattle.truth.specs.Matrix.{clause_true}
use Rattle.trail.specs.Open.{AreAssigned}
use Rattle.derive.specs.State.{OpenClause, State, clauses_of, row_of, side_at, why_in}
use Rattle.search.specs.State.{IsSearching, SearchState}
use Rattle.search.proofs.Covering.{bad_reduced, quiet_true}
use Rattle.derive.specs.Adding.{cube_note}
use Rattle.clean.specs.Turns.{reductions_in}
use Rattle.search.specs.Counting.{ReducesFew}
use Rattle.search.specs.Moves.{Continues, Halts, WasDue}
use Rattle.search.specs.Moves.IsDue.{cube}
use Rattle.search.proofs.Reducing.{few_reduced, reductions_added}
use Rattle.search.proofs.Following.{continues_reduced, halts_reduction}
use Rattle.search.proofs.Aging.{older_grown}
use Rattle.search.proofs.Learning.{either_way, if_ok, on_err_both, on_ok_by, on_ok_with, searching_gained}
use Rattle.search.proofs.Laws.{agreeing_laws, holding_laws, reductions_keep_unit, row_laws, value_laws}
use Rattle.search.proofs.search.Search.solution.Goals as goal

pub cover-requires-clause-satisfied : goal.cover-requires-clause-satisfied
cover-requires-clause-satisfied c clause i =
    subst (λ (s : SearchState). IsTrue (clause_true (value_on s.trail.placed) clause)) (sym c.self.view_is)
    (quiet_true c.args.prefix.now c.args.self.now clause value_laws c.requires.searching.paused
    c.requires.quiet c.requires.assigned (c.requires.matrix.none_else clause i))

abbrev with_derivation : (c : goal.After-budget-budget) → State → SearchState
with_derivation c d =
    record {
      derivation = d;
      trail = c.self.inside.trail;
      clauses = c.self.inside.watches.clauses;
      cubes =
          c.self.inside.watches.cubes;
      signs = c.self.inside.decider;
      watched = c.self.inside.watched.items;
      joined = c.self.inside.joined;
      long = c.self.inside.long;
    }

covered : (c : goal.After-budget-budget) → IsSearching c.args.prefix.now (with_derivation c c.cover.new.derivation)
covered c =
    let searching = subst (IsSearching c.args.prefix.now) (sym c.self.view_is) c.requires.searching in
    searching_gained c.args.prefix.now (with_derivation c c.self.inside.derivation)
    (with_derivation c c.cover.new.derivation) holding_laws agreeing_laws searching
    c.in_ok-cube.ensures.gains (c.cover.ensures.legal searching.paused.intact.legal) refl refl refl refl refl refl

after_it : (c : goal.After-budget-budget)
    → IsSearching c.args.prefix.now (with_derivation c c.reduce_counted-reduced.new.self)
after_it c =
    let searching = covered c in
    either_way c.reduce_counted-reduced.result
    (on_ok_with c.reduce_counted-reduced.result
    (λ gains legal. searching_gained c.args.prefix.now (with_derivation c c.cover.new.derivation)
    (with_derivation c c.reduce_counted-reduced.new.self) holding_laws agreeing_laws searching gains
    (legal searching.paused.intact.legal) refl refl refl refl refl refl)
    c.reduce_counted-reduced.ensures.gains c.reduce_counted-reduced.ensures.legal)
    c.reduce_counted-reduced.ensures.err
    (λ now. now)
    (λ same. subst (λ (d : State). IsSearching c.args.prefix.now (with_derivation c d)) (sym same) searching)

pub returns-clause-ok : goal.returns-clause-ok
returns-clause-ok c =
    subst (λ (s : SearchState). OnOk c.reduce_counted-reduced.result (Continues c.args.prefix.now 0 1 s
    (with_derivation c c.reduce_counted-reduced.new.self) c.args.steps.now c.reduce_counted-reduced.new.steps))
    c.self.view_is
    (on_ok_by c.reduce_counted-reduced.result _
    (λ id removes counts. continues_reduced c.args.prefix.now (with_derivation c c.self.inside.derivation)
    (with_derivation c c.cover.new.derivation) (with_derivation c c.reduce_counted-reduced.new.self) c.args.steps.now
    c.reduce_counted-reduced.new.steps c.budget-budget.ensures.within c.in_ok-cube.ensures.gains.clauses
    (older_grown _ _ c.in_ok-cube.ensures.gains.grows) refl id
    c.in_ok-cube.cube _ (after_it c) removes counts)
    c.reduce_counted-reduced.ensures.ok c.reduce_counted-reduced.ensures.counted)

pub returns-clause-stops : goal.returns-clause-stops
returns-clause-stops c = record {
  err =
      subst (λ (s : SearchState). OnErr c.reduce_counted-reduced.result (Halts c.args.prefix.now 0 s
      (with_derivation c c.reduce_counted-reduced.new.self) c.args.steps.now c.reduce_counted-reduced.new.steps))
      c.self.view_is
      (on_err_both c.reduce_counted-reduced.result
      (λ same tried. halts_reduction c.args.prefix.now (with_derivation c c.self.inside.derivation)
      (with_derivation c c.cover.new.derivation) (with_derivation c c.reduce_counted-reduced.new.self) c.args.steps.now
      c.reduce_counted-reduced.new.steps c.budget-budget.ensures.within c.in_ok-cube.ensures.gains.clauses
      (older_grown _ _ c.in_ok-cube.ensures.gains.grows) refl
      (after_it c).paused same tried)
      c.reduce_counted-reduced.ensures.err c.reduce_counted-reduced.ensures.tried);
  spent = search rules;
  due =
      λ is.
      let own = c.reduce_counted-reduced.ensures.spent is in
      let covers = c.in_ok-cube.ensures.ok in
      let step = covers.step in
      let middle = c.cover.new.derivation in
      let clauses : clauses_of middle ≡ clauses_of c.args.self.now.derivation = c.in_ok-cube.ensures.gains.clauses
      ∙ ap (λ (s : SearchState). clauses_of s.derivation) c.self.view_is in
      let now = c.reduce_counted-reduced.new.self in
      subst (λ (s : SearchState). WasDue c.args.prefix.now s (with_derivation c now)) c.self.view_is
      (record {
        at = with_derivation c middle;
        searching = covered c;
        clauses = c.in_ok-cube.ensures.gains.clauses;
        assumed = λ assumptions a. a;
        assigned = refl;
        due = cube c.in_ok-cube.cube
            (record {
              assigned = subst (λ (s : SearchState). AreAssigned c.args.prefix.now s.trail.placed) (sym c.self.view_is)
                  c.requires.assigned;
              step = step.step;
              of_side = step.has_side;
              why = ap why_in covers.adds.there;
              literals = λ l i.
                  let m = covers.cover.literals l (subst (λ (r : Row). Contains r l) step.has_row i) in
                  record {
                    is_true = m.is_true;
                    clause = m.clause;
                    stands = subst (λ (cs : List OpenClause). Contains (map (λ (o : OpenClause). o.row) cs) m.clause)
                        (sym clauses) (c.requires.matrix.none_else m.clause m.stands);
                    holds = m.holds;
                    latest = m.latest;
                    alone = m.alone;
                  };
            })
            (λ e. own.0 (ap (λ (q : Quant). reduce q c.args.prefix.now (row_of middle c.in_ok-cube.cube)) step.has_side
            ∙ e));
      });
  reductions =
      let covers = c.in_ok-cube.ensures.ok in
      let added = reductions_added c.self.inside.derivation c.cover.new.derivation c.in_ok-cube.cube cube_note
      covers.row
      covers.adds in
      let same : reductions_in c.cover.new.derivation ≡ reductions_in c.self.inside.derivation = omega (arith, added) in
      subst (λ (s : SearchState). ReducesFew s.derivation c.reduce_counted-reduced.new.self c.args.steps.now
      c.reduce_counted-reduced.new.steps) c.self.view_is
      (few_reduced c.reduce_counted-reduced.result c.args.prefix.now c.self.inside.derivation c.cover.new.derivation
      c.reduce_counted-reduced.new.self c.args.steps.now c.reduce_counted-reduced.new.steps c.in_ok-cube.cube _ same
      c.reduce_counted-reduced.ensures.ok c.reduce_counted-reduced.ensures.counted
      c.reduce_counted-reduced.ensures.err);
}

reduced_is : (c : goal.After-budget-budget)
    → reduce (side_at c.cover.new.derivation c.in_ok-cube.cube) c.args.prefix.now
    (row_of c.cover.new.derivation c.in_ok-cube.cube) ≡ reduce Forall c.args.prefix.now c.in_ok-cube.ensures.ok.row
reduced_is c =
    let step = c.in_ok-cube.ensures.ok.step in
    ap (λ (q : Quant). reduce q c.args.prefix.now (row_of c.cover.new.derivation c.in_ok-cube.cube)) step.has_side
    ∙ ap (reduce Forall c.args.prefix.now) step.has_row

pub returns-clause-bad : goal.returns-clause-bad
returns-clause-bad c =
    let covers = c.in_ok-cube.ensures.ok in
    let values = value_on c.self.inside.trail.placed in
    if_ok c.reduce_counted-reduced.result
    (λ id is. subst (IsBadRow Forall c.args.prefix.now values) (sym (is.has_row ∙ reduced_is c))
    (bad_reduced c.args.prefix.now values covers.row reductions_keep_unit covers.cover.bad))
    c.reduce_counted-reduced.ensures.step

pub returns-clause-row : goal.returns-clause-row
returns-clause-row c =
    let covers = c.in_ok-cube.ensures.ok in
    if_ok c.reduce_counted-reduced.result
    (λ id is.
    let row : row_of c.reduce_counted-reduced.new.self id ≡ reduce Forall c.args.prefix.now covers.row = is.has_row
    ∙ reduced_is c in
    record {
      step = is.step;
      of_side = is.has_side ∙ covers.step.has_side;
      reduced = rw row (row_laws.reduce_twice Forall c.args.prefix.now covers.row);
    })
    c.reduce_counted-reduced.ensures.step
