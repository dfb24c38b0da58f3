-- Decisions of solves.
use Rattle.std.proofs.Common.{◌≡◌, ◌<◌, ℕ, ◌+◌, ◌-◌, ◌^◌, Bool, true, false, [], Some, None, refl, sym, ap, ap₂, subst, ◌∙◌, arith, inl, inr}
use Rattle.std.specs.Prelude.{◌≤◌, IfSome, max, min, option_map}
use Rattle.std.proofs.lemmas.Bool.Decides.{nat_tests}
use Rattle.prefix.specs.Scopes.{quantifier_at}
use Rattle.steps.specs.Counter.{Counter, left, step_limit}
use Rattle.truth.specs.Truth.{truth_under}
use Rattle.calculus.specs.Search.{IsRefuted}
use Rattle.calculus.specs.Verdicts.{IsProof}
use Rattle.trail.specs.State.{Account}
use Rattle.frames.specs.Commands.{Solve as Decide, Stop, Verdict as Found}
use Rattle.frames.specs.Fold.{state_after}
use Rattle.frames.specs.State.{OpenFormula, open_clauses}
use Rattle.calculus.specs.Limits.{propagation_limit}
use Rattle.search.specs.Counting.{size_of}
use Rattle.search.specs.Stops.{IsQuickStop}
use Rattle.search.specs.declared.outcome.SolveStop.TheVariants.{Spent}
use Rattle.engine.specs.declared.verdict.Verdict.{Verdict}
use Rattle.engine.specs.Asks.{AreFirstValues, PlaysFirst, first_values}
use Rattle.engine.specs.Counting.{with_solve}
use Rattle.engine.specs.Refusals.{winner_of}
use Rattle.engine.specs.State.{EngineState, VerdictState}
use Rattle.engine.specs.Verdicts.{HasProof, IsStopFor, loser_of}
use Rattle.solve.specs.declared.decision.Decision.TheVariants.{Unknown}
use Rattle.solve.specs.Outputs.{says, verdict_text}
use Rattle.solve.specs.Answers.{answer_line}
use Rattle.solve.specs.Standing.{IsWitness, Standing}
use Rattle.solve.specs.Entries.{IsStopAt}
use Rattle.solve.specs.Holding.{Holds, given_of}
use Rattle.solve.specs.Decisions.{told_by, IsRight}
use Rattle.solve.specs.Decisions.{IsDecided, answered, decision_of, truth_of}
use Rattle.solve.specs.Terms.{Terms}

-- a count goes on, up to its last value
pub one_more_solve : (a most : ℕ) → min (min a most + 1) most ≡ min (a + 1) most
one_more_solve a most = grind (arith, nat_tests)

-- the decision that tells a truth is right of it
pub told_is_right : (b : Bool) → IsRight b (decision_of b)
told_is_right true = refl
told_is_right false = refl

module _ (terms : Terms) (s : Standing) (before e : EngineState) (holds : Holds terms before s) where
  counted : (n : ℕ) → e.counts ≡ with_solve terms.budget before.restarts n before.counts
      → e.counts.solves ≡ min (s.script.solves + 1) (2 ^ 64 - 1)
  counted n counts = ap (λ c. c.solves) counts ∙ ap (λ m. min (m + 1) (2 ^ 64 - 1)) holds.solves
      ∙ one_more_solve s.script.solves (2 ^ 64 - 1)

  module _ (counts : e.counts ≡ with_solve terms.budget before.restarts (size_of before.formula.scopes)
      before.counts) where
    no_more_clauses : e.counts.clauses ≤ s.script.clauses
    no_more_clauses = let same = ap (λ c. c.clauses) counts in let low = holds.clauses in omega (arith, same, low)

    no_greater_budget : e.counts.budget ≤ terms.budget
    no_greater_budget =
        let same : e.counts.budget ≡ max before.counts.budget terms.budget = ap (λ c. c.budget) counts in
        let low = holds.budgets in omega (arith, same, low)

    no_more_restarts : e.restarts ≡ before.restarts → max e.counts.restarts e.restarts ≤ terms.greatest
    no_more_restarts kept =
        let same : e.counts.restarts ≡ max before.counts.restarts before.restarts = ap (λ c. c.restarts) counts in
        let low = holds.most_restarts in omega (arith, same, kept, low)

    no_more_variables : e.counts.vars ≤ max s.script.greatest (size_of s.script.formula.scopes)
    no_more_variables =
        let same : e.counts.vars ≡ max before.counts.vars (size_of before.formula.scopes) = ap (λ c. c.vars) counts in
        let size : size_of s.script.formula.scopes ≡ size_of before.formula.scopes =
        ap (λ (f : OpenFormula). size_of f.scopes) holds.formula in
        let low = holds.variables in omega (arith, same, size, low)

  module _ (v : Verdict) (t : Bool) (same : v.truth ≡ t)
      (truth : v.truth ≡ truth_under before.formula.assumptions before.formula.scopes
      (open_clauses before.formula)) (proof : HasProof before.formula v e.verdict)
      (emptied : e.formula ≡ record before.formula { assumptions = [] }) (same_restarts : e.restarts ≡ before.restarts)
      (same_kept : e.kept_rows ≡ before.kept_rows)
      (counts : e.counts ≡ with_solve terms.budget before.restarts (size_of before.formula.scopes) before.counts)
      (plays : IfSome e.verdict (PlaysFirst e.formula)) where
    abbrev state : VerdictState
    state = proof.state

    abbrev after : Standing
    after = record {
      script = state_after s.script (Decide (Found t));
      witness = record { proof = state.proof; values = first_values e.formula state };
    }

    is_state : (w : VerdictState) → e.verdict ≡ Some w → state ≡ w
    is_state w some = let both : Some state ≡ Some w = sym proof.there ∙ some in cc

    held : Holds terms e after
    held = record {
      formula = ap (λ (f : OpenFormula). record f { assumptions = [] }) holds.formula ∙ sym emptied;
      verdict = ap₂ (λ (b : Bool) (f : OpenFormula). Some (record { truth = b; assumptions = f.assumptions }))
          (sym same ∙ sym proof.same_truth) holds.formula
          ∙ ap (λ l. Some (record { truth = state.truth; assumptions = l })) (sym proof.same_assumptions)
          ∙ sym (ap (option_map given_of) proof.there);
      proof = λ w some. ap (λ (v : VerdictState). v.proof) (is_state w some);
      values = λ w some. ap (first_values e.formula) (is_state w some);
      clauses = no_more_clauses counts;
      solves = counted (size_of before.formula.scopes) counts;
      budgets = no_greater_budget counts;
      restarts = same_restarts ∙ holds.restarts;
      most_restarts = no_more_restarts counts same_restarts;
      kept = same_kept ∙ holds.kept;
      variables = no_more_variables counts;
    }

    first : quantifier_at before.formula.scopes 1 ≡ Some (winner_of t)
        → AreFirstValues before.formula t before.formula.assumptions (first_values e.formula state)
    first quantifier =
        let there : PlaysFirst e.formula state = subst (λ o. IfSome o (PlaysFirst e.formula)) proof.there plays in
        let won : quantifier_at e.formula.scopes 1 ≡ Some (winner_of state.truth) =
        ap (λ (f : OpenFormula). quantifier_at f.scopes 1) emptied ∙ quantifier
        ∙ ap (λ b. Some (winner_of b)) (sym same ∙ sym proof.same_truth) in
        let are = there won in
        let at : AreFirstValues (record before.formula { assumptions = [] }) t before.formula.assumptions
        (first_values e.formula state) =
        subst (λ f. AreFirstValues f t before.formula.assumptions (first_values e.formula state)) emptied
        (subst (λ b. AreFirstValues e.formula b before.formula.assumptions (first_values e.formula state))
        (proof.same_truth ∙ same)
        (subst (λ l. AreFirstValues e.formula state.truth l (first_values e.formula state)) proof.same_assumptions
        are)) in
        record { variables = at.variables; assumed = at.assumed; decide = at.decide }

    witness : IsWitness before.formula (record { truth = t; assumptions = before.formula.assumptions })
        (record { proof = state.proof; values = first_values e.formula state })
    witness = record {
      proof = subst (λ b. IsProof (loser_of b) before.formula.scopes (open_clauses before.formula)
          before.formula.assumptions state.proof) same proof.proof;
      values = first;
    }

    pub found : IsDecided terms s (decision_of t) e
    found = record {
      after = after;
      solved = inl (record {
        truth = t;
        right = right;
        witness = subst (λ (f : OpenFormula). IsWitness f (record { truth = t; assumptions = f.assumptions })
            (record { proof = state.proof; values = first_values e.formula state })) (sym holds.formula) witness;
        says_truth = line t;
        state = refl;
      });
      right = subst (λ b. IsRight b (decision_of t)) (sym right) (told_is_right t);
      holds = held;
    }
      where
        right : truth_of s.script.formula ≡ t
        right = subst (λ (f : OpenFormula). truth_of f ≡ t) (sym holds.formula) (sym truth ∙ same)

        line : (b : Bool) → record { text = answer_line (answered (decision_of b)); stops = told_by (decision_of b) }
            ≡ says (verdict_text b)
        line true = refl
        line false = refl

  module _ (counter now : Counter) (stopped : Account) (fresh : counter.spent ≡ 0)
      (whole : counter.budget ≡ terms.budget)
      (ends : now.budget ≡ counter.budget) (kept : e.formula ≡ before.formula) (none : e.verdict ≡ None)
      (same_restarts : e.restarts ≡ before.restarts) (same_kept : e.kept_rows ≡ before.kept_rows)
      (counts : e.counts ≡ with_solve counter.budget before.restarts (size_of before.formula.scopes) before.counts)
      (stop : IsStopFor before.restarts before.formula counter now (Spent stopped))
      (quick : before.counts.solves ≡ 0 → IsRefuted before.formula.scopes (open_clauses before.formula)
      before.formula.assumptions → IsQuickStop (size_of before.formula.scopes) counter (Spent stopped)) where
    abbrev left_over : Standing
    left_over = record s { script = state_after s.script (Decide Stop) }

    none_is : (w : VerdictState) {P : Type 0} → e.verdict ≡ Some w → P
    none_is w some = absurd (let both : None ≡ Some w = sym none ∙ some in cc)

    gives_up : (f : OpenFormula) → f ≡ before.formula → terms.budget < step_limit terms.restarts (size_of f.scopes)
    gives_up f same = subst (λ (g : OpenFormula). terms.budget < step_limit terms.restarts (size_of g.scopes))
        (sym same) (let short = subst (λ r. left counter < step_limit r (size_of before.formula.scopes)) holds.restarts
        stop.stops.short in let zero = fresh in let all = whole in omega arith)

    pub gave_up : IsDecided terms s (Unknown stopped) e
    gave_up = record {
      after = left_over;
      solved = inr (record {
        stopped = stopped;
        short = gives_up s.script.formula holds.formula;
        slow = slow;
        stop = subst (λ (g : OpenFormula). IsStopAt terms (size_of g.scopes) stopped) (sym holds.formula) at;
        says_unknown = refl;
        state = refl;
      });
      right = tt;
      holds = record {
        formula = holds.formula ∙ sym kept;
        verdict = sym (ap (option_map given_of) none);
        proof = λ w some. none_is w some;
        values = λ w some. none_is w some;
        clauses = no_more_clauses same_counts;
        solves = counted (size_of before.formula.scopes) same_counts;
        budgets = no_greater_budget same_counts;
        restarts = same_restarts ∙ holds.restarts;
        most_restarts = no_more_restarts same_counts same_restarts;
        kept = same_kept ∙ holds.kept;
        variables = no_more_variables same_counts;
      };
    }
      where
        same_counts : e.counts ≡ with_solve terms.budget before.restarts (size_of before.formula.scopes) before.counts
        same_counts = subst (λ b. e.counts ≡ with_solve b before.restarts (size_of before.formula.scopes)
            before.counts) whole counts

        at : IsStopAt terms (size_of before.formula.scopes) stopped
        at = record {
          budget = stop.stops.budget ∙ whole;
          vars = stop.stops.vars;
          few = let few = stop.stops.few in let spent = stop.stops.spent in omega (arith, ends, whole, fresh);
          restarts = subst (λ r. stopped.restarts ≤ r) holds.restarts stop.stops.restarts;
        }

        slow : s.script.solves ≡ 0 → IsRefuted s.script.formula.scopes (open_clauses s.script.formula)
            s.script.formula.assumptions → terms.budget < propagation_limit (size_of s.script.formula.scopes)
        slow zero refuted =
            let first : before.counts.solves ≡ 0 = holds.solves ∙ ap (λ m. min m (2 ^ 64 - 1)) zero in
            subst (λ (g : OpenFormula). terms.budget < propagation_limit (size_of g.scopes)) (sym holds.formula)
            (let fast = quick first (subst (λ (g : OpenFormula). IsRefuted g.scopes (open_clauses g)
            g.assumptions) holds.formula refuted) in omega (arith, fresh, whole))
