-- What a solve comes to.
use Rattle.std.proofs.Common.{◌≡◌, ◌≢◌, ℕ, ◌≤◌, Bool, true, false, [], Option, refl, sym, ap, subst, ◌∙◌, arith}
use Rattle.std.specs.Prelude.{IfSome}
use Rattle.steps.specs.Counter.{Counter}
use Rattle.truth.specs.Truth.{truth_under}
use Rattle.frames.specs.State.{open_clauses}
use Rattle.search.specs.Counting.{size_of}
use Rattle.engine.specs.Counting.{with_solve}
use Rattle.engine.specs.declared.verdict.Verdict.{Verdict}
use Rattle.engine.specs.State.{EngineState, VerdictState}
use Rattle.engine.specs.Verdicts.{HasProof}
use Rattle.qbf_c.specs.Codes.{truth_code}
use Rattle.qbf_c.specs.Solved.{SolveSays, Solved, counter}

-- a verdict's code tells its truth
is_ten : (t : Bool) → truth_code t ≡ 10 → t ≡ true
is_ten true e = refl
is_ten false e = absurd (let f : ◌≡◌ {A = ℕ} 20 10 = e in omega (arith, f))

is_twenty : (t : Bool) → truth_code t ≡ 20 → t ≡ false
is_twenty true e = absurd (let f : ◌≡◌ {A = ℕ} 10 20 = e in omega (arith, f))
is_twenty false e = refl

is_either : (t : Bool) → truth_code t ≢ 10 → truth_code t ≢ 20 → ⊥
is_either true ten twenty = ten refl
is_either false ten twenty = twenty refl

not_zero : (t : Bool) → truth_code t ≡ 0 → ⊥
not_zero true e = absurd (let f : ◌≡◌ {A = ℕ} 10 0 = e in omega (arith, f))
not_zero false e = absurd (let f : ◌≡◌ {A = ℕ} 20 0 = e in omega (arith, f))

-- what a solve leaves however it ends
pub record Leaves (budget spent : ℕ) (before now : EngineState) : Type 0 where
  pub within : spent ≤ budget
  pub counts : now.counts ≡ with_solve budget before.restarts (size_of before.formula.scopes) before.counts
  pub restarts : now.restarts ≡ before.restarts
  pub kept_rows : now.kept_rows ≡ before.kept_rows

-- what a verdict comes to
pub verdict_solves : (before now : EngineState) (v : Verdict)
    → v.truth ≡ truth_under before.formula.assumptions before.formula.scopes (open_clauses before.formula)
    → HasProof before.formula v now.verdict → now.formula ≡ record before.formula { assumptions = [] }
    → IfSome now.verdict (λ w. w.kept ≡ before.kept_rows) → Solved v.truth before now
verdict_solves before now v truth p emptied obeyed = record {
  truth = sym truth;
  emptied = emptied;
  state = p.state;
  there = p.there;
  same_truth = p.same_truth;
  same_assumptions = p.same_assumptions;
  proof = p.proof;
  last_row = p.last_row;
  obeyed = subst (λ (o : Option VerdictState). IfSome o (λ w. w.kept ≡ before.kept_rows)) p.there obeyed;
}

pub solved_says : (budget spent code : ℕ) (before now : EngineState) (t : Bool) → Solved t before now
    → Leaves budget spent before now → code ≡ truth_code t → SolveSays budget before now spent code
solved_says budget spent code before now t solved leaves is = record {
  yes = λ e. subst (λ b. Solved b before now) (is_ten t (sym is ∙ e)) solved;
  no = λ e. subst (λ b. Solved b before now) (is_twenty t (sym is ∙ e)) solved;
  stopped = λ ten twenty. absurd (is_either t (λ e. ten (is ∙ e)) (λ e. twenty (is ∙ e)));
  ran_out = λ e. absurd (not_zero t (sym is ∙ e));
  codes = λ ten twenty none. absurd (is_either t (λ e. ten (is ∙ e)) (λ e. twenty (is ∙ e)));
  within = leaves.within;
  counts = leaves.counts;
  restarts = leaves.restarts;
  kept_rows = leaves.kept_rows;
}

-- the steps that a counter has counted
pub within_budget : (budget spent : ℕ) (start end : Counter) → start ≡ counter budget 0 → end.budget ≡ start.budget
    → spent ≡ end.spent → end.spent ≤ end.budget → spent ≤ budget
within_budget budget spent start end new same is within =
    let all : end.budget ≡ budget = same ∙ ap (λ (c : Counter). c.budget) new in omega (arith, all, is, within)
