-- Worked values: what is written of verdicts whose circuit has an output, and check formulas beyond a limit.
use Rattle.std.specs.Prelude.{◌≡◌, ℕ, ◌<◌, Bool, true, false, List, [], ◌∷◌, codes, replicate}
use Rattle.prefix.specs.declared.quant.Quant.TheVariants.{Exists, Forall}
use Rattle.prefix.specs.Literal.{Literal}
use Rattle.truth.specs.declared.formula.Formula.{Formula}
use Rattle.truth.specs.Limits.{max_vars}
use Rattle.trail.specs.State.{Account}
use Rattle.aig.specs.declared.edge.Node.TheVariants.{Constant}
use Rattle.aig.specs.declared.strategy.Strategy.{Strategy}
use Rattle.calculus.specs.Worked.{minus}
use Rattle.reading.specs.declared.refusal.Quantity.{Quantity}
use Rattle.reading.specs.declared.refusal.Quantity.TheVariants.{Clauses, Variables}
use Rattle.solve.specs.declared.answer.Answer.TheVariants.{Sat, Unknown, Unsat}
use Rattle.solve.specs.Terms.{Terms, terms_of}
use Rattle.solve.specs.Worked.{at_thirty_six, differs, nothing_fits}
use Rattle.files.specs.declared.check.Outcome.TheVariants.{Beyond, Checked, Undecided}
use Rattle.files.specs.declared.job.Job.TheVariants.{Solve as SolveJob, Qdo as QdoJob}
use Rattle.files.specs.Checks.{HasCircuit, IsCheck}
use Rattle.files.specs.Jobs.{IsJobText, IsReplyTo}
use Rattle.files.specs.Worked.{anything_fits, at_nineteen}

-- a literal of the variable 1
abbrev pub one : Bool → Literal
one b = record { variable = 1; positive = b }

-- so many clauses that say, each, that 1 has this value
abbrev pub repeated : Bool → ℕ → Formula
repeated b n = record {
  prefix = record { quantifier = Exists; variables = 1 ∷ [] } ∷ [];
  clauses = replicate n (one b ∷ []);
  declared_vars = 1;
  declared_clauses = n;
}

-- the circuit by which it has this value
abbrev pub always : Bool → Strategy
always b = record {
  aig = record { inputs = 0; gates = [] };
  winner = Exists;
  inputs = [];
  outputs = record { var = 1; edge = record { node = Constant; negated = b } } ∷ [];
}

-- a search over one variable that stopped at seven steps, before any assignment
abbrev pub at_seven : Account
at_seven = record { budget = 7; vars = 1; assigned = 0; restarts = 0 }

-- no step, and no restart
abbrev pub no_step : Terms
no_step = terms_of 0 0 512

pub record WorkedVerdicts : Type 0 where
  -- the solution line with the winner's value, and neither alone nor with another value or answer
  pub with_value : IsJobText QdoJob no_step (repeated false 1) Sat (codes "s cnf 1 1 1\nV -1 0\n")
  pub no_value : IsJobText QdoJob no_step (repeated false 1) Sat (codes "s cnf 1 1 1\n") → ⊥
  pub other_value : IsJobText QdoJob no_step (repeated false 1) Sat (codes "s cnf 1 1 1\nV 1 0\n") → ⊥
  pub other_answer : IsJobText QdoJob no_step (repeated false 1) Sat (codes "s cnf 0 1 1\nV -1 0\n") → ⊥
  pub without_values : IsJobText QdoJob no_step nothing_fits Unsat (codes "s cnf 0 0 1\n")
  -- no verdict without a proof
  pub no_proof : (text : List ℕ) → IsJobText SolveJob no_step anything_fits Unsat text → ⊥
  -- no entry of another budget, or of a search over another number of variables
  pub other_budget : IsReplyTo SolveJob (terms_of 19 0 512) (differs Forall Exists) ([], at_thirty_six ∷ []) Unknown
      (codes "UNKNOWN\n") → ⊥
  pub other_search : IsReplyTo SolveJob (terms_of 19 0 512) (differs Forall Exists)
      ([], record at_nineteen { vars = 3 } ∷ []) Unknown (codes "UNKNOWN\n") → ⊥

pub record WorkedCircuits : Type 0 where
  -- the circuit of a verdict, whose first values are those by which the formula is decided
  pub circuit : (b : Bool) (n : ℕ) → HasCircuit no_step (repeated b n) true (always b)
  pub other_circuit : HasCircuit no_step (repeated false 1) true (always true) → ⊥
  pub its_values : (c : Strategy) (h : HasCircuit no_step (repeated false 1) true c) → h.witness.values ≡ minus 1 ∷ []
  -- Seven steps may be too few for its check formula, which is over one variable. That is told, and else nothing is.
  pub undecided : IsCheck true (terms_of 7 0 512) (repeated false 1) ([], at_seven ∷ []) Undecided
      (codes "UNDECIDED\n")
  pub undecided_untold : IsCheck true (terms_of 7 0 512) (repeated false 1) ([], []) Undecided (codes "UNDECIDED\n") → ⊥
  pub told_of_none : IsCheck false no_step anything_fits ([], at_nineteen ∷ []) (Checked true) (codes "p cnf 0 1\n0\n")
      → ⊥
  -- With a selector for each of too many clauses there are too many variables. The circuit is written, and no search is
  -- told of.
  pub beyond : (n : ℕ) → max_vars < n → IsCheck false no_step (repeated true n) ([], []) (Beyond Variables)
      (codes "aag 0 0 0 1 0\n1\no0 1\nc\nskolem\n")
  pub other_quantity : (n : ℕ) (text : List ℕ) → max_vars < n
      → IsCheck false no_step (repeated true n) ([], []) (Beyond Clauses) text → ⊥
  pub no_circuit : (n : ℕ) → IsCheck false no_step (repeated true n) ([], []) (Beyond Variables) [] → ⊥
  pub beyond_told : (n : ℕ) (text : List ℕ)
      → IsCheck false no_step (repeated true n) ([], at_nineteen ∷ []) (Beyond Variables) text → ⊥
  pub within : (quantity : Quantity) (text : List ℕ)
      → IsCheck false no_step anything_fits ([], []) (Beyond quantity) text → ⊥
