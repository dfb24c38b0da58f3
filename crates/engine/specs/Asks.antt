-- What a verdict answers where it is asked.
use Rattle.std.specs.Prelude.{map, ◌≡◌, ◌≢◌, ◌≤◌, ℕ, Bool, false, List, filter, length, Contains, Option, Some, None, Result, IfSome, IfOk, unwrap_or}
use Rattle.std.specs.Option.{option_map}
use Rattle.prefix.specs.Literal.{Literal}
use Rattle.prefix.specs.Scopes.{IsAscending, all_variables, quantifier_at, quantifier_of, variables_at}
use Rattle.prefix.specs.Sides.{is_of}
use Rattle.truth.specs.Truth.{assumed_value, truth_under}
use Rattle.calculus.specs.Derivations.{Why}
use Rattle.calculus.specs.Derivations.Why.{Given, ReducedFrom, ResolvedFrom, FinishedFrom}
use Rattle.calculus.specs.Limits.{gate_weight}
use Rattle.calculus.specs.Plays.{DependsOnEarlier, FollowsProof, KeepsInputs, Wins, first_of_two, literals_of, played}
use Rattle.calculus.specs.Rows.{Assignment, Row, bad_choice, literal_over, variables_in}
use Rattle.calculus.specs.Verdicts.{AreOuter, IsProof}
use Rattle.derive.specs.State.{State, row_of, why_at}
use Rattle.frames.specs.State.{OpenFormula, open_clauses}
use Rattle.step_core.specs.Cores.{end_row_in}
use Rattle.aig.specs.declared.edge.Node.TheVariants.{Constant}
use Rattle.aig.specs.declared.strategy.Strategy.{Strategy}
use Rattle.aig.specs.Strategies.{output_of, output_vars, values_of as circuit_values}
use Rattle.engine.specs.declared.refusal.AskRefusal.{AskRefusal}
use Rattle.engine.specs.declared.verdict.Held.{Held}
use Rattle.engine.specs.declared.verdict.Verdict.{Verdict}
use Rattle.engine.specs.Refusals.{winner_of}
use Rattle.engine.specs.State.{VerdictState}
use Rattle.engine.specs.Verdicts.{loser_of}

-- what is said of the verdict that stands and of the answer, where there are both
abbrev pub IfAnswered : {T : Type 0} → Option VerdictState → Result T AskRefusal → (VerdictState → T → Type 0)
    → Type 0
IfAnswered verdict result P = IfSome verdict (λ v. IfOk result (P v))

-- the truth with the step that the proof ends in
abbrev pub verdict_of : VerdictState → Verdict
verdict_of v = record { truth = v.truth; end = v.end }

-- what holds of the verdict of a formula: it is the truth under its assumptions, which are of the first scope and
-- ascend by variable, and it has a proof, whose last row is that of its end
pub record IsVerdictOf (formula : OpenFormula) (v : VerdictState) : Type 0 where
  pub outer : AreOuter formula.scopes v.assumptions
  pub ascending : IsAscending (variables_in v.assumptions)
  pub truth : v.truth ≡ truth_under v.assumptions formula.scopes (open_clauses formula)
  pub proof : IsProof (loser_of v.truth) formula.scopes (open_clauses formula) v.assumptions v.proof
  pub last_row : proof.last.row ≡ v.row

-- under these assumptions the formula has the truth of the verdict
abbrev pub Decides : OpenFormula → VerdictState → List Literal → Type 0
Decides formula v assumptions = truth_under assumptions formula.scopes (open_clauses formula) ≡ v.truth

-- the values of the play that follows the verdict's proof, where the loser's variables are false
abbrev pub values_of : OpenFormula → VerdictState → Assignment
values_of formula v = played (loser_of v.truth) formula.scopes v.assumptions v.proof (λ _. false)

-- the same, as literals over the variables of the first scope
abbrev pub first_values : OpenFormula → VerdictState → List Literal
first_values formula v = literals_of (values_of formula v) (variables_at formula.scopes 1)

-- the row that the last row of a verdict's proof is the finish of: that of the step which the end finishes, or its own
abbrev pub end_row_of : State → ℕ → Row
end_row_of d end = row_of d (end_row_in (why_at d end) end)

-- values of all variables of the first scope, in order, assumed ones as assumed, under which the formula has this truth
pub record AreFirstValues (formula : OpenFormula) (truth : Bool) (assumptions values : List Literal) : Type 0 where
  pub variables : map (λ (l : Literal). l.variable) values ≡ variables_at formula.scopes 1
  pub assumed : (x : ℕ) (b : Bool) → assumed_value assumptions x ≡ Some b → assumed_value values x ≡ Some b
  pub decide : truth_under values formula.scopes (open_clauses formula) ≡ truth

-- where the first scope is the winner's, the values of the play are such values
abbrev pub PlaysFirst : OpenFormula → VerdictState → Type 0
PlaysFirst formula v = quantifier_at formula.scopes 1 ≡ Some (winner_of v.truth) →
    AreFirstValues formula v.truth v.assumptions (first_values formula v)

-- the value that makes the literal bad which a finish removes, if there is one over the variable
abbrev pub removed_value : State → Bool → Why → ℕ → Option Bool
removed_value d truth Given x = None
removed_value d truth (ReducedFrom a) x = None
removed_value d truth (ResolvedFrom a b y) x = None
removed_value d truth (FinishedFrom a) x = option_map (bad_choice (loser_of truth)) (literal_over (row_of d a) x)

-- the value of a variable of the first scope: the assumed one, or else what the finish forces, or else false
abbrev pub first_value : State → Held → ℕ → Bool
first_value d held x = unwrap_or (first_of_two (assumed_value held.assumed x)
    (removed_value d held.verdict.truth (why_at d held.verdict.end) x)) false

-- A circuit that certifies the verdict of a formula: its inputs are the loser's variables and its outputs the
-- winner's, in prefix order; it follows the verdict's proof and wins, and each output rests on inputs of earlier scopes
-- alone. An assumed output is a constant, and where the first scope is the winner's, its outputs have the values that
-- are told of them, whatever the inputs are. The gates are few for the proof.
pub record IsCertificateOf (formula : OpenFormula) (v : VerdictState) (s : Strategy) : Type 0 where
  pub winner : s.winner ≡ winner_of v.truth
  pub inputs : s.inputs
      ≡ filter (λ x. is_of (quantifier_of formula.scopes x) (loser_of v.truth)) (all_variables formula.scopes)
  pub outputs : output_vars s.outputs
      ≡ filter (λ x. is_of (quantifier_of formula.scopes x) (winner_of v.truth)) (all_variables formula.scopes)
  pub keeps : KeepsInputs (loser_of v.truth) formula.scopes (circuit_values s)
  pub follows : FollowsProof (loser_of v.truth) formula.scopes v.assumptions v.proof (circuit_values s)
  pub wins : Wins (loser_of v.truth) formula.scopes (open_clauses formula) v.assumptions (circuit_values s)
  pub earlier : DependsOnEarlier (loser_of v.truth) formula.scopes (circuit_values s)
  pub assumed : (x : ℕ) (b : Bool) → assumed_value v.assumptions x ≡ Some b
      → quantifier_of formula.scopes x ≢ Some (loser_of v.truth)
      → output_of s.outputs x ≡ Some (record { node = Constant; negated = b })
  pub size : length s.aig.gates ≤ gate_weight v.proof
  pub first : quantifier_at formula.scopes 1 ≡ Some (winner_of v.truth) → (x : ℕ)
      → Contains (variables_at formula.scopes 1) x → (inputs : Assignment)
      → circuit_values s inputs x ≡ values_of formula v x
