-- What the certificate of a verdict is.
use Rattle.std.specs.Prelude.{◌≡◌, ◌≢◌, ℕ, ◌<◌, ◌≤◌, length, true, false, Bool, List, filter, Contains, Some}
use Rattle.prefix.specs.declared.quant.Quant.{Quant}
use Rattle.prefix.specs.Literal.{Literal}
use Rattle.prefix.specs.Sides.{is_of}
use Rattle.prefix.specs.Scopes.{Scope, all_variables, quantifier_at, quantifier_of}
use Rattle.truth.specs.Truth.{assumed_value}
use Rattle.calculus.specs.Limits.{weight_bound}
use Rattle.calculus.specs.Plays.{DependsOnEarlier, Wins}
use Rattle.calculus.specs.Rows.{Assignment}
use Rattle.frames.specs.Fold.{Given, ScriptState}
use Rattle.frames.specs.State.{OpenFormula, open_clauses}
use Rattle.aig.specs.declared.edge.Node.TheVariants.{Constant}
use Rattle.aig.specs.declared.strategy.Strategy.{Strategy}
use Rattle.aig.specs.Strategies.{output_of, output_vars, values_of}
use Rattle.aiger_out.specs.Aag.{IsAagText}
use Rattle.aiger_out.specs.Binary.{IsAigBytes}
use Rattle.trim.specs.Trimmed.{IsReached}
use Rattle.engine.specs.Refusals.{winner_of}
use Rattle.engine.specs.Verdicts.{loser_of}
use Rattle.solve.specs.Terms.{Terms}
use Rattle.solve.specs.Outputs.{Text}

-- the variables of a quantifier, in prefix order
abbrev pub variables_with : Quant → List Scope → List ℕ
variables_with quant scopes = filter (λ v. is_of (quantifier_of scopes v) quant) (all_variables scopes)

-- how many gates a circuit may have after these commands, each solve of which was made on such terms
abbrev pub gates_after : Terms → ScriptState → ℕ
gates_after terms s = weight_bound s.clauses s.solves terms.budget terms.greatest s.greatest

-- A circuit certifies a verdict: its inputs are all variables of the loser and its outputs all of the winner, in prefix
-- order. It wins against all values of the inputs that the assumptions allow, each output depends on inputs of earlier
-- scopes alone, an assumed output is the constant of its assumed value, and where the first scope is the winner's its
-- outputs have these values. It has so many gates at most.
pub record Certifies (formula : OpenFormula) (given : Given) (values : List Literal) (bound : ℕ) (strategy : Strategy)
    : Type 0 where
  pub winner : strategy.winner ≡ winner_of given.truth
  pub inputs : strategy.inputs ≡ variables_with (loser_of given.truth) formula.scopes
  pub outputs : output_vars strategy.outputs ≡ variables_with (winner_of given.truth) formula.scopes
  pub wins : Wins (loser_of given.truth) formula.scopes (open_clauses formula) given.assumptions
      (values_of strategy)
  pub earlier : DependsOnEarlier (loser_of given.truth) formula.scopes (values_of strategy)
  pub assumed : (x : ℕ) (b : Bool) → assumed_value given.assumptions x ≡ Some b
      → quantifier_of formula.scopes x ≢ Some (loser_of given.truth)
      → output_of strategy.outputs x ≡ Some (record { node = Constant; negated = b })
  pub first_values : quantifier_at formula.scopes 1 ≡ Some (winner_of given.truth) → (l : Literal) →
      Contains values l → (inputs : Assignment) → values_of strategy inputs l.variable ≡ l.positive
  pub few : length strategy.aig.gates ≤ bound

-- each gate is reached from an output
abbrev pub AllReached : Strategy → Type 0
AllReached strategy = (j : ℕ) → j < length strategy.aig.gates → IsReached strategy j

-- a text denotes a circuit by AIGER 1.9, in ASCII or in the binary form
abbrev pub Denotes : (binary : Bool) → Text → Strategy → Type 0
Denotes false text strategy = IsAagText text strategy
Denotes true text strategy = IsAigBytes text strategy

-- A text in one of the two forms is a certificate of a verdict: it denotes a circuit that certifies it, and where it is
-- to be trimmed, each gate is reached from an output.
pub record IsCertificate (binary trim : Bool) (formula : OpenFormula) (given : Given) (values : List Literal)
    (bound : ℕ) (text : Text) : Type 0 where
  pub strategy : Strategy
  pub denotes : Denotes binary text strategy
  pub certifies : Certifies formula given values bound strategy
  pub reached : trim ≡ true → AllReached strategy

-- the certificate that a script asks for: in ASCII, and not trimmed
abbrev pub IsCertText : OpenFormula → Given → List Literal → ℕ → Text → Type 0
IsCertText formula given values bound text = IsCertificate false false formula given values bound text
