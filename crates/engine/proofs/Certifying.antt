-- The circuit of a verdict's proof.
use Rattle.std.proofs.Common.{◌≡◌, ◌≢◌, ◌≤◌, ℕ, Bool, true, false, List, Contains, Some, length, filter, arith, refl, sym, ap, ◌∙◌, subst}
use Rattle.prefix.specs.declared.quant.Quant.{Quant}
use Rattle.prefix.specs.Literal.{Literal}
use Rattle.prefix.specs.Scopes.{AreDistinct, Scope, all_variables, depth_of, quantifier_at, quantifier_of, variables_at}
use Rattle.prefix.specs.Sides.{is_of, opposite}
use Rattle.truth.specs.Truth.{assumed_value}
use Rattle.calculus.specs.Derivations.{Inference}
use Rattle.calculus.specs.Limits.{gate_weight}
use Rattle.calculus.specs.Plays.{DependsOnEarlier, FollowsProof, KeepsInputs, Wins}
use Rattle.calculus.specs.PlayTheorems.{PlaysExist, PlaysLookBack}
use Rattle.calculus.specs.Rows.{Assignment, Row}
use Rattle.calculus.specs.Verdicts.{IsProof}
use Rattle.calculus.proofs.Levels.{depth_at_least, first_depth}
use Rattle.calculus.proofs.Values.{outermost_order}
use Rattle.frames.specs.State.{OpenFormula, open_clauses}
use Rattle.aig.specs.declared.edge.Node.TheVariants.{Constant}
use Rattle.aig.specs.declared.strategy.Strategy.{Strategy}
use Rattle.aig.specs.Strategies.{output_of, output_vars, values_of as circuit_values}
use Rattle.step_core.specs.Cores.{IsProofOf, Trace, inferences_of}
use Rattle.engine.specs.Asks.{IsCertificateOf, IsVerdictOf, values_of}
use Rattle.engine.specs.Refusals.{winner_of}
use Rattle.engine.specs.State.{VerdictState}
use Rattle.engine.specs.Verdicts.{loser_of}
use Rattle.engine.proofs.Asking.{level_first, not_losers, plays}

pub opposed : (t : Bool) → opposite (winner_of t) ≡ loser_of t
opposed true = refl
opposed false = refl

-- a core whose winner and steps are the verdict's
module _ (f : OpenFormula) (v : VerdictState) (core : Trace) (winner : core.winner ≡ winner_of v.truth)
    (list : inferences_of core.lines ≡ v.proof) (is : IsVerdictOf f v) where
  loser : opposite core.winner ≡ loser_of v.truth
  loser = ap opposite winner ∙ opposed v.truth

  pub core_proves : IsProofOf core f.scopes v.assumptions (open_clauses f)
  core_proves = subst (λ (steps : List Inference).
      IsProof (opposite core.winner) f.scopes (open_clauses f) v.assumptions steps) (sym list)
      (subst (λ (q : Quant). IsProof q f.scopes (open_clauses f) v.assumptions v.proof) (sym loser) is.proof)

-- what is said of a strategy by the loser, the winner and the steps of a proof
pub record IsExtracted (pivot winner : Quant) (steps : List Inference) (scopes : List Scope) (clauses : List Row)
    (assumptions : List Literal) (s : Strategy) : Type 0 where
  pub won : s.winner ≡ winner
  pub inputs : s.inputs ≡ filter (λ x. is_of (quantifier_of scopes x) pivot) (all_variables scopes)
  pub outputs : output_vars s.outputs ≡ filter (λ x. is_of (quantifier_of scopes x) winner) (all_variables scopes)
  pub keeps : KeepsInputs pivot scopes (circuit_values s)
  pub follows : FollowsProof pivot scopes assumptions steps (circuit_values s)
  pub wins : Wins pivot scopes clauses assumptions (circuit_values s)
  pub earlier : DependsOnEarlier pivot scopes (circuit_values s)
  pub assumed : (x : ℕ) (b : Bool) → assumed_value assumptions x ≡ Some b → quantifier_of scopes x ≢ Some pivot
      → output_of s.outputs x ≡ Some (record { node = Constant; negated = b })
  pub size : length s.aig.gates ≤ gate_weight steps

-- the same of a core
abbrev pub IsExtractedFrom : Trace → List Scope → List Row → List Literal → Strategy → Type 0
IsExtractedFrom core scopes clauses assumptions s =
    IsExtracted (opposite core.winner) core.winner (inferences_of core.lines) scopes clauses assumptions s

module _ (f : OpenFormula) (v : VerdictState) (core : Trace) (winner : core.winner ≡ winner_of v.truth)
    (list : inferences_of core.lines ≡ v.proof) (is : IsVerdictOf f v) (s : Strategy)
    (extracted : IsExtractedFrom core f.scopes (open_clauses f) v.assumptions s)
    (distinct : AreDistinct (all_variables f.scopes)) (exist : PlaysExist) (back : PlaysLookBack) where
  told : IsExtracted (loser_of v.truth) (winner_of v.truth) v.proof f.scopes (open_clauses f) v.assumptions s
  told = subst (λ (steps : List Inference).
      IsExtracted (loser_of v.truth) (winner_of v.truth) steps f.scopes (open_clauses f) v.assumptions s) list
      (subst (λ (q : Quant). IsExtracted q (winner_of v.truth) (inferences_of core.lines) f.scopes (open_clauses f)
      v.assumptions s)
      (opposed v.truth)
      (subst (λ (q : Quant). IsExtracted (opposite q) q (inferences_of core.lines) f.scopes (open_clauses f)
      v.assumptions s) winner extracted))

  -- on the first scope it has the values of the play that is told, since both follow the proof
  first_values : quantifier_at f.scopes 1 ≡ Some (winner_of v.truth) → (x : ℕ) → Contains (variables_at f.scopes 1) x
      → (inputs : Assignment) → circuit_values s inputs x ≡ values_of f v x
  first_values won x i inputs =
      let level = level_first f.scopes x i in
      let depth : depth_of f.scopes x ≡ 1 = first_depth f.scopes x level in
      back (loser_of v.truth) f.scopes (open_clauses f) v.assumptions v.proof (circuit_values s inputs)
      (values_of f v) x is.outer is.proof (told.follows inputs) (plays f v distinct is exist)
      (outermost_order f.scopes x i) (not_losers f.scopes v.truth x level won)
      (λ y j q below. absurd (let least : 1 ≤ depth_of f.scopes y = depth_at_least f.scopes y in omega arith))

  pub certifies : IsCertificateOf f v s
  certifies = record {
    winner = told.won;
    inputs = told.inputs;
    outputs = told.outputs;
    keeps = told.keeps;
    follows = told.follows;
    wins = told.wins;
    earlier = told.earlier;
    assumed = told.assumed;
    size = told.size;
    first = first_values;
  }
