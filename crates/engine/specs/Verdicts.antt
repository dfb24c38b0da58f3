-- Verdicts with their proofs, and stops.
use Rattle.std.specs.Prelude.{ℕ, ◌≡◌, Bool, true, false, Option, Some}
use Rattle.prefix.specs.declared.quant.Quant.{Quant}
use Rattle.prefix.specs.declared.quant.Quant.TheVariants.{Exists, Forall}
use Rattle.steps.specs.Counter.{Counter}
use Rattle.calculus.specs.Verdicts.{IsProof}
use Rattle.derive.specs.State.{State, row_of}
use Rattle.frames.specs.State.{OpenFormula, open_clauses}
use Rattle.step_core.specs.Cores.{proof_at}
use Rattle.search.specs.declared.outcome.SolveStop.{SolveStop}
use Rattle.search.specs.Moves.{IsMatrix}
use Rattle.search.specs.Stops.{IsStop}
use Rattle.engine.specs.declared.verdict.Held.{Held}
use Rattle.engine.specs.declared.verdict.Verdict.{Verdict}
use Rattle.engine.specs.State.{VerdictState}

-- the side that a verdict speaks against: that of clauses where the formula is false
abbrev pub loser_of : Bool → Quant
loser_of true = Forall
loser_of false = Exists

-- what is held of a verdict, with its proof from a derivation
abbrev pub told : State → Held → VerdictState
told d held = record {
  truth = held.verdict.truth;
  assumptions = held.assumed;
  proof = proof_at d held.assumed held.verdict.end;
  end = held.verdict.end;
  row = row_of d held.verdict.end;
  kept = held.kept;
}

-- a verdict is kept, with the assumptions of the formula and with a proof of it under these, whose last row is that of
-- the verdict's end
pub record HasProof (formula : OpenFormula) (verdict : Verdict) (kept : Option VerdictState) : Type 0 where
  pub state : VerdictState
  pub there : kept ≡ Some state
  pub same_truth : state.truth ≡ verdict.truth
  pub same_end : state.end ≡ verdict.end
  pub same_assumptions : state.assumptions ≡ formula.assumptions
  pub proof : IsProof (loser_of verdict.truth) formula.scopes (open_clauses formula) formula.assumptions
      state.proof
  pub last_row : proof.last.row ≡ state.row

-- a solve of the formula may stop: as a search may whose open clauses are the formula's
pub record IsStopFor (restarts : ℕ) (formula : OpenFormula) (before now : Counter) (stop : SolveStop) : Type 0 where
  pub derivation : State
  pub clauses : IsMatrix derivation (open_clauses formula)
  pub stops : IsStop restarts formula.scopes derivation formula.assumptions before now stop
