-- What a solve tells.
use Rattle.std.proofs.Common.{◌≡◌, ℕ, Bool, true, false, List, Some, refl, sym, ap, ◌∙◌, subst, ⊎_elim}
use Rattle.prefix.specs.declared.quant.Quant.{Quant}
use Rattle.prefix.specs.declared.quant.Quant.TheVariants.{Exists, Forall}
use Rattle.prefix.specs.Literal.{Literal}
use Rattle.prefix.specs.Scopes.{AreDistinct, IsAscending, Scope, all_variables}
use Rattle.prefix.specs.Sides.{bad_of}
use Rattle.steps.specs.Counter.{Counter}
use Rattle.std.specs.Prelude.{Contains}
use Rattle.truth.specs.Truth.{truth_under}
use Rattle.calculus.specs.Derivations.{Inference, IsDerivation, Reason, side_core}
use Rattle.calculus.specs.Rows.{Row, variables_in}
use Rattle.calculus.specs.Verdicts.{AreOuter, EndsInFinish, IsProof, last_reason, proof_of}
use Rattle.calculus.specs.VerdictTheorems.{EndRowsGiveProofs, ProofsDecide}
use Rattle.derive.specs.State.{State, is_step, note_at, row_of, side_at, steps_of, why_at}
use Rattle.derive.specs.Theorems.{StepsAreListed}
use Rattle.frames.specs.State.{OpenFormula, open_clauses}
use Rattle.step_core.specs.Cores.{IsFinishAt, end_row_in, proof_at, step_under}
use Rattle.step_core.proofs.Linking.{end_row_of_step}
use Rattle.search.specs.declared.outcome.Outcome.{Outcome}
use Rattle.search.specs.declared.outcome.SolveStop.{SolveStop}
use Rattle.search.specs.State.{SearchState}
use Rattle.search.specs.Stops.{IsOutcome, IsStop}
use Rattle.engine.specs.declared.verdict.Held.{Held}
use Rattle.engine.specs.declared.verdict.Verdict.{Verdict}
use Rattle.engine.specs.Asks.{IsVerdictOf, end_row_of}
use Rattle.engine.specs.Kept.{AreTied, IsFound}
use Rattle.engine.specs.Verdicts.{HasProof, IsStopFor, loser_of, told}
use Rattle.engine.proofs.Framing.{tied_matrix}

loser_again : (q : Quant) → loser_of (bad_of q) ≡ q
loser_again Exists = refl
loser_again Forall = refl

pub truth_again : (t : Bool) → bad_of (loser_of t) ≡ t
truth_again true = refl
truth_again false = refl

-- a stop of a search for the formula
pub stops : (restarts : ℕ) (f : OpenFormula) (s : SearchState) (before now : Counter) (stop : SolveStop) → AreTied f s
    → IsStop restarts f.scopes s.derivation f.assumptions before now stop → IsStopFor restarts f before now stop
stops restarts f s before now stop tied is = record {
  derivation = s.derivation;
  clauses = tied_matrix f s tied;
  stops = is;
}

-- an outcome as a verdict
pub finds : (f : OpenFormula) (d : State) (outcome : Outcome) → AreOuter f.scopes f.assumptions
    → IsAscending (variables_in f.assumptions)
    → IsOutcome f.scopes (open_clauses f) f.assumptions d outcome
    → (t : Bool) → t ≡ bad_of outcome.loser → IsFound f d f.assumptions (record { truth = t; end = outcome.end })
finds f d outcome outer ascending is t same = record {
  outer = outer;
  ascending = ascending;
  outcome = subst (λ (q : Quant). IsOutcome f.scopes (open_clauses f) f.assumptions d
      (record { loser = q; end = outcome.end })) (sym (ap loser_of same ∙ loser_again outcome.loser)) is;
}

-- the truth of a verdict
pub is_truth : (f : OpenFormula) (d : State) (assumptions : List Literal) (v : Verdict)
    → IsFound f d assumptions v → v.truth ≡ truth_under assumptions f.scopes (open_clauses f)
is_truth f d assumptions v found = sym (found.outcome.truth ∙ truth_again v.truth)

-- the step of the end row is the one that the finish tells

end_row_is : (scopes : List Scope) (assumptions : List Literal) (d : State) (end : ℕ)
    (finish : IsFinishAt scopes assumptions d end) → end_row_in (why_at d end) end ≡ finish.before
end_row_is scopes assumptions d end finish = ⊎_elim
    (λ same. end_row_of_step (note_at d end) end (subst (λ id. is_step d id ≡ true) (sym same) finish.step) ∙ same)
    (λ r. ap (λ w. end_row_in w end) r.0)
    finish.stands

bad_apart : (a b : Quant) → bad_of a ≡ bad_of b → a ≡ b
bad_apart Exists Exists e = refl
bad_apart Exists Forall e = absurd (cc)
bad_apart Forall Exists e = absurd (cc)
bad_apart Forall Forall e = refl

-- the last row of a list that is a proof
abbrev WithLast : Quant → List Scope → List Row → List Literal → Row → List Inference → Type 0
WithLast pivot scopes clauses assumptions row steps =
    (proof : IsProof pivot scopes clauses assumptions steps) × (proof.last.row ≡ row)

module _ (f : OpenFormula) (d : State) (assumptions : List Literal) (v : Verdict)
    (distinct : AreDistinct (all_variables f.scopes)) (legal : IsDerivation f.scopes (open_clauses f) (steps_of d))
    (found : IsFound f d assumptions v)
    (gives : EndRowsGiveProofs) (decide : ProofsDecide) (listed : StepsAreListed) where
  abbrev pub before : ℕ
  before = found.outcome.finish.before

  -- why the last row of the proof stands
  abbrev pub cause : Reason
  cause = last_reason (side_core (steps_of d) (step_under d before)) (step_under d before) assumptions

  -- a list ends in the finish of that row, as a proof that this side loses
  abbrev EndsHere : Quant → List Inference → Type 0
  EndsHere pivot steps = EndsInFinish pivot f.scopes (open_clauses f) assumptions steps (row_of d before) cause

  stands : Contains (steps_of d) (step_under d before)
  stands = listed.listed d before found.outcome.finish.step

  ends : EndsHere (side_at d before) (proof_of (steps_of d) (step_under d before) assumptions)
  ends = gives.step f.scopes (open_clauses f) assumptions (steps_of d) (step_under d before)
      legal stands found.outcome.finish.end_row

  -- the side of the end row is the loser's
  pub side_is : side_at d before ≡ loser_of v.truth
  side_is = bad_apart (side_at d before) (loser_of v.truth)
      (sym (decide (side_at d before) f.scopes (open_clauses f) assumptions
      (proof_of (steps_of d) (step_under d before) assumptions) distinct found.outer ends.proof) ∙ found.outcome.truth)

  pub place : end_row_in (why_at d v.end) v.end ≡ before
  place = end_row_is f.scopes assumptions d v.end found.outcome.finish

  -- the proof of the verdict ends in the finish
  pub told_ends : EndsHere (loser_of v.truth) (proof_at d assumptions v.end)
  told_ends = subst (λ q. EndsHere q (proof_at d assumptions v.end)) side_is
      (subst (λ id. EndsHere (side_at d before) (proof_of (steps_of d) (step_under d id) assumptions)) (sym place) ends)

  pub last_row : told_ends.proof.last.row ≡ row_of d v.end
  last_row = told_ends.last_row ∙ sym found.outcome.finish.finish

  -- both rows ascend
  pub end_ascends : IsAscending (variables_in (row_of d v.end))
  end_ascends = subst (λ (row : Row). IsAscending (variables_in row)) last_row told_ends.proof.last_row.ascending

  pub before_ascends : IsAscending (variables_in (end_row_of d v.end))
  before_ascends = subst (λ id. IsAscending (variables_in (row_of d id))) (sym place)
      (legal.rows (step_under d before) stands).ascending

-- what a solve says of a verdict that is then held
pub has_proof : (f : OpenFormula) (d : State) (held : Held) → AreDistinct (all_variables f.scopes)
    → IsDerivation f.scopes (open_clauses f) (steps_of d) → IsFound f d held.assumed held.verdict
    → held.assumed ≡ f.assumptions → EndRowsGiveProofs → ProofsDecide → StepsAreListed
    → HasProof f held.verdict (Some (told d held))
has_proof f d held distinct legal found assumed gives decide listed =
    let ends = told_ends f d held.assumed held.verdict distinct legal found gives decide listed in
    let last = last_row f d held.assumed held.verdict distinct legal found gives decide listed in
    let with_last = subst (λ (a : List Literal). WithLast (loser_of held.verdict.truth) f.scopes (open_clauses f) a
    (row_of d held.verdict.end) (proof_at d held.assumed held.verdict.end)) assumed (ends.proof, last) in
    record {
      state = told d held;
      there = refl;
      same_truth = refl;
      same_end = refl;
      same_assumptions = assumed;
      proof = with_last.0;
      last_row = with_last.1;
    }

-- what holds of a verdict that is held
pub holds : (f : OpenFormula) (d : State) (held : Held) → AreDistinct (all_variables f.scopes)
    → IsDerivation f.scopes (open_clauses f) (steps_of d) → IsFound f d held.assumed held.verdict
    → EndRowsGiveProofs → ProofsDecide → StepsAreListed → IsVerdictOf f (told d held)
holds f d held distinct legal found gives decide listed = record {
  outer = found.outer;
  ascending = found.ascending;
  truth = is_truth f d held.assumed held.verdict found;
  proof = (told_ends f d held.assumed held.verdict distinct legal found gives decide listed).proof;
  last_row = last_row f d held.assumed held.verdict distinct legal found gives decide listed;
}
