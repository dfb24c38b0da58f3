-- What soundness needs of a proof: legal steps, of which the last may be a finish, and a decided last row.
use Rattle.std.proofs.Common.{◌≡◌, ◌⊎◌, List, [], ◌∷◌, ◌++◌, Contains, inl, inr, ⊎_elim}
use Rattle.prefix.specs.declared.quant.Quant.{Quant}
use Rattle.prefix.specs.Literal.{Literal}
use Rattle.prefix.specs.Scopes.{Scope}
use Rattle.calculus.specs.Rows.{Row, IsRow, reduce}
use Rattle.calculus.specs.Derivations.{Reason, Inference, IsInput, IsInference, IsResolution, IsLegal, IsLegalAfter, rows_of}
use Rattle.calculus.specs.Derivations.Reason.{Input, One, Two}
use Rattle.calculus.specs.Verdicts.{IsFinish, IsDecided, IsProofStep, IsProof}
use Rattle.calculus.proofs.Lists.{contains_cons, contains_nil, contains_head, contains_tail}

abbrev pub IsSoundStep : Quant → List Scope → List Row → List Literal → List Row → Row → Reason → Type 0
IsSoundStep pivot scopes clauses assumptions earlier row Input = IsInput pivot clauses row
IsSoundStep pivot scopes clauses assumptions earlier row (One before) = Contains earlier before
    × ((row ≡ reduce pivot scopes before) ⊎ IsFinish pivot scopes assumptions before row)
IsSoundStep pivot scopes clauses assumptions earlier row (Two a b x) = IsResolution pivot scopes earlier row a b x

abbrev pub AreSoundSteps : Quant → List Scope → List Row → List Literal → List Row → List Inference → Type 0
AreSoundSteps pivot scopes clauses assumptions earlier [] = Unit {0}
AreSoundSteps pivot scopes clauses assumptions earlier (s ∷ steps) = IsRow scopes s.row
    × IsSoundStep pivot scopes clauses assumptions earlier s.row s.reason × AreSoundSteps pivot scopes clauses
    assumptions (s.row ∷ earlier) steps

pub record IsSound (pivot : Quant) (scopes : List Scope) (clauses : List Row) (assumptions : List Literal)
    (steps : List Inference) : Type 0 where
  pub front : List Inference
  pub last : Inference
  pub parts : steps ≡ front ++ last ∷ []
  pub legal : IsLegal pivot scopes clauses front
  pub last_step : AreSoundSteps pivot scopes clauses assumptions [] steps
  pub decided : IsDecided pivot assumptions last.row

pub legal_step : (pivot : Quant) (scopes : List Scope) (clauses : List Row) (assumptions : List Literal)
    (earlier : List Row) (row : Row) (reason : Reason) → IsInference pivot scopes clauses earlier row reason
    → IsSoundStep pivot scopes clauses assumptions earlier row reason
legal_step pivot scopes clauses assumptions earlier row Input step = step
legal_step pivot scopes clauses assumptions earlier row (One before) step = (step.0, inl step.2)
legal_step pivot scopes clauses assumptions earlier row (Two a b x) step = step

module _ (pivot : Quant) (scopes : List Scope) (clauses : List Row) (assumptions : List Literal) where
  -- a last step from rows that stand
  sound_last : (earlier more : List Row) (row : Row) (reason : Reason)
      → ((r : Row) → Contains earlier r → Contains more r) → IsProofStep pivot scopes clauses assumptions earlier row
      reason → IsSoundStep pivot scopes clauses assumptions more row reason
  sound_last earlier more row Input within step = step
  sound_last earlier more row (One before) within step = (within before step.0, step.2)
  sound_last earlier more row (Two a b x) within step = record {
    earlier_positive = within a step.earlier_positive;
    earlier_negative = within b step.earlier_negative;
    has_positive = step.has_positive;
    has_negative = step.has_negative;
    is_pivot_variable = step.is_pivot_variable;
    no_clash = step.no_clash;
    result = step.result;
  }

  pub sound_steps : (earlier : List Row) (front : List Inference) (last : Inference) → IsLegalAfter pivot scopes clauses
      earlier front → IsRow scopes last.row → (rows : List Row)
      → ((r : Row) → Contains rows r → Contains earlier r ⊎ Contains (rows_of front) r)
      → IsProofStep pivot scopes clauses assumptions rows last.row last.reason → AreSoundSteps pivot scopes clauses
      assumptions earlier (front ++ last ∷ [])
  sound_steps earlier [] last legal is_row rows within step = (
    is_row,
    sound_last rows earlier last.row last.reason
        (λ r i. ⊎_elim (λ j. j) (λ j. absurd (contains_nil r j)) (within r i)) step,
    tt,
  )
  sound_steps earlier (s ∷ front) last legal is_row rows within step = (
    legal.0,
    legal_step pivot scopes clauses assumptions earlier s.row s.reason legal.1,
    sound_steps (s.row ∷ earlier) front last legal.2 is_row rows
        (λ r i. ⊎_elim (λ j. inl (contains_tail s.row earlier r j))
        (λ j. ⊎_elim (λ e. inl (rw e (contains_head r earlier))) inr (contains_cons s.row (rows_of front) r j))
        (within r i))
        step,
  )

  -- a proof is sound
  unfoldable pub sound : (steps : List Inference) → IsProof pivot scopes clauses assumptions steps
      → IsSound pivot scopes clauses assumptions steps
  sound steps proof = record {
    front = proof.front;
    last = proof.last;
    parts = proof.parts;
    legal = proof.legal;
    last_step = rw proof.parts (sound_steps [] proof.front proof.last proof.legal proof.last_row (rows_of proof.front)
        (λ r i. inr i) proof.last_step);
    decided = proof.decided;
  }
