-- A refutation stays where what it rests on does.
use Rattle.std.proofs.lemmas.Bool.{true≢false}
use Rattle.std.proofs.Common.{◌≡◌, ℕ, true, List, refl, inl, inr, sym, ap, subst, ◌∙◌, ⊎_elim}
use Rattle.std.specs.Prelude.{IfSome, IsTrue, None, Option, Some, is_some}
use Rattle.prefix.specs.Literal.{Literal}
use Rattle.prefix.specs.Scopes.{IsPrefix, Scope}
use Rattle.prefix.specs.Sides.{bad_of}
use Rattle.truth.specs.Truth.{truth_under}
use Rattle.calculus.specs.Derivations.{RestsOn}
use Rattle.calculus.specs.Derivations.Why.{FinishedFrom}
use Rattle.calculus.specs.Rows.{Row}
use Rattle.calculus.specs.VerdictTheorems.{EndRowsGiveProofs, ProofsDecide}
use Rattle.calculus.specs.Verdicts.{AreOuter, IsEndRow, finished, proof_of}
use Rattle.derive.specs.Dropping.{Falls, StepTest}
use Rattle.derive.specs.Dropping.Falls.{rests}
use Rattle.derive.specs.Theorems.{SameClausesServe, StepsAreListed}
use Rattle.derive.specs.State.{IsLegalFor, Note, State, is_live, may_be_antecedent, note_at, row_of, side_at, side_in, steps_of, why_in}
use Rattle.step_core.specs.Cores.{IsFinishAt, step_under}
use Rattle.search.specs.Leaving.{Loses}
use Rattle.search.specs.Moves.{IsMatrix}
use Rattle.cores.specs.Trials.{Decides, IsRefutation}

note_of : (o : Option Note) → is_some o ≡ true → (note : Note) × (o ≡ Some note)
note_of None h = absurd (true≢false (sym h))
note_of (Some note) h = (note, refl)

step_live : (o : Option Note) → may_be_antecedent o ≡ true → is_some o ≡ true
step_live None h = absurd (true≢false (sym h))
step_live (Some note) h = refl

-- the laws by which a finish decides
pub record DecidingLaws : Type 0 where
  pub gives : EndRowsGiveProofs
  pub decide : ProofsDecide
  pub serve : SameClausesServe
  pub listed : StepsAreListed

-- the truth by the end row of a finish
decided : DecidingLaws → (scopes : List Scope) (assumptions : List Literal) (d : State) (clauses : List Row) (end : ℕ)
    → IsPrefix scopes → AreOuter scopes assumptions → IsLegalFor scopes d → IsMatrix d clauses
    → (finish : IsFinishAt scopes assumptions d end)
    → truth_under assumptions scopes clauses ≡ bad_of (side_at d finish.before)
decided laws scopes assumptions d clauses end valid outer legal matrix finish =
    let before = finish.before in
    let derivation = laws.serve scopes d clauses matrix.there matrix.none_else legal in
    let proof = laws.gives.step scopes clauses assumptions (steps_of d) (step_under d before) derivation
    (laws.listed.listed d before finish.step) finish.end_row in
    laws.decide (side_at d before) scopes clauses assumptions
    (proof_of (steps_of d) (step_under d before) assumptions) valid.distinct outer proof.proof

module _ (test : StepTest) (old new : State) (loses : Loses test old new) where
  -- a step that doesn't fall stands as it did
  note_kept : (id : ℕ) → (Falls test old.notes id → ⊥) → note_at new id ≡ note_at old id
  note_kept id stays = ⊎_elim (λ falls. absurd (stays falls.0)) (λ kept. kept.1) (loses.exactly id)

  row_kept : (id : ℕ) → note_at new id ≡ note_at old id → IsTrue (is_live old id) → row_of new id ≡ row_of old id
  row_kept id note live = loses.rows id (ap is_some note ∙ live)

  module _ (scopes : List Scope) (assumptions : List Literal) (was now : List Row) (end : ℕ)
      (refutation : IsRefutation scopes was assumptions old end) (stays : Falls test old.notes end → ⊥) where
    abbrev finish : IsFinishAt scopes assumptions old end
    finish = refutation.finish

    end_kept : note_at new end ≡ note_at old end
    end_kept = note_kept end stays

    -- the end row doesn't fall, since the finish rests on it
    before_kept : note_at new finish.before ≡ note_at old finish.before
    before_kept = note_kept finish.before (λ falls. ⊎_elim
        (λ same. stays (subst (Falls test old.notes) (sym same) falls))
        (λ r. (let n = note_of (note_at old end) refutation.live in
        let why : n.0.why ≡ FinishedFrom finish.before = sym (ap why_in n.1) ∙ r.0 in
        stays (rests end finish.before n.0 n.1 (subst (λ w. RestsOn w finish.before) (sym why) refl) falls)))
        finish.stands)

    end_row_kept : row_of new end ≡ row_of old end
    end_row_kept = row_kept end end_kept refutation.live

    before_row_kept : row_of new finish.before ≡ row_of old finish.before
    before_row_kept = row_kept finish.before before_kept (step_live (note_at old finish.before) finish.step)

    side_kept : side_at new finish.before ≡ side_at old finish.before
    side_kept = ap side_in before_kept

    abbrev finish_kept : IsFinishAt scopes assumptions new end
    finish_kept = record {
      before = finish.before;
      step = subst (λ note. IsTrue (may_be_antecedent note)) (sym before_kept) finish.step;
      end_row = subst (λ q. IsEndRow q scopes assumptions (row_of new finish.before)) (sym side_kept)
          (subst (λ row. IsEndRow (side_at old finish.before) scopes assumptions row) (sym before_row_kept)
          finish.end_row);
      finish = end_row_kept ∙ finish.finish ∙ ap (finished assumptions) (sym before_row_kept);
      stands = ⊎_elim (λ x. inl x)
          (λ r. inr (ap why_in end_kept ∙ r.0, λ g. r.1 (sym end_row_kept ∙ g ∙ before_row_kept)))
          finish.stands;
    }

    pub refutation_kept : DecidingLaws → IsPrefix scopes → AreOuter scopes assumptions → IsLegalFor scopes old
        → IsLegalFor scopes new → IsMatrix old was → IsMatrix new now
        → IsRefutation scopes now assumptions new end
    refutation_kept laws valid outer legal_old legal_new matrix_old matrix_new = record {
      truth = decided laws scopes assumptions new now end valid outer legal_new matrix_new finish_kept
          ∙ ap bad_of side_kept
          ∙ sym (decided laws scopes assumptions old was end valid outer legal_old matrix_old finish)
          ∙ refutation.truth;
      live = ap is_some end_kept ∙ refutation.live;
      of_side = ap side_in end_kept ∙ refutation.of_side;
      finish = finish_kept;
    }

  -- so the clauses that are left are still decided
  pub still_decides : DecidingLaws → (scopes : List Scope)
      (assumptions : List Literal) (was now : List Row) → IsPrefix scopes → AreOuter scopes assumptions
      → IsLegalFor scopes old → IsLegalFor scopes new → IsMatrix old was → IsMatrix new now → (o : Option ℕ)
      → is_some o ≡ true → IfSome o (IsRefutation scopes was assumptions old)
      → IfSome o (λ end. Falls test old.notes end → ⊥) → Decides scopes now assumptions new o
  still_decides laws scopes assumptions was now valid outer before after matrix left None there
      refuted stays = absurd (true≢false (sym there))
  still_decides laws scopes assumptions was now valid outer before after matrix left (Some end)
      there refuted stays =
      let kept = refutation_kept scopes assumptions was now end refuted stays laws valid outer
      before after matrix left in
      record { refuted = kept; truth = kept.truth }
