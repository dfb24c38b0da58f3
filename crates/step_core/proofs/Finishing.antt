-- The step that a finish answers ends a proof.
use Rattle.std.proofs.Common.{◌≡◌, ◌≢◌, ◌⊎◌, inl, inr, ⊎_elim, ℕ, true, List, Option, Some, None, IsTrue, is_some, refl, sym, ap, ◌∙◌}
use Rattle.std.proofs.lemmas.Bool.{false≢true}
use Rattle.prefix.specs.Literal.{Literal}
use Rattle.prefix.specs.Scopes.{Scope}
use Rattle.rows.specs.Arena.{literals_of}
use Rattle.calculus.specs.Derivations.Why.{FinishedFrom}
use Rattle.calculus.specs.Verdicts.{IsEndRow}
use Rattle.derive.specs.State.{Note, State, is_live, is_step, may_be_antecedent, note_at, row_of, side_at, side_in, why_at, why_in}
use Rattle.derive.specs.Adding.{Removes, finish_at}
use Rattle.step_core.specs.Cores.{IsFinishAt}

-- a step that may be an antecedent is live
antecedent_lives : (o : Option Note) → may_be_antecedent o ≡ true → is_some o ≡ true
antecedent_lives None step = absurd (false≢true step)
antecedent_lives (Some note) step = refl

-- the end row stays as it was, and what its finish answers is its own id or that of a step over it
module _ (scopes : List Scope) (assumptions : List Literal) (old new : State) (id row : ℕ)
    (step : IsTrue (is_step old row)) (end : IsEndRow (side_at old row) scopes assumptions (row_of old row))
    (removes : Removes old new id row (FinishedFrom row) (finish_at assumptions old row)) where
  lives : is_live old row ≡ true
  lives = antecedent_lives (note_at old row) step

  note_stays : note_at new row ≡ note_at old row
  note_stays = (removes.others row lives).note

  row_stays : row_of new row ≡ row_of old row
  row_stays = ap literals_of (removes.others row lives).row

  side_stays : side_at new row ≡ side_at old row
  side_stays = ap side_in note_stays

  stands : (id ≡ row) ⊎ ((why_at new id ≡ FinishedFrom row) × (row_of new id ≢ row_of new row))
  stands =
      ⊎_elim
      (λ same. inl same.1)
      (λ more. inr (ap why_in more.1.there, λ e. more.0 (sym removes.has_row ∙ e ∙ row_stays)))
      removes.cases

  pub finish_ends : IsFinishAt scopes assumptions new id
  finish_ends = record {
    before = row;
    step = ap may_be_antecedent note_stays ∙ step;
    end_row = rw (side_stays, row_stays) end;
    finish = rw row_stays removes.has_row;
    stands = stands;
  }
