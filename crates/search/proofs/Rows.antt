-- Rows that a derivation hands out and takes back.
use Rattle.std.proofs.Common.{◌≡◌, ℕ, List, [], Option, Some, None, unwrap_or, sym, ap, subst, ◌∙◌}
use Rattle.prefix.specs.declared.quant.Quant.{Quant}
use Rattle.prefix.specs.Scopes.{Scope}
use Rattle.rows.specs.Arena.{Arena, literals_at}
use Rattle.derive.specs.State.{State, IsLegalFor, arena_of, clauses_of, has_rows, row_of, steps_of}
use Rattle.search.specs.Moves.{SameSteps}
use Rattle.search.specs.Watching.{AgreesElsewhere, Touches}

-- the rows that are handed out
pub arena_taken : (d : State) (rows : Arena) → Some rows ≡ d.rows → arena_of d ≡ rows
arena_taken d rows e = ap (λ (o : Option Arena). unwrap_or o []) (sym e)

-- a derivation without its rows, and one that has these
abbrev pub without_rows : State → State
without_rows d = record { notes = d.notes; rows = None }

abbrev pub with_rows : State → Arena → State
with_rows d rows = record { notes = d.notes; rows = Some rows }

-- other links in the rows that were handed out are taken back
pub record TakesBack (old taken new : State) (rows left : Arena) : Type 0 where
  pub handed : Some rows ≡ old.rows
  pub out : taken ≡ without_rows old
  pub back : new ≡ with_rows taken left
  pub literals : (id : ℕ) → literals_at left id ≡ literals_at rows id
  pub same : (before : State) → before.notes ≡ taken.notes → ((id : ℕ) → row_of before id ≡ literals_at left id)
      → (steps_of new ≡ steps_of before) × (clauses_of new ≡ clauses_of before)
  pub legal : (before : State) (scopes : List Scope) → before.notes ≡ taken.notes
      → ((id : ℕ) → row_of before id ≡ literals_at left id) → IsLegalFor scopes before → IsLegalFor scopes new

module _ (old taken new : State) (rows left : Arena) (takes : TakesBack old taken new rows left) where
  pub was : arena_of old ≡ rows
  was = arena_taken old rows takes.handed

  pub is : arena_of new ≡ left
  is = ap arena_of takes.back

  same_notes : old.notes ≡ taken.notes
  same_notes = sym (ap (λ (d : State). d.notes) takes.out)

  same_rows : (id : ℕ) → row_of old id ≡ literals_at left id
  same_rows id = ap (λ a. literals_at a id) was ∙ sym (takes.literals id)

  pub steps_taken : SameSteps old new
  steps_taken = record {
    notes = ap (λ (d : State). d.notes) takes.back ∙ sym same_notes;
    has_rows = ap has_rows takes.back;
    literals = λ id. ap (λ a. literals_at a id) is ∙ sym (same_rows id);
    clauses = (takes.same old same_notes same_rows).1;
  }

  pub touches : (pivot : Quant) → AgreesElsewhere pivot rows left → Touches pivot old new
  touches pivot agrees = record {
    steps = steps_taken;
    legal = λ scopes was_legal. takes.legal old scopes same_notes same_rows was_legal;
    agrees = subst (λ a. AgreesElsewhere pivot (arena_of old) a) (sym is)
        (subst (λ a. AgreesElsewhere pivot a left) (sym was) agrees);
  }
