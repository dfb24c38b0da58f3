-- What holds of every derivation that is kept.
use Rattle.std.specs.Prelude.{◌≡◌, ℕ, ◌≤◌, true, List, length, Option, Some, slice_index_or}
use Rattle.rows.specs.Arena.{Arena}
use Rattle.derive.specs.State.{Note, Notes, note_in}
use Rattle.derive.specs.Antecedents.{AreSupported, Fits}
use Rattle.derive.specs.Dropping.{StepTest, finishes}
use Rattle.derive.specs.Cubes.{AreListed}

-- steps of a sort are live under this id and later ones alone
abbrev pub AreFrom : StepTest → Notes → ℕ → Type 0
AreFrom sort notes from = (id : ℕ) (note : Note) → note_in notes id ≡ Some note → sort id note ≡ true → from ≤ id

-- no step with a tag is live under an id before that at the place of its tag, nor with a tag that has no place
abbrev pub AreFromFrames : Notes → List ℕ → Type 0
AreFromFrames notes frames_from = (id : ℕ) (note : Note) → note_in notes id ≡ Some note
    → slice_index_or frames_from note.tag (length notes) ≤ id

-- each live step rests on live ones, the rows stand under the ids of the live steps, and the marks are right
pub record BelongTogether (notes : Notes) (rows : Option Arena) (frames_from cubes : List ℕ)
    (finishes_from : ℕ) : Type 0 where
  pub supported : AreSupported notes
  pub fits : (arena : Arena) → rows ≡ Some arena → Fits notes arena
  pub frames : AreFromFrames notes frames_from
  pub listed : AreListed notes cubes
  pub finishing : AreFrom finishes notes finishes_from
