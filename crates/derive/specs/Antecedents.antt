-- What steps rest on, and their tags.
use Rattle.std.specs.Prelude.{◌≡◌, ℕ, ◌<◌, ◌≤◌, false, length, Some, is_some, max}
use Rattle.prefix.specs.declared.quant.Quant.{Quant}
use Rattle.prefix.specs.declared.quant.Quant.TheVariants.{Forall}
use Rattle.rows.specs.Arena.{Arena, is_live as is_stored, next_id as next_row}
use Rattle.calculus.specs.Derivations.{Why, RestsOn}
use Rattle.calculus.specs.Derivations.Why.{Given, ReducedFrom, ResolvedFrom, FinishedFrom}
use Rattle.derive.specs.State.{Note, Notes, note_in, tag_in, is_finish}

-- an antecedent of a step of this side under this id: an earlier live step of the same side that is no finish
pub record IsAntecedentIn (notes : Notes) (id : ℕ) (side : Quant) (on : ℕ) : Type 0 where
  pub under : Note
  pub there : note_in notes on ≡ Some under
  pub earlier : on < id
  pub one_side : under.side ≡ side
  pub no_finish : is_finish under.why ≡ false

-- the tag of a step by its side and what it rests on: 0 for an initial cube, and the greatest of its antecedents' tags
abbrev pub HasTag : Notes → Quant → ℕ → Why → Type 0
HasTag notes side tag Given = side ≡ Forall → tag ≡ 0
HasTag notes side tag (ReducedFrom a) = tag ≡ tag_in (note_in notes a)
HasTag notes side tag (ResolvedFrom a b x) = tag ≡ max (tag_in (note_in notes a)) (tag_in (note_in notes b))
HasTag notes side tag (FinishedFrom a) = tag ≡ tag_in (note_in notes a)

-- a step that may stand under an id: with live antecedents, and the tag that they give it
pub record IsSupportedAt (notes : Notes) (id : ℕ) (note : Note) : Type 0 where
  pub antecedents : (on : ℕ) → RestsOn note.why on → IsAntecedentIn notes id note.side on
  pub tag : HasTag notes note.side note.tag note.why

-- each live step has live antecedents, and the tag that they give it
abbrev pub AreSupported : Notes → Type 0
AreSupported notes = (id : ℕ) (note : Note) → note_in notes id ≡ Some note → IsSupportedAt notes id note

-- rows stand under the ids of the live steps
pub record Fits (notes : Notes) (arena : Arena) : Type 0 where
  pub same_next : next_row arena ≡ length notes
  pub same_live : (id : ℕ) → is_stored arena id ≡ is_some (note_in notes id)

-- an input step in the support of a step: the step itself, or one in the support of what it rests on
pub data Supports (notes : Notes) : ℕ → ℕ → Type 0 where
  itself : (id : ℕ) (note : Note) → note_in notes id ≡ Some note → note.why ≡ Given → Supports notes id id
  through : (id on input : ℕ) (note : Note) → note_in notes id ≡ Some note → RestsOn note.why on →
      Supports notes on input → Supports notes id input

-- the greatest frame in the support of a step: an input step's frame is its tag
pub record IsGreatestFrame (notes : Notes) (id tag : ℕ) : Type 0 where
  pub bound : (input : ℕ) → Supports notes id input → tag_in (note_in notes input) ≤ tag
  pub reached : (input : ℕ) × Supports notes id input × (tag_in (note_in notes input) ≡ tag)
