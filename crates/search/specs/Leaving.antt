-- What leaves with a frame and its variables.
use Rattle.std.specs.Prelude.{◌≡◌, ℕ, ◌⊎◌, ◌==◌, ◌||◌, Bool, nat_le, List, None, IsTrue}
use Rattle.prefix.specs.declared.quant.Quant.TheVariants.{Forall}
use Rattle.prefix.specs.Scopes.{Scope}
use Rattle.rows.specs.Arena.{Arena}
use Rattle.calculus.specs.Derivations.{Why}
use Rattle.calculus.specs.Derivations.Why.{Given, ReducedFrom, ResolvedFrom, FinishedFrom}
use Rattle.derive.specs.State.{Notes, State, is_live, next_id, note_at, note_in, row_of, side_at, tag_at, tag_in, why_in}
use Rattle.derive.specs.Dropping.{Falls, StepTest, has_tag, is_outside, mentions, names}
use Rattle.search.specs.declared.leaving.Leaving.{Leaving}
use Rattle.search.specs.declared.leaving.Leaving.TheVariants.{Frame, Cubes, Outside}

-- whether a step goes at once with a frame and with the variables outside a prefix: it has the frame as its tag, or
-- names such a variable
abbrev pub leaves : ℕ → List Scope → Arena → StepTest
leaves frame scopes rows id note = has_tag frame id note || names (is_outside scopes) rows id note

-- exactly what falls with the roots is gone, and every other step stays, with its row, in which links may differ
pub record Loses (is_root : StepTest) (old new : State) : Type 0 where
  pub same_next : next_id new ≡ next_id old
  pub exactly : (id : ℕ) → (Falls is_root old.notes id × (note_at new id ≡ None))
      ⊎ ((Falls is_root old.notes id → ⊥) × (note_at new id ≡ note_at old id))
  pub rows : (id : ℕ) → IsTrue (is_live new id) → row_of new id ≡ row_of old id

-- whether a reduction with this tag may fall with a frame, by the tag of the step that it rests on and why that stands:
-- an input falls where the frame is its tag
abbrev pub may_fall_over : ℕ → ℕ → ℕ → Why → Bool
may_fall_over frame tag under Given = tag == frame || under == frame
may_fall_over frame tag under (ReducedFrom a) = nat_le frame tag
may_fall_over frame tag under (ResolvedFrom a b x) = nat_le frame tag
may_fall_over frame tag under (FinishedFrom a) = nat_le frame tag

-- whether a step with this tag may, by why it stands
abbrev pub may_fall_by : ℕ → Notes → ℕ → Why → Bool
may_fall_by frame notes tag Given = tag == frame
may_fall_by frame notes tag (ReducedFrom a) =
    may_fall_over frame tag (tag_in (note_in notes a)) (why_in (note_in notes a))
may_fall_by frame notes tag (ResolvedFrom a b x) = nat_le frame tag
may_fall_by frame notes tag (FinishedFrom a) = nat_le frame tag

-- whether the step under an id may
abbrev pub may_fall : ℕ → Notes → ℕ → Bool
may_fall frame notes id = may_fall_by frame notes (tag_in (note_in notes id)) (why_in (note_in notes id))

-- rows that are detached before steps go

-- the row under an id is one of them
abbrev pub Reaches : Leaving → State → ℕ → Type 0
Reaches (Frame frame) d id = IsTrue (may_fall frame d.notes id)
Reaches Cubes d id = side_at d id ≡ Forall
Reaches (Outside side prefix) d id = side_at d id ≡ side

-- and is one that goes
abbrev pub Goes : Leaving → State → ℕ → Type 0
Goes (Frame frame) d id = tag_at d id ≡ frame
Goes Cubes d id = ⊥
Goes (Outside side prefix) d id = IsTrue (mentions (is_outside prefix.now) (row_of d id))
