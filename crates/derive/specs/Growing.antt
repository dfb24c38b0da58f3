-- What stays where a derivation gets more steps.
use Rattle.std.specs.Prelude.{◌≡◌, ℕ, ◌<◌, ◌≤◌, IsTrue, IsFalse, None}
use Rattle.rows.specs.Arena.{link_at}
use Rattle.derive.specs.State.{State, SameStep, arena_of, clauses_of, has_rows, is_live, next_id}

-- one derivation comes after another by added steps: what was live stays as it was, and no dropped id comes to life
pub record Grows (before after : State) : Type 0 where
  pub longer : next_id before ≤ next_id after
  pub others : (id : ℕ) → IsTrue (is_live before id) → SameStep before after id
  pub given : (id : ℕ) → id < next_id before → is_live after id ≡ is_live before id

-- rows under ids that weren't live have no links
abbrev pub AreUnlinked : State → State → Type 0
AreUnlinked old new = (id k : ℕ) → IsFalse (is_live old id) → link_at (arena_of new) id k ≡ None

-- some steps came in and nothing else: their rows have no links, what was live stays as it was, and so do the open
-- clauses
pub record GainsSteps (old new : State) : Type 0 where
  pub grows : Grows old new
  pub has_rows : IsTrue (has_rows new)
  pub unlinked : AreUnlinked old new
  pub clauses : clauses_of new ≡ clauses_of old
