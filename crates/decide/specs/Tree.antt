-- The tree of the variables that wait.
use Rattle.std.specs.Prelude.{◌≡◌, ℕ, ◌*◌, ◌≤◌, List, length, slice_index_or}

-- the nodes are a tree over so many places: twice as many, each with 0 or the number of a variable that has a place
pub record IsTree (nodes : List ℕ) (places : ℕ) : Type 0 where
  pub size : length nodes ≡ 2 * places
  pub within : (i : ℕ) → slice_index_or nodes i 0 ≤ places
