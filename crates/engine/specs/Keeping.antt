-- How many long learned rows a solve may keep.
use Rattle.std.specs.Prelude.{ℕ, ◌≤◌}

-- before another number is set
abbrev pub first_kept : ℕ
first_kept = 512

-- the numbers that may be set
abbrev pub MayBeKept : ℕ → Type 0
MayBeKept rows = (16 ≤ rows) × (rows ≤ 16777216)
