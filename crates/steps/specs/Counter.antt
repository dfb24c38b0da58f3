-- A counter of steps, as contracts see it.
use Rattle.std.specs.Prelude.{ℕ, ◌+◌, ◌-◌, ◌*◌, ◌^◌}

-- how many steps were taken, and how many may be
pub record Counter : Type 0 where
  pub spent : ℕ
  pub budget : ℕ

-- the counter some steps later
abbrev pub after : Counter → ℕ → Counter
after c n = record { spent = c.spent + n; budget = c.budget }

-- how many steps are left
abbrev pub left : Counter → ℕ
left c = c.budget - c.spent

-- A number of steps that suffices with n variables, for a search that begins anew at most so often. Each assignment of
-- a search with learning raises a weight above all earlier ones since the search last began; it stays below
-- 2 ^ (n + 1), and with each assignment go at most 8 n + 7 resolutions and reductions. The plain recursion needs fewer.
abbrev pub step_limit : ℕ → ℕ → ℕ
step_limit restarts n = (8 * n + 8) * ((restarts + 1) * 2 ^ (n + 1))
