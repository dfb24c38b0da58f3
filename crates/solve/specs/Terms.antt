-- On what terms solves are made.
use Rattle.std.specs.Prelude.{ℕ, max}

-- the budget of each solve, how often it may begin anew, the greatest such number that was set so far, and how many
-- long learned rows it may keep
pub record Terms : Type 0 where
  pub budget : ℕ
  pub restarts : ℕ
  pub greatest : ℕ
  pub kept : ℕ

-- a budget, a number of restarts and a number of rows, before others are set
abbrev pub terms_of : (budget restarts kept : ℕ) → Terms
terms_of budget restarts kept =
    record { budget = budget; restarts = restarts; greatest = restarts; kept = kept }

-- another number of restarts from now on
abbrev pub with_restarts : ℕ → Terms → Terms
with_restarts restarts terms = record terms { restarts = restarts; greatest = max terms.greatest restarts }

-- another number of rows from now on
abbrev pub with_kept : ℕ → Terms → Terms
with_kept kept terms = record terms { kept = kept }
