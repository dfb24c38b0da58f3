-- What an engine counts.
use Rattle.std.specs.Prelude.{ℕ, ◌+◌, ◌-◌, ◌^◌, min, max}
use Rattle.engine.specs.declared.counts.Counts.{Counts}

-- so many more; at 2 ^ 64 - 1 a count stays
abbrev pub more : ℕ → ℕ → ℕ
more count n = min (n + count) (2 ^ 64 - 1)

abbrev pub one_more : ℕ → ℕ
one_more n = more 1 n

abbrev pub no_counts : Counts
no_counts = record { clauses = 0; solves = 0; budget = 0; restarts = 0; vars = 0 }

-- with one more accepted clause
abbrev pub with_clause : Counts → Counts
with_clause counts = record counts { clauses = one_more counts.clauses }

-- with so many clauses that came back with their group
abbrev pub with_clauses : ℕ → Counts → Counts
with_clauses count counts = record counts { clauses = more count counts.clauses }

-- with one more solve, of this budget, which may begin anew so often, and with so many variables
abbrev pub with_solve : ℕ → ℕ → ℕ → Counts → Counts
with_solve budget restarts vars counts = record {
  clauses = counts.clauses;
  solves = one_more counts.solves;
  budget = max counts.budget budget;
  restarts = max counts.restarts restarts;
  vars = max counts.vars vars;
}
