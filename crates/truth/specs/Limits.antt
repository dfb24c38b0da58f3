-- What a formula may have at most that is read, built or written.
use Rattle.std.specs.Prelude.{ℕ, ◌^◌}

abbrev pub max_vars : ℕ
max_vars = 1048576

abbrev pub max_scopes : ℕ
max_scopes = 65536

abbrev pub max_clauses : ℕ
max_clauses = 2 ^ 24

abbrev pub max_literals : ℕ
max_literals = 2 ^ 28
