-- What is kept of clauses while they come, and what they come to.
use Rattle.std.specs.Prelude.{◌≡◌, ℕ, ◌-◌, ◌^◌, ◌≤◌, ◌==◌, min, Bool, false, not, nat_lt, if◌then◌else◌, List, [], ◌∷◌, ◌++◌, length, map, filter, Option, Some, None, Result, Ok, Err}
use Rattle.std.specs.List.{flat_map}
use Rattle.prefix.specs.Literal.{Literal}
use Rattle.builder.specs.Rows.{literal_of, rows_of}
use Rattle.builder.specs.declared.beyond.Beyond.{Beyond}
use Rattle.builder.specs.declared.beyond.Beyond.TheVariants.{Clauses, Literals}
use Rattle.truth.specs.Limits.{max_clauses, max_literals}

-- how many literals rows have
abbrev pub amount_of : List (List Literal) → ℕ
amount_of rows = length (flat_map (λ r. r) rows)

-- rows are within the limits
abbrev pub AreFew : List (List Literal) → Type 0
AreFew rows = (length rows ≤ max_clauses) × (amount_of rows ≤ max_literals)

-- the limit that rows go beyond, if any
abbrev pub beyond_of : List (List Literal) → Option Beyond
beyond_of rows =
    if nat_lt max_clauses (length rows) then Some Clauses
    else if nat_lt max_literals (amount_of rows) then Some Literals
    else None

-- a count that stops at the greatest number of 64 bits
abbrev pub capped : ℕ → ℕ
capped n = min n (2 ^ 64 - 1)

-- what is kept: rows, how many there are, and how many literals they have
pub record Kept : Type 0 where
  pub rows : List (List Literal)
  pub count : ℕ
  pub amount : ℕ

abbrev pub no_rows : Kept
no_rows = record { rows = []; count = 0; amount = 0 }

-- no more rows and literals are kept than are counted
pub record IsCounted (kept : Kept) : Type 0 where
  pub count : length kept.rows ≤ kept.count
  pub amount : amount_of kept.rows ≤ kept.amount

-- what is kept of clauses: their rows while these are within the limits, and how many they are
pub record Builds (build : Kept) (clauses : List (List ℕ)) : Type 0 where
  pub count : build.count ≡ capped (length (rows_of clauses))
  pub amount : build.amount ≡ capped (amount_of (rows_of clauses))
  pub rows : AreFew (rows_of clauses) → build.rows ≡ rows_of clauses

-- these clauses come behind those so far
abbrev pub Adds : Kept → Kept → List (List ℕ) → Type 0
Adds old new more = (cs : List (List ℕ)) → Builds old cs → Builds new (cs ++ more)

-- all rows, or the limit that they go beyond
abbrev pub IsFinish : Result (List (List Literal)) Beyond → List (List Literal) → Type 0
IsFinish (Ok kept) rows = (kept ≡ rows) × (beyond_of rows ≡ None)
IsFinish (Err limit) rows = beyond_of rows ≡ Some limit

-- whether 1 is the first
abbrev pub has_one : List ℕ → Bool
has_one [] = false
has_one (n ∷ ns) = n == 1

-- the literals of circuit literals that ascend; 0 is none
abbrev pub row_of_sorted : List ℕ → List Literal
row_of_sorted ns = map literal_of (filter (λ n. not (n == 0)) ns)
