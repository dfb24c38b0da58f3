-- Worked values: rows, what is kept of them, and scopes.
use Rattle.std.specs.Prelude.{◌≡◌, ℕ, ◌+◌, ◌-◌, ◌^◌, ◌<◌, ◌≤◌, true, false, List, [], ◌∷◌, length, Some, None, Ok, Err}
use Rattle.prefix.specs.declared.quant.Quant.TheVariants.{Exists, Forall}
use Rattle.prefix.specs.Literal.{Literal}
use Rattle.prefix.specs.Scopes.{Scope}
use Rattle.clauses.specs.Worked.{minus, plus}
use Rattle.builder.specs.declared.beyond.Beyond.TheVariants.{Clauses, Literals}
use Rattle.builder.specs.Building.{AreFew, Builds, IsCounted, IsFinish, amount_of, beyond_of, capped, has_one, no_rows, row_of_sorted}
use Rattle.builder.specs.NewScope.{AreNew, IsBegun, scope_of}
use Rattle.builder.specs.Rows.{as_row, flipped, is_left_out, rows_of}

-- 5 -2 5 with the constant false, 2 with -2 and 3, 3 with the constant true, and no literal
abbrev pub clauses : List (List ℕ)
clauses = (10 ∷ 5 ∷ 0 ∷ 10 ∷ []) ∷ (4 ∷ 6 ∷ 5 ∷ []) ∷ (6 ∷ 1 ∷ []) ∷ [] ∷ []

abbrev pub rows : List (List Literal)
rows = (minus 2 ∷ plus 5 ∷ []) ∷ [] ∷ []

pub record WorkedRows : Type 0 where
  pub opposite : flipped 10 ≡ 11
  pub opposite_of_negation : flipped 5 ≡ 4
  pub constants : flipped 0 ≡ 1
  -- a repeat counts once, the constant false is left out, and the row ascends
  pub row : as_row (10 ∷ 5 ∷ 0 ∷ 10 ∷ []) ≡ minus 2 ∷ plus 5 ∷ []
  pub stays : is_left_out (10 ∷ 5 ∷ 0 ∷ 10 ∷ []) ≡ false
  pub both_signs : is_left_out (4 ∷ 6 ∷ 5 ∷ []) ≡ true
  pub constant_true : is_left_out (6 ∷ 1 ∷ []) ≡ true
  -- the empty clause has a row
  pub all : rows_of clauses ≡ rows

pub record WorkedBuilds : Type 0 where
  -- of clauses that ascend
  pub first : has_one (1 ∷ 6 ∷ []) ≡ true
  pub not_first : has_one (0 ∷ 1 ∷ 6 ∷ []) ≡ false
  pub sorted : row_of_sorted (0 ∷ 5 ∷ 10 ∷ []) ≡ minus 2 ∷ plus 5 ∷ []
  -- two rows with two literals
  pub amount : amount_of rows ≡ 2
  pub few : AreFew rows
  pub kept : Builds (record { rows = rows; count = 2; amount = 2 }) clauses
  pub miscounted : Builds (record { rows = rows; count = 2; amount = 4 }) clauses → ⊥
  pub unkept : Builds (record { rows = []; count = 2; amount = 2 }) clauses → ⊥
  pub none : Builds no_rows []
  pub counted : IsCounted (record { rows = rows; count = 2; amount = 7 })
  pub uncounted : IsCounted (record { rows = rows; count = 2; amount = 1 }) → ⊥
  pub finished : IsFinish (Ok rows) rows
  pub within : IsFinish (Err Clauses) rows → ⊥
  pub no_limit : beyond_of rows ≡ None
  pub more_clauses : (rs : List (List Literal)) → 2 ^ 24 < length rs → beyond_of rs ≡ Some Clauses
  pub more_literals : (rs : List (List Literal)) → length rs ≤ 2 ^ 24 → 2 ^ 28 < amount_of rs
      → beyond_of rs ≡ Some Literals
  pub small : capped 7 ≡ 7
  pub great : capped (2 ^ 64 + 7) ≡ 2 ^ 64 - 1

-- a 4, e 1 2
abbrev pub scopes : List Scope
scopes =
    record { quantifier = Forall; variables = 4 ∷ [] }
    ∷ record { quantifier = Exists; variables = 1 ∷ 2 ∷ [] }
    ∷ []

-- the same with a 3 6
abbrev pub more : List Scope
more =
    record { quantifier = Forall; variables = 4 ∷ [] }
    ∷ record { quantifier = Exists; variables = 1 ∷ 2 ∷ [] }
    ∷ record { quantifier = Forall; variables = 3 ∷ 6 ∷ [] }
    ∷ []

-- the same with a 6
abbrev pub begun : List Scope
begun =
    record { quantifier = Forall; variables = 4 ∷ [] }
    ∷ record { quantifier = Exists; variables = 1 ∷ 2 ∷ [] }
    ∷ record { quantifier = Forall; variables = 6 ∷ [] }
    ∷ []

pub record WorkedScopes : Type 0 where
  pub scope : scope_of Forall (6 ∷ 3 ∷ []) ≡ record { quantifier = Forall; variables = 3 ∷ 6 ∷ [] }
  pub new : AreNew scopes (6 ∷ 3 ∷ [])
  pub repeated : AreNew scopes (6 ∷ 6 ∷ []) → ⊥
  pub taken : AreNew scopes (6 ∷ 2 ∷ []) → ⊥
  pub no_variable : AreNew scopes (6 ∷ 0 ∷ []) → ⊥
  -- want of memory leaves the scopes, or the new one with the first of its variables, and not another one
  pub same : IsBegun Forall (6 ∷ 3 ∷ []) scopes scopes
  pub first : IsBegun Forall (6 ∷ 3 ∷ []) scopes begun
  pub not_second : IsBegun Forall (3 ∷ 6 ∷ []) scopes begun → ⊥
