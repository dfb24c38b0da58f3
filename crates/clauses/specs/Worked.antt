-- Worked values: the rows of clauses.
use Rattle.std.specs.Prelude.{◌≡◌, ℕ, pos, negsuc, true, false, [], ◌∷◌, Some, None}
use Rattle.prefix.specs.Literal.{Literal}
use Rattle.clauses.specs.Clause.{has_literal, row_unless_tautology}

-- a variable as a literal
abbrev pub plus : ℕ → Literal
plus v = record { variable = v; positive = true }

-- its negation
abbrev pub minus : ℕ → Literal
minus v = record { variable = v; positive = false }

pub record WorkedClauses : Type 0 where
  -- 3 -1 3 2
  pub repeats_count_once : row_unless_tautology (pos 3 ∷ negsuc 0 ∷ pos 3 ∷ pos 2 ∷ [])
      ≡ Some (minus 1 ∷ plus 2 ∷ plus 3 ∷ [])
  -- 2 1 -2
  pub both_signs : row_unless_tautology (pos 2 ∷ pos 1 ∷ negsuc 1 ∷ []) ≡ None
  pub empty : row_unless_tautology [] ≡ Some []
  -- 1 stands in 2 1, and -1 doesn't
  pub literal_stands : has_literal (pos 1) (pos 2 ∷ pos 1 ∷ []) ≡ true
  pub negation_does_not : has_literal (negsuc 0) (pos 2 ∷ pos 1 ∷ []) ≡ false
