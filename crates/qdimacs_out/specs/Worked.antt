-- Worked values: words, lines and whole texts.
use Rattle.std.specs.Prelude.{◌≡◌, ℕ, List, [], ◌∷◌, codes}
use Rattle.prefix.specs.declared.quant.Quant.{Quant}
use Rattle.prefix.specs.declared.quant.Quant.TheVariants.{Exists, Forall}
use Rattle.truth.specs.declared.formula.Formula.{Formula}
use Rattle.clauses.specs.Worked.{minus, plus}
use Rattle.qdimacs.specs.Worked.{smallest, two_clauses}
use Rattle.prefix.specs.Scopes.{Scope}
use Rattle.qdimacs.specs.Reads.{Reads}
use Rattle.qdimacs.specs.Rules.{parsed, refused}
use Rattle.qdimacs_out.specs.Texts.{clause_line, formula_text, header_line, literal_word, scope_line}
use Rattle.blocks.specs.Lines.{line_text}
use Rattle.qdimacs_out.specs.Writable.{IsWritable}

-- words and lines with their bytes
pub record WorkedLines : Type 0 where
  pub positive : literal_word (plus 305) ≡ codes "305"
  pub negative : literal_word (minus 10) ≡ codes "-10"
  pub header : line_text (header_line 0 16777216) ≡ codes "p cnf 0 16777216\n"
  pub scope : line_text (scope_line (record { quantifier = Forall; variables = 2 ∷ 11 ∷ [] })) ≡ codes "a 2 11 0\n"
  pub empty_scope : line_text (scope_line (record { quantifier = Exists; variables = [] })) ≡ codes "e 0\n"
  pub clause : line_text (clause_line (minus 1 ∷ plus 2 ∷ [])) ≡ codes "-1 2 0\n"
  pub empty_clause : line_text (clause_line []) ≡ codes "0\n"

-- no scope and no clause, whatever is declared
abbrev pub nothing : Formula
nothing = record { prefix = []; clauses = []; declared_vars = 7; declared_clauses = 5 }

-- Whole texts; and texts that are not those of a formula: with the declared numbers exchanged, without the 0 of a
-- scope, with another sign, with the quantifiers exchanged, and cut.
pub record WorkedTexts : Type 0 where
  pub of_smallest : formula_text smallest ≡ codes "p cnf 3 1\ne 1 0\na 2 0\ne 3 0\n-1 2 -3 0\n"
  pub of_two_clauses : formula_text two_clauses
      ≡ codes "p cnf 4 2\ne 1 0\na 2 0\ne 3 4 0\n-1 -3 -4 0\n-1 3 -4 0\n"
  pub of_nothing : formula_text nothing ≡ codes "p cnf 7 5\n"
  pub other_numbers : formula_text smallest ≡ codes "p cnf 1 3\ne 1 0\na 2 0\ne 3 0\n-1 2 -3 0\n" → ⊥
  pub no_zero : formula_text smallest ≡ codes "p cnf 3 1\ne 1\na 2 0\ne 3 0\n-1 2 -3 0\n" → ⊥
  pub other_sign : formula_text smallest ≡ codes "p cnf 3 1\ne 1 0\na 2 0\ne 3 0\n1 2 -3 0\n" → ⊥
  pub other_quantifier : formula_text smallest ≡ codes "p cnf 3 1\na 1 0\ne 2 0\na 3 0\n-1 2 -3 0\n" → ⊥
  pub cut : formula_text smallest ≡ codes "p cnf 3 1\ne 1 0\na 2 0\ne 3 0\n" → ⊥

-- a scope
abbrev pub scope : Quant → List ℕ → Scope
scope q vs = record { quantifier = q; variables = vs }

-- two neighbouring existential scopes
abbrev pub neighbours : Formula
neighbours = record smallest { prefix = scope Exists (1 ∷ []) ∷ scope Exists (2 ∷ 3 ∷ []) ∷ [] }

-- a scope without a variable
abbrev pub hollow : Formula
hollow = record smallest {
  prefix = scope Exists (1 ∷ 2 ∷ []) ∷ scope Forall [] ∷ scope Exists (3 ∷ []) ∷ [];
}

-- what these two are read as
abbrev pub joined : Formula
joined = record smallest { prefix = scope Exists (1 ∷ 2 ∷ 3 ∷ []) ∷ [] }

-- variables that descend
abbrev pub falling : Formula
falling = record smallest { prefix = scope Exists (3 ∷ 2 ∷ 1 ∷ []) ∷ [] }

-- a clause that descends
abbrev pub falling_clause : Formula
falling_clause = record smallest { clauses = (plus 2 ∷ minus 1 ∷ []) ∷ [] }

-- a clause over a variable of no scope
abbrev pub free_variable : Formula
free_variable = record smallest { clauses = (minus 1 ∷ plus 4 ∷ []) ∷ []; declared_vars = 4 }

-- a variable that isn't declared
abbrev pub undeclared : Formula
undeclared = record smallest { declared_vars = 2 }

-- more clauses than declared
abbrev pub too_many : Formula
too_many = record smallest { declared_clauses = 0 }

-- formulas in the form in which they are written, and the others
pub record WorkedForms : Type 0 where
  pub of_smallest : IsWritable smallest
  pub of_nothing : IsWritable nothing
  pub of_neighbours : IsWritable neighbours → ⊥
  pub of_hollow : IsWritable hollow → ⊥
  pub of_falling : IsWritable falling → ⊥
  pub of_falling_clause : IsWritable falling_clause → ⊥
  pub of_free_variable : IsWritable free_variable → ⊥
  pub of_undeclared : IsWritable undeclared → ⊥
  pub of_too_many : IsWritable too_many → ⊥

-- What the texts are read as: the formulas of the first two, and a refusal where clauses are wanting; others are read
-- as another formula, or refused.
pub record WorkedReadings : Type 0 where
  pub of_smallest : Reads (formula_text smallest) (parsed smallest)
  pub of_two_clauses : Reads (formula_text two_clauses) (parsed two_clauses)
  pub of_nothing : Reads (formula_text nothing) (refused 16 2)
  pub of_neighbours : Reads (formula_text neighbours) (parsed joined)
  pub of_hollow : Reads (formula_text hollow) (parsed joined)
  pub of_falling_clause : Reads (formula_text falling_clause)
      (parsed (record smallest { clauses = (minus 1 ∷ plus 2 ∷ []) ∷ [] }))
  pub of_undeclared : Reads (formula_text undeclared) (refused 12 4)
  pub of_too_many : Reads (formula_text too_many) (refused 17 5)
