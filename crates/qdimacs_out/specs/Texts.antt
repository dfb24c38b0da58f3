-- Formulas as texts, as QDIMACS 1.1 writes them (input format: preamble, prefix, matrix).
use Rattle.std.specs.Prelude.{ℕ, List, [], ◌∷◌, ◌++◌, codes, map}
use Rattle.std.specs.Fmt.{decimal, signed_decimal}
use Rattle.prefix.specs.declared.quant.Quant.{Quant}
use Rattle.prefix.specs.declared.quant.Quant.TheVariants.{Exists, Forall}
use Rattle.prefix.specs.Literal.{Literal, signed_number}
use Rattle.prefix.specs.Scopes.{Scope}
use Rattle.truth.specs.declared.formula.Formula.{Formula}
use Rattle.blocks.specs.Lines.{Line, text_of}
use Rattle.qdimacs_out.specs.declared.lent.Header.{Header}

-- `p cnf VARS CLAUSES` (problem_line)
abbrev pub header_line : ℕ → ℕ → Line
header_line vars clauses = codes "p" ∷ codes "cnf" ∷ decimal vars ∷ decimal clauses ∷ []

-- `e` or `a` (quantifier)
abbrev pub quantifier_word : Quant → List ℕ
quantifier_word Exists = codes "e"
quantifier_word Forall = codes "a"

-- the words of a line behind which 0 ends it
abbrev pub ended : Line → Line
ended words = words ++ codes "0" ∷ []

-- a scope: its quantifier, its variables and 0 (quant_set)
abbrev pub scope_line : Scope → Line
scope_line scope = ended (quantifier_word scope.quantifier ∷ map decimal scope.variables)

-- a literal: the number of its variable, with a minus sign for a negation (literal)
abbrev pub literal_word : Literal → List ℕ
literal_word l = signed_decimal (signed_number l)

-- a clause: its literals and 0 (clause)
abbrev pub clause_line : List Literal → Line
clause_line clause = ended (map literal_word clause)

-- the lines of a formula: the header with the declared numbers, its scopes from the outermost on, and its clauses
abbrev pub formula_lines : Formula → List Line
formula_lines f = header_line f.declared_vars f.declared_clauses ∷
    (map scope_line f.prefix ++ map clause_line f.clauses)

-- the text of a formula
abbrev pub formula_text : Formula → List ℕ
formula_text f = text_of (formula_lines f)

-- the text of a formula of these scopes and clauses, whose header declares these numbers
abbrev pub lent_text : Header → List Scope → List (List Literal) → List ℕ
lent_text header scopes clauses = formula_text (record {
  prefix = scopes;
  clauses = clauses;
  declared_vars = header.vars;
  declared_clauses = header.clauses;
})
