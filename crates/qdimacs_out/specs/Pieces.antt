-- The pieces in which the text of a formula is written.
use Rattle.std.specs.Prelude.{ℕ, List, ◌++◌, codes}
use Rattle.std.specs.List.{flat_map}
use Rattle.std.specs.Fmt.{decimal}
use Rattle.prefix.specs.declared.quant.Quant.{Quant}
use Rattle.prefix.specs.Literal.{Literal}
use Rattle.prefix.specs.Scopes.{Scope}
use Rattle.qdimacs_out.specs.Texts.{clause_line, literal_word, quantifier_word, scope_line}
use Rattle.blocks.specs.Lines.{line_text, spaced}

-- what ends a scope or a clause
abbrev pub closing : List ℕ
closing = codes "0\n"

-- the text of a scope
abbrev pub scope_text : Scope → List ℕ
scope_text scope = line_text (scope_line scope)

-- the same in pieces
abbrev pub scope_pieces : Quant → List ℕ → List ℕ
scope_pieces q vs = spaced (quantifier_word q) ++ (flat_map (λ v. spaced (decimal v)) vs ++ closing)

-- the text of a clause
abbrev pub clause_text : List Literal → List ℕ
clause_text clause = line_text (clause_line clause)

-- the same in pieces
abbrev pub clause_pieces : List Literal → List ℕ
clause_pieces clause = flat_map (λ l. spaced (literal_word l)) clause ++ closing
