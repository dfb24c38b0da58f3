-- The rules of the text: what may follow what has been read, and what refuses each other word. The grammar is that of
-- QDIMACS 1.1, input format (preamble, prefix, matrix); the limits, the numbers of the refusals and their order are
-- own.
use Rattle.std.specs.Prelude.{ℕ, suc, zero, ℤ, nat_abs, Bool, true, false, not, ◌&&◌, ◌==◌, nat_lt, nat_le, if◌then◌else◌, List, [], ◌∷◌, ◌++◌, length, codes, Option, Some, None}
use Rattle.lexer.specs.declared.token.Word.{Word}
use Rattle.lexer.specs.declared.token.Word.TheVariants.{Num, Text, Other}
use Rattle.lexer.specs.Words.{Item, word, bad_byte, number_range, too_long, the_end}
use Rattle.prefix.specs.declared.quant.Quant.{Quant}
use Rattle.truth.specs.declared.formula.Formula.{Formula}
use Rattle.prefix.specs.Scopes.{is_among}
use Rattle.reading.specs.declared.refusal.Quantity.{Quantity}
use Rattle.reading.specs.declared.refusal.Quantity.TheVariants.{Variables, Scopes, Clauses, Literals, Bytes}
use Rattle.qdimacs.specs.Formula.{QuantSet, formula_of, scopes_of, merged, declared, literals_of}
use Rattle.truth.specs.Limits.{max_vars, max_scopes, max_clauses, max_literals}
use Rattle.reading.specs.Words.{is_text, is_natural, quant_of, is_zero}

-- what a text is
pub data Outcome : Type 0 where
  parsed : Formula → Outcome
  refused : ℕ → ℕ → Outcome
  limit : Quantity → ℕ → Outcome

-- the numbers of the header, and the line that it stands on (QDIMACS 1.1, input format: problem_line)
pub record Header : Type 0 where
  pub vars : ℕ
  pub count : ℕ
  pub line : ℕ

-- What has been read: no word; `p` on this line and these words behind it; the header alone; the header with whole sets
-- and clauses; and these with the variables of a set, or the literals of a clause, that has not ended.
pub data Front : Type 0 where
  nothing : Front
  in_header : ℕ → List Word → Front
  headed : Header → Front
  between : Header → List QuantSet → List (List ℤ) → Front
  in_set : Header → List QuantSet → Quant → List ℕ → Front
  in_clause : Header → List QuantSet → List (List ℤ) → List ℤ → Front

-- the word that stands behind `p` and this many others
abbrev pub fits_header : ℕ → Word → Bool
fits_header zero w = is_text (codes "cnf") w
fits_header (suc zero) w = is_natural w
fits_header (suc (suc zero)) w = is_natural w
fits_header (suc (suc (suc n))) w = false

-- of several rules the first that refuses
abbrev pub first_of : List (Bool × Outcome) → Option Outcome
first_of [] = None
first_of (rule ∷ rules) = if rule.0 then Some rule.1 else first_of rules

abbrev pub is_empty : {A : Type 0} → List A → Bool
is_empty [] = true
is_empty (x ∷ xs) = false

-- The header's numbers are within the limits.
abbrev pub header_limits : Header → List (Bool × Outcome)
header_limits h = (nat_lt max_vars h.vars, limit Variables h.line)
    ∷ (nat_lt max_clauses h.count, limit Clauses h.line) ∷ []

-- The first word behind the header stands on another line.
abbrev pub header_rules : Header → ℕ → List (Bool × Outcome)
header_rules h line = (line == h.line, refused 11 h.line) ∷ header_limits h

-- a number in a set (QDIMACS 1.1, input format: quant_set)
abbrev pub variable_rules : Header → List QuantSet → Quant → List ℕ → ℤ → ℕ → List (Bool × Outcome)
variable_rules h sets q vs n line =
    (not (is_natural (Num n) && nat_le (nat_abs n) h.vars), refused 12 line)
    ∷ (is_among (nat_abs n) (declared sets ++ vs), refused 13 line)
    ∷ (nat_lt max_scopes (length (merged (sets ++ (q, vs ++ nat_abs n ∷ []) ∷ []))), limit Scopes line)
    ∷ []

-- a number in a clause (QDIMACS 1.1, input format: clause)
abbrev pub literal_rules : Header → List (List ℤ) → List ℤ → ℤ → ℕ → List (Bool × Outcome)
literal_rules h clauses ls n line =
    (nat_lt h.vars (nat_abs n), refused 12 line)
    ∷ (nat_le max_literals (length (literals_of clauses ++ ls)), limit Literals line)
    ∷ []

abbrev pub unless_zero : ℤ → List (Bool × Outcome) → List (Bool × Outcome)
unless_zero n rules = if is_zero n then [] else rules

-- a word that is no number, in a set or in a clause
abbrev pub inside_rules : Option Quant → ℕ → List (Bool × Outcome)
inside_rules (Some q) line = (true, refused 15 line) ∷ []
inside_rules None line = (true, refused 18 line) ∷ []

-- a word that is no number, between sets and clauses
abbrev pub outside_rules : List (List ℤ) → Option Quant → ℕ → List (Bool × Outcome)
outside_rules clauses (Some q) line = (not (is_empty clauses), refused 14 line) ∷ []
outside_rules clauses None line = (true, refused 18 line) ∷ []

abbrev pub between_rules : Header → List (List ℤ) → Word → ℕ → List (Bool × Outcome)
between_rules h clauses (Num n) line = (length clauses == h.count, refused 17 line)
    ∷ unless_zero n (literal_rules h clauses [] n line)
between_rules h clauses (Text t) line = outside_rules clauses (quant_of (Text t)) line
between_rules h clauses Other line = outside_rules clauses None line

abbrev pub set_rules : Header → List QuantSet → Quant → List ℕ → Word → ℕ → List (Bool × Outcome)
set_rules h sets q vs (Num n) line = unless_zero n (variable_rules h sets q vs n line)
set_rules h sets q vs (Text t) line = inside_rules (quant_of (Text t)) line
set_rules h sets q vs Other line = inside_rules None line

abbrev pub clause_rules : Header → List (List ℤ) → List ℤ → Word → ℕ → List (Bool × Outcome)
clause_rules h clauses ls (Num n) line = unless_zero n (literal_rules h clauses ls n line)
clause_rules h clauses ls (Text t) line = inside_rules (quant_of (Text t)) line
clause_rules h clauses ls Other line = inside_rules None line

-- what refuses a word behind what has been read
abbrev pub word_rules : Front → Word → ℕ → List (Bool × Outcome)
word_rules nothing w line = (not (is_text (codes "p") w), refused 10 line) ∷ []
word_rules (in_header start ws) w line = (not (line == start), refused 11 start)
    ∷ (not (fits_header (length ws) w), refused 11 start) ∷ []
word_rules (headed h) w line = header_rules h line ++ between_rules h [] w line
word_rules (between h sets clauses) w line = between_rules h clauses w line
word_rules (in_set h sets q vs) w line = set_rules h sets q vs w line
word_rules (in_clause h sets clauses ls) w line = clause_rules h clauses ls w line

-- what the end means behind whole sets and clauses
abbrev pub whole_rules : Header → List QuantSet → List (List ℤ) → ℕ → List (Bool × Outcome)
whole_rules h sets clauses line =
    (nat_lt (length clauses) h.count, refused 16 line)
    ∷ (nat_lt max_scopes (length (scopes_of sets clauses)), limit Scopes line)
    ∷ (true, parsed (formula_of h.vars h.count sets clauses))
    ∷ []

-- what the end means behind what has been read
abbrev pub end_rules : Front → ℕ → List (Bool × Outcome)
end_rules nothing line = (true, refused 10 line) ∷ []
end_rules (in_header start ws) line = (true, refused 11 start) ∷ []
end_rules (headed h) line = header_limits h ++ whole_rules h [] [] line
end_rules (between h sets clauses) line = whole_rules h sets clauses line
end_rules (in_set h sets q vs) line = (true, refused 15 line) ∷ []
end_rules (in_clause h sets clauses ls) line = (true, refused 15 line) ∷ []

-- what an item decides behind what has been read, if it does
abbrev pub verdict : Front → Item → Option Outcome
verdict front (word t) = first_of (word_rules front t.word t.line)
verdict front (bad_byte line) = Some (refused 7 line)
verdict front (number_range line) = Some (refused 8 line)
verdict front (too_long line) = Some (limit Bytes line)
verdict front (the_end line) = first_of (end_rules front line)
