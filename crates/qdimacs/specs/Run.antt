-- What a text is, computed word by word.
use Rattle.std.specs.Prelude.{ℕ, ℤ, nat_abs, Bool, true, false, List, [], ◌∷◌, ◌++◌, Option, Some, None}
use Rattle.lexer.specs.declared.token.Word.{Word}
use Rattle.lexer.specs.declared.token.Word.TheVariants.{Num, Text, Other}
use Rattle.lexer.specs.declared.token.Comments.TheVariants.{Dimacs}
use Rattle.lexer.specs.Words.{Item, word, bad_byte, number_range, too_long, the_end, items}
use Rattle.prefix.specs.declared.quant.Quant.{Quant}
use Rattle.qdimacs.specs.Formula.{QuantSet}
use Rattle.qdimacs.specs.Rules.{Outcome, Header, Front, nothing, in_header, headed, between, in_set, in_clause, verdict}
use Rattle.reading.specs.Words.{quant_of, is_zero, natural_of}

-- the header where its last word has come
abbrev pub header_after : ℕ → List Word → Word → Front
header_after line (cnf ∷ vars ∷ []) w = headed (record { vars = natural_of vars; count = natural_of w; line = line })
header_after line [] w = in_header line (w ∷ [])
header_after line (v ∷ []) w = in_header line (v ∷ w ∷ [])
header_after line (cnf ∷ vars ∷ v ∷ vs) w = in_header line ((cnf ∷ vars ∷ v ∷ vs) ++ w ∷ [])

abbrev pub clause_after : Bool → Header → List QuantSet → List (List ℤ) → List ℤ → ℤ → Front
clause_after true h sets clauses ls n = between h sets (clauses ++ ls ∷ [])
clause_after false h sets clauses ls n = in_clause h sets clauses (ls ++ n ∷ [])

abbrev pub set_after : Bool → Header → List QuantSet → Quant → List ℕ → ℤ → Front
set_after true h sets q vs n = between h (sets ++ (q, vs) ∷ []) []
set_after false h sets q vs n = in_set h sets q (vs ++ nat_abs n ∷ [])

abbrev pub set_begun : Header → List QuantSet → Option Quant → Front
set_begun h sets (Some q) = in_set h sets q []
set_begun h sets None = between h sets []

-- what has been read with one more word that no rule refuses
abbrev pub extended : Front → Word → ℕ → Front
extended nothing w line = in_header line []
extended (in_header start ws) w line = header_after start ws w
extended (headed h) (Num n) line = clause_after (is_zero n) h [] [] [] n
extended (headed h) (Text t) line = set_begun h [] (quant_of (Text t))
extended (headed h) Other line = headed h
extended (between h sets clauses) (Num n) line = clause_after (is_zero n) h sets clauses [] n
extended (between h sets clauses) (Text t) line = set_begun h sets (quant_of (Text t))
extended (between h sets clauses) Other line = between h sets clauses
extended (in_set h sets q vs) (Num n) line = set_after (is_zero n) h sets q vs n
extended (in_set h sets q vs) (Text t) line = in_set h sets q vs
extended (in_set h sets q vs) Other line = in_set h sets q vs
extended (in_clause h sets clauses ls) (Num n) line = clause_after (is_zero n) h sets clauses ls n
extended (in_clause h sets clauses ls) (Text t) line = in_clause h sets clauses ls
extended (in_clause h sets clauses ls) Other line = in_clause h sets clauses ls

abbrev pub after_item : Front → Item → Front
after_item front (word t) = extended front t.word t.line
after_item front (bad_byte line) = front
after_item front (number_range line) = front
after_item front (too_long line) = front
after_item front (the_end line) = front

-- the outcome that is decided, or else that of the rest
abbrev pub decided : Option Outcome → Option Outcome → Option Outcome
decided (Some outcome) rest = Some outcome
decided None rest = rest

abbrev pub outcome_from : Front → List Item → Option Outcome
outcome_from front [] = None
outcome_from front (item ∷ rest) = decided (verdict front item) (outcome_from (after_item front item) rest)

-- What a text of these bytes is. The last of a text's items always decides.
abbrev pub outcome_of : List ℕ → Option Outcome
outcome_of text = outcome_from nothing (items Dimacs text)
