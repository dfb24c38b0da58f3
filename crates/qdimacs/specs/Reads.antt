-- What a text is, by its grammar (QDIMACS 1.1, input format).
use Rattle.std.specs.Prelude.{◌≡◌, ◌≢◌, ◌⊎◌, ℕ, ◌<◌, ◌≤◌, ℤ, pos, nat_abs, List, [], ◌∷◌, ◌++◌, length, map, flat_map, take, drop, codes, Some}
use Rattle.std.specs.List.{AllByRecursion}
use Rattle.lexer.specs.declared.token.Word.{Word}
use Rattle.lexer.specs.declared.token.Word.TheVariants.{Num, Text}
use Rattle.lexer.specs.declared.token.Token.{Token}
use Rattle.lexer.specs.declared.token.Comments.TheVariants.{Dimacs}
use Rattle.lexer.specs.Words.{Item, word, items}
use Rattle.prefix.specs.Scopes.{AreDistinct}
use Rattle.qdimacs.specs.Formula.{QuantSet, merged, declared, literals_of}
use Rattle.qdimacs.specs.Rules.{Outcome, Header, Front, nothing, in_header, headed, between, in_set, in_clause, verdict}
use Rattle.truth.specs.Limits.{max_vars, max_scopes, max_clauses, max_literals}
use Rattle.reading.specs.Words.{quant_word}

-- the words that each thing is written by
abbrev pub header_words : ℕ → ℕ → List Word
header_words vars count = Text (codes "p") ∷ Text (codes "cnf") ∷ Num (pos vars) ∷ Num (pos count) ∷ []

abbrev pub variable_words : List ℕ → List Word
variable_words vs = map (λ v. Num (pos v)) vs

abbrev pub set_words : QuantSet → List Word
set_words set = quant_word set.0 ∷ variable_words set.1 ++ Num (pos 0) ∷ []

abbrev pub clause_words : List ℤ → List Word
clause_words ls = map Num ls ++ Num (pos 0) ∷ []

abbrev pub whole_words : Header → List QuantSet → List (List ℤ) → List Word
whole_words h sets clauses = header_words h.vars h.count ++ flat_map set_words sets ++ flat_map clause_words clauses

abbrev pub words_of : Front → List Word
words_of nothing = []
words_of (in_header line ws) = Text (codes "p") ∷ ws
words_of (headed h) = header_words h.vars h.count
words_of (between h sets clauses) = whole_words h sets clauses
words_of (in_set h sets q vs) = whole_words h sets [] ++ quant_word q ∷ variable_words vs
words_of (in_clause h sets clauses ls) = whole_words h sets clauses ++ map Num ls

-- the line of the header
abbrev pub line_of : Front → ℕ
line_of nothing = 0
line_of (in_header line ws) = line
line_of (headed h) = h.line
line_of (between h sets clauses) = h.line
line_of (in_set h sets q vs) = h.line
line_of (in_clause h sets clauses ls) = h.line

-- These are the words of what has been read. The header's stand on one line, and the first behind it on another.
pub record Spells (front : Front) (read : List Token) : Type 0 where
  pub words : map (λ (t : Token). t.word) read ≡ words_of front
  pub on_line : AllByRecursion (λ (t : Token). t.line ≡ line_of front) (take 4 read)
  pub off_line : AllByRecursion (λ (t : Token). t.line ≢ line_of front) (take 1 (drop 4 read))

-- what sets and clauses, the last of which may be unfinished, keep to
pub record AreAllowed (h : Header) (sets : List QuantSet) (clauses : List (List ℤ)) : Type 0 where
  pub limits : (h.vars ≤ max_vars) × (h.count ≤ max_clauses)
  pub variables : AllByRecursion (λ v. (0 < v) × (v ≤ h.vars)) (declared sets)
  pub distinct : AreDistinct (declared sets)
  pub scopes : length (merged sets) ≤ max_scopes
  pub count : length clauses ≤ h.count
  pub literals : AllByRecursion (λ l. (0 < nat_abs l) × (nat_abs l ≤ h.vars)) (literals_of clauses)
  pub amount : length (literals_of clauses) ≤ max_literals

abbrev pub IsAllowed : Front → Type 0
IsAllowed nothing = Unit {0}
IsAllowed (in_header line ws) = (vars count n : ℕ) × (n < 3)
    × (ws ≡ take n (Text (codes "cnf") ∷ Num (pos vars) ∷ Num (pos count) ∷ []))
IsAllowed (headed h) = Unit {0}
IsAllowed (between h sets clauses) = ((sets ≢ []) ⊎ (clauses ≢ [])) × AreAllowed h sets clauses
IsAllowed (in_set h sets q vs) = AreAllowed h (sets ++ (q, vs) ∷ []) []
IsAllowed (in_clause h sets clauses ls) = (ls ≢ []) × AreAllowed h sets (clauses ++ ls ∷ [])

-- A front of the words is a header, whole sets, whole clauses and at most one unfinished item, all of it allowed, and
-- the next word, or the end, decides.
pub record Decides (all : List Item) (outcome : Outcome) : Type 0 where
  pub front : Front
  pub read : List Token
  pub next : Item
  pub rest : List Item
  pub whole : all ≡ map word read ++ next ∷ rest
  pub spelled : Spells front read
  pub allowed : IsAllowed front
  pub decides : verdict front next ≡ Some outcome

-- what a text of these bytes is
abbrev pub Reads : List ℕ → Outcome → Type 0
Reads text outcome = Decides (items Dimacs text) outcome
