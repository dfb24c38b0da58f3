-- What the reader keeps stands for what has been read.
use Rattle.prefix.specs.Scopes.{is_among, AreDistinct}
use Rattle.std.specs.Prelude.{◌≡◌, false, ℕ, ◌+◌, ◌<◌, ◌≤◌, ℤ, nat_abs, List, [], ◌∷◌, ◌++◌, length, map, All, Option, None, Result, Ok, Err}
use Rattle.std.specs.List.{AllByRecursion}
use Rattle.lexer.specs.declared.token.Word.{Word}
use Rattle.prefix.specs.declared.quant.Quant.{Quant}
use Rattle.truth.specs.declared.formula.Formula.{Formula}
use Rattle.qdimacs.specs.declared.reader.Reader.{Reader}
use Rattle.qdimacs.specs.declared.sets.Sets.{Sets}
use Rattle.qdimacs.specs.declared.clause_rows.Clauses.{Clauses}
use Rattle.qdimacs.specs.declared.reader.Stage.{Stage}
use Rattle.qdimacs.specs.declared.reader.Stage.TheVariants.{Nothing, Problem, Format, Vars, Headed, Between, InSet, InClause}
use Rattle.reading.specs.declared.refusal.ReadRefusal.{ReadRefusal}
use Rattle.qdimacs.specs.Formula.{QuantSet, merged, declared, literals_of, matrix_of}
use Rattle.qdimacs.specs.Rules.{Outcome, Header, Front, nothing, in_header, headed, between, in_set, in_clause, first_of, word_rules, end_rules, header_limits, literal_rules, variable_rules, unless_zero}
use Rattle.truth.specs.Limits.{max_vars, max_clauses, max_literals, max_scopes}
use Rattle.reading.specs.Words.{is_zero, natural_of}
use Rattle.qdimacs.specs.Run.{extended, clause_after}
use Rattle.qdimacs.specs.Step.{Is, Closes}
use Rattle.qdimacs.specs.Kept.{sets_of, AreMarks}
use Rattle.clauses.specs.Codes.{codes_of}

-- the numbers of the header and its line
abbrev pub header_of : Reader → Header
header_of r = record { vars = r.vars; count = r.count; line = r.line }

-- no set, no clause and no mark
pub record IsFresh (kept_sets : Sets) (kept_clauses : Clauses) : Type 0 where
  pub scopes : kept_sets.rows.items ≡ []
  pub declared_none : kept_sets.marks.items ≡ []
  pub rows : kept_clauses.rows.items ≡ []
  pub ended : kept_clauses.ended ≡ 0
  pub begun : kept_clauses.begun.items ≡ []
  pub amount : kept_clauses.amount ≡ 0
  pub occur_none : kept_clauses.marks.items ≡ []

-- what is kept of these sets
pub record KeepsSets (vars : ℕ) (kept : Sets) (sets : List QuantSet) : Type 0 where
  pub scopes : sets_of kept.rows.items ≡ merged sets
  pub few : length (merged sets) ≤ max_scopes
  pub distinct : AreDistinct (declared sets)
  pub positive : is_among 0 (declared sets) ≡ false
  pub marks : AreMarks kept.marks.items (declared sets)
  pub marked : length kept.marks.items ≡ vars + 1

-- what is kept of these clauses, and of the literals of one that has not ended
pub record KeepsClauses (vars count : ℕ) (kept : Clauses) (clauses : List (List ℤ)) (ls : List ℤ) : Type 0 where
  pub fewer : length clauses ≤ count
  pub rows : kept.rows.items ≡ matrix_of clauses
  pub ended : kept.ended ≡ length clauses
  pub begun : kept.begun.items ≡ codes_of ls
  pub low : AllByRecursion (λ n. (0 < nat_abs n) × (nat_abs n ≤ vars)) ls
  pub amount : kept.amount ≡ length (literals_of clauses ++ ls)
  pub enough : kept.amount ≤ max_literals
  pub marks : AreMarks kept.marks.items (map nat_abs (literals_of clauses ++ ls))
  pub positive : is_among 0 (map nat_abs (literals_of clauses ++ ls)) ≡ false
  pub marked : length kept.marks.items ≡ vars + 1

-- what is kept behind the header
pub record Keeps (vars count : ℕ) (kept_sets : Sets) (kept_clauses : Clauses) (sets : List QuantSet)
    (clauses : List (List ℤ)) (ls : List ℤ) : Type 0 where
  pub vars_few : vars ≤ max_vars
  pub count_few : count ≤ max_clauses
  pub of_sets : KeepsSets vars kept_sets sets
  pub of_clauses : KeepsClauses vars count kept_clauses clauses ls

abbrev pub Stands : Stage → Reader → Front → Type 0
Stands Nothing r front = (front ≡ nothing) × IsFresh r.sets r.clauses
Stands Problem r front = (front ≡ in_header r.line []) × IsFresh r.sets r.clauses
Stands Format r front = (w : Word) × (front ≡ in_header r.line (w ∷ [])) × IsFresh r.sets r.clauses
Stands Vars r front = (w u : Word) × (front ≡ in_header r.line (w ∷ u ∷ [])) × (natural_of u ≡ r.vars)
    × IsFresh r.sets r.clauses
Stands Headed r front = (front ≡ headed (header_of r)) × IsFresh r.sets r.clauses
Stands Between r front = (sets : List QuantSet) × (clauses : List (List ℤ))
    × (front ≡ between (header_of r) sets clauses) × Keeps r.vars r.count r.sets r.clauses sets clauses []
Stands (InSet q) r front = (sets : List QuantSet) × (vs : List ℕ) × (front ≡ in_set (header_of r) sets q vs)
    × Keeps r.vars r.count r.sets r.clauses (sets ++ (q, vs) ∷ []) [] []
Stands InClause r front = (sets : List QuantSet) × (clauses : List (List ℤ)) × (ls : List ℤ)
    × (front ≡ in_clause (header_of r) sets clauses ls) × (length clauses < r.count)
    × Keeps r.vars r.count r.sets r.clauses sets clauses ls

-- The reader stands for what has been read.
abbrev pub Represents : Reader → Front → Type 0
Represents r front = Stands r.stage r front

-- The reader stands for something that has been read.
pub record Stood (r : Reader) : Type 0 where
  pub front : Front
  pub represents : Represents r front

-- Behind the header: its numbers are within the limits, and each declared number has its marks.
pub record IsMarked (r : Reader) : Type 0 where
  pub vars : r.vars ≤ 1048576
  pub count : r.count ≤ 16777216
  pub ended : r.clauses.ended ≤ r.count
  pub declared_len : length r.sets.marks.items ≡ r.vars + 1
  pub occur_len : length r.clauses.marks.items ≡ r.vars + 1
  pub codes : All (λ c. (2 ≤ c) × (c < 2097154)) r.clauses.begun.items

-- No rule refuses and this holds, or the answer is that of the first rule that refuses.
abbrev pub Goes : {A : Type 0} → Result A ReadRefusal → Option Outcome → Type 0 → Type 0
Goes (Ok x) found P = (found ≡ None) × P
Goes (Err e) found P = Is e found

-- A word is taken where no rule refuses it, and refused by the first rule that does.
abbrev pub Steps : {A : Type 0} → Result A ReadRefusal → Reader → Reader → Word → ℕ → Type 0
Steps result old new w line = (front : Front) → Represents old front
    → Goes result (first_of (word_rules front w line)) (Represents new (extended front w line))

-- The header's numbers are within the limits, and what follows it begins.
abbrev pub Passes : {A : Type 0} → Result A ReadRefusal → Reader → Reader → Type 0
Passes result old new = (front : Front) → Represents old front
    → Goes result (first_of (header_limits (header_of old))) (Represents new (between (header_of old) [] []))

-- A number of a clause is taken or refused.
abbrev pub TakesNumber : {A : Type 0} → Result A ReadRefusal → Reader → Reader → ℤ → ℕ → Type 0
TakesNumber result old new n line = (sets : List QuantSet) (clauses : List (List ℤ)) (ls : List ℤ)
    → Keeps old.vars old.count old.sets old.clauses sets clauses ls → length clauses < old.count
    → Goes result (first_of (unless_zero n (literal_rules (header_of old) clauses ls n line)))
    (Represents new (clause_after (is_zero n) (header_of old) sets clauses ls n))

-- A number of a set that isn't 0 is taken or refused.
abbrev pub TakesVariable : {A : Type 0} → Result A ReadRefusal → Reader → Reader → Quant → ℤ → ℕ → Type 0
TakesVariable result old new q n line = (sets : List QuantSet) (vs : List ℕ)
    → Keeps old.vars old.count old.sets old.clauses (sets ++ (q, vs) ∷ []) [] []
    → Goes result (first_of (variable_rules (header_of old) sets q vs n line))
    (Represents new (in_set (header_of old) sets q (vs ++ nat_abs n ∷ [])))

-- The end gives the formula, or the first rule that refuses.
abbrev pub Closing : Result Formula ReadRefusal → Reader → ℕ → Type 0
Closing result old line = (front : Front) → Represents old front → Closes result (first_of (end_rules front line))
