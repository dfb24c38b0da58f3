-- The lines of a script, and the words that each is written by.
use Rattle.std.specs.Prelude.{◌≡◌, ◌≢◌, ℕ, ℤ, pos, Bool, true, false, not, ◌||◌, List, [], ◌∷◌, ◌++◌, map, codes, Option, None, Some}
use Rattle.std.specs.List.{AllByRecursion}
use Rattle.lexer.specs.declared.token.Word.{Word}
use Rattle.lexer.specs.declared.token.Word.TheVariants.{Num, Text}
use Rattle.reading.specs.Words.{quant_word}
use Rattle.versions.specs.declared.version.Version.{Version}
use Rattle.versions.specs.declared.version.Version.TheVariants.{One, Two, Three}
use Rattle.qscript.specs.declared.command.Command.{Command}
use Rattle.qscript.specs.declared.command.Command.TheVariants.{Scope, Var, Clause, Push, Pop, Assume, Solve, Value, Relevant, Trace, Cert, OpenGroup, CloseGroup, Activate, Deactivate, GroupCore}
use Rattle.qscript.specs.declared.draft.Line.{Line}
use Rattle.qscript.specs.declared.draft.Line.TheVariants.{Header, Command as Orders}

abbrev pub number : ℕ → Word
number n = Num (pos n)

-- a scope's number, where it is given
abbrev pub place_words : Option ℕ → List Word
place_words None = []
place_words (Some at) = number at ∷ []

-- a clause is its literals and one 0
abbrev pub clause_words : List ℤ → List Word
clause_words ls = map Num ls ++ number 0 ∷ []

-- what a command is written by
abbrev pub command_words : Command → List Word
command_words (Scope quant at) = Text (codes "scope") ∷ quant_word quant ∷ place_words at
command_words (Var var scope) = Text (codes "var") ∷ number var ∷ number scope ∷ []
command_words (Clause ls) = Text (codes "clause") ∷ clause_words ls
command_words Push = Text (codes "push") ∷ []
command_words Pop = Text (codes "pop") ∷ []
command_words (Assume l) = Text (codes "assume") ∷ Num l ∷ []
command_words Solve = Text (codes "solve") ∷ []
command_words (Value var) = Text (codes "value") ∷ number var ∷ []
command_words Relevant = Text (codes "relevant") ∷ []
command_words Trace = Text (codes "trace") ∷ []
command_words Cert = Text (codes "cert") ∷ []
command_words (OpenGroup group) = Text (codes "open") ∷ number group ∷ []
command_words CloseGroup = Text (codes "close") ∷ []
command_words (Activate group) = Text (codes "activate") ∷ number group ∷ []
command_words (Deactivate group) = Text (codes "deactivate") ∷ number group ∷ []
command_words GroupCore = Text (codes "core") ∷ []

-- the number by which a header names a version
abbrev pub version_number : Version → ℕ
version_number One = 1
version_number Two = 2
version_number Three = 3

-- whether clause groups belong to a version
abbrev pub has_groups : Version → Bool
has_groups One = false
has_groups Two = false
has_groups Three = true

-- whether a command is one of clause groups
abbrev pub is_of_groups : Command → Bool
is_of_groups (Scope quant at) = false
is_of_groups (Var var scope) = false
is_of_groups (Clause ls) = false
is_of_groups Push = false
is_of_groups Pop = false
is_of_groups (Assume l) = false
is_of_groups Solve = false
is_of_groups (Value var) = false
is_of_groups Relevant = false
is_of_groups Trace = false
is_of_groups Cert = false
is_of_groups (OpenGroup group) = true
is_of_groups CloseGroup = true
is_of_groups (Activate group) = true
is_of_groups (Deactivate group) = true
is_of_groups GroupCore = true

-- whether a command belongs to a version
abbrev pub is_in : Version → Command → Bool
is_in version c = not (is_of_groups c) || has_groups version

-- what a line is written by
abbrev pub spelling : Line → List Word
spelling (Header version) = Text (codes "p") ∷ Text (codes "qscript") ∷ number (version_number version) ∷ []
spelling (Orders c) = command_words c

-- the literals of a command
abbrev pub literals_in : Command → List ℤ
literals_in (Scope quant at) = []
literals_in (Var var scope) = []
literals_in (Clause ls) = ls
literals_in Push = []
literals_in Pop = []
literals_in (Assume l) = l ∷ []
literals_in Solve = []
literals_in (Value var) = []
literals_in Relevant = []
literals_in Trace = []
literals_in Cert = []
literals_in (OpenGroup group) = []
literals_in CloseGroup = []
literals_in (Activate group) = []
literals_in (Deactivate group) = []
literals_in GroupCore = []

-- A literal is a number that isn't 0.
abbrev pub AreLiterals : List ℤ → Type 0
AreLiterals ls = AllByRecursion (λ l. l ≢ pos 0) ls

-- Where no header has been read the line is the header; behind one that named a version each line is a command that
-- belongs to it.
abbrev pub IsExpected : Option Version → Line → Type 0
IsExpected None (Header version) = Unit {0}
IsExpected None (Orders c) = ⊥
IsExpected (Some version) (Header other) = ⊥
IsExpected (Some version) (Orders c) = (is_in version c ≡ true) × AreLiterals (literals_in c)

abbrev pub is_header_line : Line → Bool
is_header_line (Header version) = true
is_header_line (Orders c) = false
