-- What a script is, computed word by word.
use Rattle.std.specs.Prelude.{ℕ, ℤ, pos, negsuc, Bool, true, false, ◌==◌, if◌then◌else◌, List, [], ◌∷◌, ◌++◌, codes, Option, None, Some, option_map}
use Rattle.std.specs.Str.{bytes_eq}
use Rattle.lexer.specs.declared.token.Word.{Word}
use Rattle.lexer.specs.declared.token.Word.TheVariants.{Num, Text, Other}
use Rattle.lexer.specs.declared.token.Comments.TheVariants.{Script as ScriptComments}
use Rattle.lexer.specs.Words.{Item, word, bad_byte, number_range, too_long, the_end, items}
use Rattle.reading.specs.Words.{is_text, is_natural, quant_of, is_zero, natural_of}
use Rattle.versions.specs.declared.version.Version.{Version}
use Rattle.versions.specs.declared.version.Version.TheVariants.{One, Two, Three}
use Rattle.qscript.specs.declared.command.Command.{Command}
use Rattle.qscript.specs.declared.command.Command.TheVariants.{Scope as ScopeCommand, Var as VarCommand, Clause as ClauseCommand, Push, Pop, Assume as AssumeCommand, Solve, Value as ValueCommand, Relevant, Trace, Cert, OpenGroup, CloseGroup, Activate as ActivateCommand, Deactivate as DeactivateCommand, GroupCore}
use Rattle.qscript.specs.declared.draft.Line.{Line}
use Rattle.qscript.specs.declared.draft.Line.TheVariants.{Header, Command as Orders}
use Rattle.qscript.specs.declared.draft.Draft.{Draft}
use Rattle.qscript.specs.declared.draft.Draft.TheVariants.{Problem, Format, Scope, ScopeOf, Var, VarOf, Clause, Assume, Value, Open, Activate, Deactivate, Whole}
use Rattle.qscript.specs.Lines.{has_groups, is_header_line}
use Rattle.qscript.specs.Reads.{Ending, done, refused, limit, is_on, at_end}

-- the commands to come, and the ending
abbrev pub Script : Type 0
Script = List Command × Ending

-- the version that the header to come names, where one comes and isn't refused, and what is to come behind it
pub record Reading : Type 0 where
  pub version : Option Version
  pub script : Script

-- the first of the entries that has this text
abbrev pub entry : {A : Type 0} → List (List ℕ × A) → List ℕ → Option A
entry [] t = None
entry (e ∷ es) t = if bytes_eq t e.0 then Some e.1 else entry es t

-- commands of one word
abbrev pub singles : List (List ℕ × Command)
singles = (codes "push", Push) ∷ (codes "pop", Pop) ∷ (codes "solve", Solve) ∷ (codes "relevant", Relevant)
    ∷ (codes "trace", Trace) ∷ (codes "cert", Cert) ∷ []

-- commands of more words
abbrev pub openings : List (List ℕ × Draft)
openings = (codes "scope", Scope) ∷ (codes "var", Var) ∷ (codes "clause", Clause []) ∷ (codes "assume", Assume)
    ∷ (codes "value", Value) ∷ []

abbrev pub or_else : {A : Type 0} → Option A → Option A → Option A
or_else (Some x) other = Some x
or_else None other = other

-- commands of clause groups, of one word and of more
abbrev pub group_singles : List (List ℕ × Command)
group_singles = (codes "close", CloseGroup) ∷ (codes "core", GroupCore) ∷ []

abbrev pub group_openings : List (List ℕ × Draft)
group_openings = (codes "open", Open) ∷ (codes "activate", Activate) ∷ (codes "deactivate", Deactivate) ∷ []

-- the line that begins with a text among these
abbrev pub among : List (List ℕ × Draft) → List (List ℕ × Command) → List ℕ → Option Draft
among more one t = or_else (entry more t) (option_map (λ c. Whole (Orders c)) (entry one t))

-- the line of a version that begins with this text
abbrev pub keyword : Version → List ℕ → Option Draft
keyword version t =
    or_else (among openings singles t) (if has_groups version then among group_openings group_singles t else None)

-- the line that begins with this word
abbrev pub begun : Option Version → Word → Option Draft
begun None w = if is_text (codes "p") w then Some Problem else None
begun (Some version) (Text t) = keyword version t
begun (Some version) (Num n) = None
begun (Some version) Other = None

abbrev pub natural : Word → Option ℕ
natural w = if is_natural w then Some (natural_of w) else None

-- the version that a word names
abbrev pub version_of : Word → Option Version
version_of (Num (pos n)) = if n == 1 then Some One else if n == 2 then Some Two else if n == 3 then Some Three else None
version_of (Num (negsuc n)) = None
version_of (Text t) = None
version_of Other = None

-- a clause with one more number
abbrev pub clause_after : List ℤ → Word → Option Draft
clause_after ls (Num n) = Some (if is_zero n then Whole (Orders (ClauseCommand ls)) else Clause (ls ++ n ∷ []))
clause_after ls (Text t) = None
clause_after ls Other = None

abbrev pub assume_after : Word → Option Draft
assume_after (Num n) = if is_zero n then None else Some (Whole (Orders (AssumeCommand n)))
assume_after (Text t) = None
assume_after Other = None

-- the line with one more word
abbrev pub after : Draft → Word → Option Draft
after Problem w = if is_text (codes "qscript") w then Some Format else None
after Format w = option_map (λ v. Whole (Header v)) (version_of w)
after Scope w = option_map ScopeOf (quant_of w)
after (ScopeOf q) w = option_map (λ n. Whole (Orders (ScopeCommand q (Some n)))) (natural w)
after Var w = option_map VarOf (natural w)
after (VarOf v) w = option_map (λ s. Whole (Orders (VarCommand v s))) (natural w)
after (Clause ls) w = clause_after ls w
after Assume w = assume_after w
after Value w = option_map (λ v. Whole (Orders (ValueCommand v))) (natural w)
after Open w = option_map (λ g. Whole (Orders (OpenGroup g))) (natural w)
after Activate w = option_map (λ g. Whole (Orders (ActivateCommand g))) (natural w)
after Deactivate w = option_map (λ g. Whole (Orders (DeactivateCommand g))) (natural w)
after (Whole l) w = None

-- the whole line that has been read
abbrev pub whole : Draft → Option Line
whole Problem = None
whole Format = None
whole Scope = None
whole (ScopeOf q) = Some (Orders (ScopeCommand q None))
whole Var = None
whole (VarOf v) = None
whole (Clause ls) = None
whole Assume = None
whole Value = None
whole Open = None
whole Activate = None
whole Deactivate = None
whole (Whole l) = Some l

abbrev pub is_header : Draft → Bool
is_header Problem = true
is_header Format = true
is_header Scope = false
is_header (ScopeOf q) = false
is_header Var = false
is_header (VarOf v) = false
is_header (Clause ls) = false
is_header Assume = false
is_header Value = false
is_header Open = false
is_header Activate = false
is_header Deactivate = false
is_header (Whole l) = is_header_line l

-- the number by which a line is refused behind its first word
abbrev pub misfit_of : Draft → ℕ
misfit_of d = if is_header d then 30 else 32

-- Where the reading stands, behind a header that named a version or where none has been read: where a line may begin,
-- or in the line of this number.
pub data Front : Type 0 where
  between : Option Version → Front
  within : Option Version → ℕ → Draft → Front

-- the version behind one more line
abbrev pub named_behind : Option Version → Line → Option Version
named_behind named (Header version) = Some version
named_behind named (Orders c) = named

-- A line in front of a reading. No header comes behind a command.
abbrev pub with_line : Line → Reading → Reading
with_line (Header v) r = record { version = Some v; script = r.script }
with_line (Orders c) r = record { version = None; script = (c ∷ r.script.0, r.script.1) }

abbrev pub stopped : Ending → Script
stopped e = ([], e)

-- no line is to come, but the ending
abbrev pub ends : Ending → Reading
ends e = record { version = None; script = stopped e }

-- the number of a first word that begins no line
abbrev pub misfit_first : Option Version → ℕ
misfit_first None = 30
misfit_first (Some version) = 31

abbrev pub line_begun : Option Version → ℕ → Option Draft → (Front → Reading) → Reading
line_begun named n (Some d) rest = rest (within named n d)
line_begun named n None rest = ends (refused (misfit_first named) n)

-- an item where a line may begin
abbrev pub begin : Option Version → Item → (Front → Reading) → Reading
begin named (word t) rest = line_begun named t.line (begun named t.word) rest
begin named (bad_byte line) rest = ends (refused 7 line)
begin named (number_range line) rest = ends (refused 8 line)
begin named (too_long line) rest = ends (limit line)
begin named (the_end line) rest = ends (at_end named line)

-- a line that has ended, in front of the item behind it
abbrev pub closed : Option Version → ℕ → Draft → Option Line → Item → (Front → Reading) → Reading
closed named n d (Some l) item rest = with_line l (begin (named_behind named l) item rest)
closed named n d None item rest = ends (refused (misfit_of d) n)

abbrev pub line_after : Option Version → ℕ → Draft → Option Draft → (Front → Reading) → Reading
line_after named n d (Some more) rest = rest (within named n more)
line_after named n d None rest = ends (refused (misfit_of d) n)

-- an item on the line
abbrev pub go_on : Option Version → ℕ → Draft → Item → (Front → Reading) → Reading
go_on named n d (word t) rest = line_after named n d (after d t.word) rest
go_on named n d (bad_byte line) rest = ends (refused 7 line)
go_on named n d (number_range line) rest = ends (refused 8 line)
go_on named n d (too_long line) rest = ends (limit line)
go_on named n d (the_end line) rest = ends done

abbrev pub go_on_if : Bool → Option Version → ℕ → Draft → Item → (Front → Reading) → Reading
go_on_if true named n d item rest = go_on named n d item rest
go_on_if false named n d item rest = closed named n d (whole d) item rest

abbrev pub step : Front → Item → (Front → Reading) → Reading
step (between named) item rest = begin named item rest
step (within named n d) item rest = go_on_if (is_on n item) named n d item rest

-- the reading of these items
abbrev pub reading_from : List Item → Front → Reading
reading_from [] front = ends done
reading_from (item ∷ items) front = step front item (reading_from items)

-- what a text of these bytes is as a script
abbrev pub reading_of : List ℕ → Reading
reading_of text = reading_from (items ScriptComments text) (between None)
