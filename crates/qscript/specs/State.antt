-- Where a reader of scripts stands, and what it answers.
use Rattle.std.specs.Prelude.{◌≡◌, ℕ, Bool, List, ◌∷◌, Option, Some, None, Result, Ok, Err, option_map, IfSome}
use Rattle.lexer.specs.declared.token.LexRefusal.{LexRefusal}
use Rattle.lexer.specs.declared.token.LexRefusal.TheVariants.{ReadFault as Unreadable, TooLong, BadByte, NumberRange}
use Rattle.lexer.specs.State.{State as LexerState, upcoming as upcoming_words}
use Rattle.lexer.specs.Words.{Item}
use Rattle.reading.specs.declared.refusal.Quantity.TheVariants.{Bytes}
use Rattle.reading.specs.declared.refusal.ReadRefusal.{ReadRefusal}
use Rattle.reading.specs.declared.refusal.ReadRefusal.TheVariants.{Refused, Limit, ReadFault, NoMemory}
use Rattle.versions.specs.declared.version.Version.{Version}
use Rattle.qscript.specs.declared.command.Command.{Command}
use Rattle.qscript.specs.declared.draft.Line.{Line}
use Rattle.qscript.specs.Reads.{done, refused, limit}
use Rattle.qscript.specs.Run.{Script, Reading, stopped, ends, Front, between, reading_from, with_line}

-- The lexer, the version that the header named, where it has been read, and whether a call was refused.
pub record State : Type 0 where
  pub lexer : LexerState
  pub version : Option Version
  pub failed : Bool

-- the reading of the items, where these are known
abbrev pub reading_at : Front → Option (List Item) → Option Reading
reading_at front items = option_map (λ is. reading_from is front) items

-- The reading to come, where the desk tells what it has left.
abbrev pub reading_ahead : Front → LexerState → Option (List ℕ) → Option Reading
reading_ahead front lexer left = reading_at front (upcoming_words lexer left)

-- the commands and the ending of a reading
abbrev pub script_in : Option Reading → Option Script
script_in reading = option_map (λ r. r.script) reading

-- The version that the header to come names, the commands to come and the ending, where the desk tells what it has
-- left.
abbrev pub reading : State → Option (List ℕ) → Option Reading
reading s left = reading_ahead (between s.version) s.lexer left

-- The commands to come and the ending, where the desk tells what it has left.
abbrev pub upcoming : State → Option (List ℕ) → Option Script
upcoming s left = script_in (reading s left)

-- what is answered for a refusal of the lexer
abbrev pub refusal_for : LexRefusal → ReadRefusal
refusal_for Unreadable = ReadFault
refusal_for (TooLong line) = Limit Bytes line
refusal_for (BadByte line) = Refused 7 line
refusal_for (NumberRange line) = Refused 8 line

-- The refusal is the ending of the script, in front of any command. A fault of the desk and want of memory say nothing
-- of it.
abbrev pub IsRefusal : ReadRefusal → Option Script → Type 0
IsRefusal (Refused number line) script = IfSome script (λ s. s ≡ stopped (refused number line))
IsRefusal (Limit quantity line) script = (quantity ≡ Bytes) × IfSome script (λ s. s ≡ stopped (limit line))
IsRefusal ReadFault script = Unit {0}
IsRefusal NoMemory script = Unit {0}

-- The same of the whole reading, in front of any line: no version is named.
abbrev pub EndsReading : ReadRefusal → Option Reading → Type 0
EndsReading (Refused number line) reading = IfSome reading (λ r. r ≡ ends (refused number line))
EndsReading (Limit quantity line) reading = (quantity ≡ Bytes) × IfSome reading (λ r. r ≡ ends (limit line))
EndsReading ReadFault reading = Unit {0}
EndsReading NoMemory reading = Unit {0}

-- The line is the first of the reading, and the reading to come is the rest.
abbrev pub Leaves : Line → Option Reading → Option Reading → Type 0
Leaves line before after = IfSome before (λ r. (rest : Reading) × (r ≡ with_line line rest) × (after ≡ Some rest))

-- No line is to come, the script ends well, and it stays so.
abbrev pub IsOver : Option Reading → Option Reading → Type 0
IsOver before after = IfSome before (λ r. (r ≡ ends done) × (after ≡ Some r))

-- The answer to the header is the version that it names, and the script to come is what stands behind it; or the script
-- ends there, and no version is named.
abbrev pub Heads : Result Version ReadRefusal → Option Reading → (Version → Option Script) → Type 0
Heads (Ok version) before after = IfSome before (λ r. (r.version ≡ Some version) × (after version ≡ Some r.script))
Heads (Err e) before after = EndsReading e before

-- The command is the first of the script, and the script to come is the rest.
abbrev pub IsFirst : Command → Option Script → Option Script → Type 0
IsFirst c before after = IfSome before (λ s. (rest : Script) × (s ≡ (c ∷ rest.0, rest.1)) × (after ≡ Some rest))

-- No command is to come, the script ends well, and it stays so.
abbrev pub IsDone : Option Script → Option Script → Type 0
IsDone before after = IfSome before (λ s. (s ≡ stopped done) × (after ≡ Some s))

-- The answer is what the script has next.
abbrev pub Answers : Result (Option Command) ReadRefusal → Option Script → Option Script → Type 0
Answers (Ok (Some c)) before after = IsFirst c before after
Answers (Ok None) before after = IsDone before after
Answers (Err e) before after = IsRefusal e before
