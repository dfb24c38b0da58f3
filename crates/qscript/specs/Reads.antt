-- What a text is as a script: the version that its header names, the commands of its lines before the first malformed
-- one, and how it ends.
use Rattle.std.specs.Prelude.{◌≡◌, ℕ, Bool, true, false, ◌==◌, List, [], ◌∷◌, ◌++◌, map, Option, None, Some}
use Rattle.lexer.specs.declared.token.Word.{Word}
use Rattle.lexer.specs.declared.token.Comments.TheVariants.{Script}
use Rattle.lexer.specs.Words.{Item, word, bad_byte, number_range, too_long, the_end, items}
use Rattle.versions.specs.declared.version.Version.{Version}
use Rattle.qscript.specs.declared.command.Command.{Command}
use Rattle.qscript.specs.declared.draft.Line.{Line}
use Rattle.qscript.specs.declared.draft.Line.TheVariants.{Header, Command as Orders}
use Rattle.qscript.specs.Lines.{spelling, IsExpected}

-- how a script ends: well, refused with a number on a line, or beyond the limit on bytes on a line
pub data Ending : Type 0 where
  done : Ending
  refused : ℕ → ℕ → Ending
  limit : ℕ → Ending

-- these words, all on the line with this number
abbrev pub on_line : ℕ → List Word → List Item
on_line n ws = map (λ w. word (record { word = w; line = n })) ws

-- An item stands on a line. The end stands on none.
abbrev pub is_on : ℕ → Item → Bool
is_on n (word t) = t.line == n
is_on n (bad_byte line) = line == n
is_on n (number_range line) = line == n
is_on n (too_long line) = line == n
is_on n (the_end line) = false

-- The first of the items stands on another line, or is the end.
abbrev pub IsOff : ℕ → List Item → Type 0
IsOff n [] = ⊥
IsOff n (item ∷ rest) = is_on n item ≡ false

-- The items begin with this line, all of it and nothing else on it, and the rest stands behind it.
pub record BeginsWith (named : Option Version) (all : List Item) (line : Line) (rest : List Item) : Type 0 where
  pub number : ℕ
  pub expected : IsExpected named line
  pub whole : all ≡ on_line number (spelling line) ++ rest
  pub alone : IsOff number rest

-- These words are the front of a line, none and all among them.
pub record IsFront (named : Option Version) (ws : List Word) : Type 0 where
  pub line : Line
  pub more : List Word
  pub expected : IsExpected named line
  pub spelled : spelling line ≡ ws ++ more

-- These words are a line.
abbrev pub IsWhole : Option Version → List Word → Type 0
IsWhole named ws = (line : Line) × IsExpected named line × (spelling line ≡ ws)

-- The number by which a line is refused, behind these of its words: 30 is no header, 31 a word that begins no command
-- of the version, 32 a command whose other words haven't its form.
abbrev pub misfit : Option Version → List Word → ℕ
misfit None ws = 30
misfit (Some version) [] = 31
misfit (Some version) (w ∷ ws) = 32

-- how the end of the text is taken where no line has begun
abbrev pub at_end : Option Version → ℕ → Ending
at_end (Some version) line = done
at_end None line = refused 30 line

-- What an item on the line, behind these of its words, decides.
abbrev pub DecidesOn : Option Version → ℕ → List Word → Item → Ending → Type 0
DecidesOn named n ws (word t) e = (IsFront named (ws ++ t.word ∷ []) → ⊥) × (e ≡ refused (misfit named ws) n)
DecidesOn named n ws (bad_byte line) e = e ≡ refused 7 n
DecidesOn named n ws (number_range line) e = e ≡ refused 8 n
DecidesOn named n ws (too_long line) e = e ≡ limit n
DecidesOn named n ws (the_end line) e = ⊥

-- What an item decides that stands on another line, or is the end.
abbrev pub DecidesOff : Option Version → ℕ → List Word → Item → Ending → Type 0
DecidesOff named n (w ∷ ws) item e = (IsWhole named (w ∷ ws) → ⊥) × (e ≡ refused (misfit named (w ∷ ws)) n)
DecidesOff named n [] (the_end line) e = e ≡ at_end named line
DecidesOff named n [] (word t) e = ⊥
DecidesOff named n [] (bad_byte line) e = ⊥
DecidesOff named n [] (number_range line) e = ⊥
DecidesOff named n [] (too_long line) e = ⊥

abbrev pub Decides : Bool → Option Version → ℕ → List Word → Item → Ending → Type 0
Decides true named n ws item e = DecidesOn named n ws item e
Decides false named n ws item e = DecidesOff named n ws item e

-- The items begin with the front of a line, which may have no word, and the item behind it decides the ending.
pub record StopsAt (named : Option Version) (all : List Item) (ending : Ending) : Type 0 where
  pub number : ℕ
  pub read : List Word
  pub next : Item
  pub rest : List Item
  pub whole : all ≡ on_line number read ++ next ∷ rest
  pub front : IsFront named read
  pub decides : Decides (is_on number next) named number read next ending

-- Behind a header of this version: the lines of these commands in order, and then what ends the script.
abbrev pub ReadsCommands : Version → List Item → List Command → Ending → Type 0
ReadsCommands version all [] ending = StopsAt (Some version) all ending
ReadsCommands version all (c ∷ cs) ending = (rest : List Item) × BeginsWith (Some version) all (Orders c) rest
    × ReadsCommands version rest cs ending

-- The whole script: a header that is refused, so that no version is named and no command comes, or the line of a header
-- that names the version, and what stands behind it.
abbrev pub ReadsItems : List Item → Option Version → List Command → Ending → Type 0
ReadsItems all None cs ending = (cs ≡ []) × StopsAt None all ending
ReadsItems all (Some version) cs ending = (rest : List Item) × BeginsWith None all (Header version) rest
    × ReadsCommands version rest cs ending

-- what a text of these bytes is as a script
abbrev pub ReadsScript : List ℕ → Option Version → List Command → Ending → Type 0
ReadsScript text version cs ending = ReadsItems (items Script text) version cs ending
