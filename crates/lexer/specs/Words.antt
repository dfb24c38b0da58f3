-- The words of a whole text, each with the number of its line, and how the text ends. Words, numbers and comment
-- lines that begin with c are those of QDIMACS 1.1, input format; comments behind # and the marks that are words by
-- themselves those of QCIR-14; the rest is this project's own.
use Rattle.std.specs.Prelude.{ℕ, ◌+◌, ◌-◌, ◌^◌, ℤ, pos, neg_ℤ, Bool, true, false, not, ◌&&◌, ◌||◌, ◌==◌, nat_lt, nat_le, if◌then◌else◌, List, [], ◌∷◌, ◌++◌, length, map, filter, take, drop, count_by, Option, Some, None, unwrap_or}
use Rattle.std.specs.List.{list_all}
use Rattle.std.specs.Str.Parse.{digits_value}
use Rattle.lexer.specs.declared.token.Comments.{Comments}
use Rattle.lexer.specs.declared.token.Comments.TheVariants.{Dimacs, Script, Hash}
use Rattle.lexer.specs.declared.token.Word.{Word}
use Rattle.lexer.specs.declared.token.Word.TheVariants.{Num, Text, Other}
use Rattle.lexer.specs.declared.token.Token.{Token}

-- What stands at a place of a text: a word, something that is refused with its line, or the end with its line.
pub data Item : Type 0 where
  word : Token → Item
  bad_byte : ℕ → Item
  number_range : ℕ → Item
  too_long : ℕ → Item
  the_end : ℕ → Item

-- White space is a tab, a line end, a vertical tab, a form feed, a carriage return or a blank.
abbrev pub is_blank : ℕ → Bool
is_blank b = (nat_le 9 b && nat_le b 13) || (b == 32)

-- Byte 10 ends a line (QDIMACS 1.1, input format: EOL).
abbrev pub is_line_end : ℕ → Bool
is_line_end b = b == 10

-- These bytes, the printable ones of ASCII but the blank, may stand in a word outside comments.
abbrev pub is_plain : ℕ → Bool
is_plain b = nat_le 33 b && nat_le b 126

-- What is seen at a place of a text: a byte, or, at the limit, that a word goes on beyond it.
pub data Seen : Type 0 where
  byte : ℕ → Seen
  beyond : Seen

-- Words are parted by white space.
abbrev pub parts_words : Seen → Bool
parts_words (byte b) = is_blank b
parts_words beyond = false

-- Lines are parted by line ends.
abbrev pub parts_lines : Seen → Bool
parts_lines (byte b) = is_line_end b
parts_lines beyond = false

-- One more place in front of pieces: where it parts them a new piece begins, else it joins the first.
abbrev pub with_front : Bool → Seen → List (List Seen) → List (List Seen)
with_front true b rest = [] ∷ rest
with_front false b [] = (b ∷ []) ∷ []
with_front false b (piece ∷ rest) = (b ∷ piece) ∷ rest

-- The pieces of a text between the places that part it.
abbrev pub pieces : (Seen → Bool) → List Seen → List (List Seen)
pieces parts [] = [] ∷ []
pieces parts (b ∷ bs) = with_front (parts b) b (pieces parts bs)

-- The lines of a text, without their ends.
abbrev pub lines_of : List Seen → List (List Seen)
lines_of text = pieces parts_lines text

-- A piece with a byte in it is a word.
abbrev pub is_some_word : List Seen → Bool
is_some_word [] = false
is_some_word (b ∷ bs) = true

-- The words of a line are its longest runs of other bytes than white space.
abbrev pub words_of : List Seen → List (List Seen)
words_of line = filter is_some_word (pieces parts_words line)

-- Brackets, the comma and the equals sign (QCIR-14, qcir-file).
abbrev pub is_mark : ℕ → Bool
is_mark b = (b == 40) || (b == 41) || (b == 44) || (b == 61)

-- A place in front of a line: behind # all is comment, and a mark stands between blanks.
abbrev pub spaced_place : Seen → List Seen → List Seen
spaced_place (byte b) rest =
    if b == 35 then [] else if is_mark b then byte 32 ∷ byte b ∷ byte 32 ∷ rest else byte b ∷ rest
spaced_place beyond rest = beyond ∷ rest

-- A line up to its first #, with each mark between blanks.
abbrev pub spaced : List Seen → List Seen
spaced [] = []
spaced (s ∷ line) = spaced_place s (spaced line)

-- A line as its words are read off it. With comments behind # a mark is a word by itself.
abbrev pub laid_out : Comments → List Seen → List Seen
laid_out Hash line = spaced line
laid_out Dimacs line = line
laid_out Script line = line

-- A byte that is a word by itself.
abbrev pub is_lone : Comments → ℕ → Bool
is_lone Hash b = is_mark b
is_lone Dimacs b = false
is_lone Script b = false

-- A byte behind which the rest of its line is comment, wherever it stands.
abbrev pub opens_comment : Comments → ℕ → Bool
opens_comment Hash b = b == 35
opens_comment Dimacs b = false
opens_comment Script b = false

-- Bytes that end a word in front of them.
abbrev pub ends_word : Comments → ℕ → Bool
ends_word Hash b = is_blank b || (is_mark b || (b == 35))
ends_word Dimacs b = is_blank b
ends_word Script b = is_blank b

-- A line is a comment where its first word begins with c (QDIMACS 1.1, input format: comment lines), in a script where
-- its first word is c alone; with comments behind # no word tells it.
abbrev pub begins_comment : Comments → List Seen → Bool
begins_comment Dimacs (byte b ∷ bs) = b == 99
begins_comment Script (byte b ∷ bs) = (b == 99) && not (is_some_word bs)
begins_comment Hash (byte b ∷ bs) = false
begins_comment comments (beyond ∷ bs) = false
begins_comment comments [] = false

-- The words of a line that stand in no comment; fresh says that the line's first word is among them.
abbrev pub outside_comment : Comments → Bool → List (List Seen) → List (List Seen)
outside_comment comments fresh [] = []
outside_comment comments fresh (w ∷ ws) = if fresh && begins_comment comments w then [] else w ∷ ws

-- The digits are the bytes from 0 to 9.
abbrev pub is_digit : ℕ → Bool
is_digit b = nat_le 48 b && nat_le b 57

-- One or more digits.
abbrev pub are_digits : List ℕ → Bool
are_digits bs = nat_lt 0 (length bs) && list_all is_digit bs

-- Decimal digits are a number (QDIMACS 1.1, input format), and so are a minus and digits whose value isn't 0: whether
-- it is positive, and its magnitude.
abbrev pub number_of : List ℕ → Option (Bool × ℕ)
number_of [] = None
number_of (b ∷ bs) =
    if are_digits (b ∷ bs) then Some (true, digits_value 10 (b ∷ bs))
    else if (b == 45) && are_digits bs && nat_lt 0 (digits_value 10 bs) then Some (false, digits_value 10 bs)
    else None

-- The integer of this sign and magnitude.
abbrev pub signed : Bool → ℕ → ℤ
signed true n = pos n
signed false n = neg_ℤ (pos n)

-- A text word of more than 16 bytes is told apart from no other such word.
abbrev pub text_of : List ℕ → Word
text_of w = if nat_le (length w) 16 then Text w else Other

-- A word is its number, which is refused above 2^63 - 1 in magnitude, or else a text.
abbrev pub classified : ℕ → List ℕ → Option (Bool × ℕ) → Item
classified line w None = word (record { word = text_of w; line = line })
classified line w (Some n) =
    if nat_le n.1 (2 ^ 63 - 1) then word (record { word = Num (signed n.0 n.1); line = line })
    else number_range line

-- The bytes that are seen of a word.
abbrev pub bytes_of : List Seen → List ℕ
bytes_of [] = []
bytes_of (byte b ∷ bs) = b ∷ bytes_of bs
bytes_of (beyond ∷ bs) = bytes_of bs

-- The first place of a word that is refused: a byte that may not stand there, or one beyond the limit.
abbrev pub fault_of : ℕ → List Seen → Option Item
fault_of line [] = None
fault_of line (byte b ∷ bs) = if is_plain b then fault_of line bs else Some (bad_byte line)
fault_of line (beyond ∷ bs) = Some (too_long line)

-- What a word is: refused at its first such place, or else a number or a text.
abbrev pub item_of : ℕ → List Seen → Item
item_of line w = unwrap_or (fault_of line w) (classified line (bytes_of w) (number_of (bytes_of w)))

-- The items of the words of these lines outside comments, where the first line has the number n.
abbrev pub items_of_lines : Comments → Bool → ℕ → List (List Seen) → List Item
items_of_lines comments fresh n [] = []
items_of_lines comments fresh n (line ∷ lines) =
    map (item_of n) (outside_comment comments fresh (words_of (laid_out comments line)))
    ++ items_of_lines comments true (n + 1) lines

-- Of the first byte beyond the limit only this is seen, whether it ends a word.
abbrev pub as_seen : Comments → ℕ → Seen
as_seen comments b = if ends_word comments b then byte 32 else beyond

-- What is seen of a text of which only the first room bytes may be read.
abbrev pub seen : Comments → ℕ → List ℕ → List Seen
seen comments room text = map byte (take room text) ++ map (as_seen comments) (take 1 (drop room text))

-- The number of the line in which a text ends, where its first one has the number n.
abbrev pub last_line : ℕ → List ℕ → ℕ
last_line n text = n + count_by is_line_end text

-- A text ends in its last line, or is too long, in the line of the first byte beyond the limit.
abbrev pub ending : ℕ → ℕ → List ℕ → Item
ending n room text =
    if nat_le (length text) room then the_end (last_line n text)
    else too_long (last_line n (take room text))

-- The items of the rest of a text in order, where its first line has the number n, fresh says that this line has had no
-- word before, and room is how many bytes may be read.
abbrev pub items_from : Comments → Bool → ℕ → ℕ → List ℕ → List Item
items_from comments fresh n room text =
    items_of_lines comments fresh n (lines_of (seen comments room text)) ++ ending n room text ∷ []

-- Only the first 2^30 bytes of a text are read.
abbrev pub max_bytes : ℕ
max_bytes = 2 ^ 30

-- The items of a whole text: its words outside comments, what is refused, and how it ends.
abbrev pub items : Comments → List ℕ → List Item
items comments text = items_from comments true 1 max_bytes text
