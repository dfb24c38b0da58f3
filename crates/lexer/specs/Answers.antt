-- What a lexer answers.
use Rattle.std.specs.Prelude.{◌≡◌, ◌<◌, ℕ, List, [], ◌∷◌, Option, Some, None, Result, Ok, Err}
use Rattle.lexer.specs.declared.token.Token.{Token}
use Rattle.lexer.specs.declared.token.LexRefusal.{LexRefusal}
use Rattle.lexer.specs.declared.token.LexRefusal.TheVariants.{ReadFault, TooLong, BadByte, NumberRange}
use Rattle.lexer.specs.State.{Stays}
use Rattle.lexer.specs.Words.{Item, word, bad_byte, number_range, too_long, the_end}

-- The item is the first of those to come, where these are known.
abbrev pub Begins : Option (List Item) → Item → Type 0
Begins None item = Unit {0}
Begins (Some items) item = (rest : List Item) × (items ≡ item ∷ rest)

-- The refusal is that of the first item; a fault of the desk says nothing of the items.
abbrev pub Refuses : LexRefusal → Option (List Item) → Type 0
Refuses ReadFault items = Unit {0}
Refuses (TooLong line) items = Begins items (too_long line)
Refuses (BadByte line) items = Begins items (bad_byte line)
Refuses (NumberRange line) items = Begins items (number_range line)

-- The token is the first item, and the items to come after the call are those behind it.
abbrev pub Gives : Token → Option (List Item) → Option (List Item) → Type 0
Gives t None after = Unit {0}
Gives t (Some items) after = (rest : List Item) × (items ≡ word t ∷ rest) × (after ≡ Some rest)

-- Nothing is to come but the end, in this line, and it stays so.
abbrev pub Ends : ℕ → Option (List Item) → Option (List Item) → Type 0
Ends line None after = Unit {0}
Ends line (Some items) after = (items ≡ the_end line ∷ []) × (after ≡ Some items)

-- The answer is the first of the items that were to come before the call; the last argument is the line after it.
abbrev pub Answers : Result (Option Token) LexRefusal → Option (List Item) → Option (List Item) → ℕ → Type 0
Answers (Ok (Some t)) before after line = Gives t before after
Answers (Ok None) before after line = Ends line before after
Answers (Err e) before after line = Refuses e before

-- The refusal is a fault of the desk.
abbrev pub IsReadFault : LexRefusal → Type 0
IsReadFault ReadFault = Unit {0}
IsReadFault (TooLong line) = ⊥
IsReadFault (BadByte line) = ⊥
IsReadFault (NumberRange line) = ⊥

-- The token, or the refusal, is this item.
abbrev pub IsScanned : Result Token LexRefusal → Item → Type 0
IsScanned (Ok t) item = item ≡ word t
IsScanned (Err ReadFault) item = ⊥
IsScanned (Err (TooLong line)) item = item ≡ too_long line
IsScanned (Err (BadByte line)) item = item ≡ bad_byte line
IsScanned (Err (NumberRange line)) item = item ≡ number_range line

-- The item stands behind the line of this number, as the end of the text does.
abbrev pub IsBehind : ℕ → Item → Type 0
IsBehind n (word t) = n < t.line
IsBehind n (bad_byte line) = n < line
IsBehind n (number_range line) = n < line
IsBehind n (too_long line) = n < line
IsBehind n (the_end line) = Unit {0}

-- The first of the items to come stands behind the line, where these are known.
abbrev pub AreBehind : ℕ → Option (List Item) → Type 0
AreBehind n None = Unit {0}
AreBehind n (Some []) = ⊥
AreBehind n (Some (item ∷ items)) = IsBehind n item

-- The refusal is one on the line of this number, or a fault of the desk.
abbrev pub IsOfLine : ℕ → LexRefusal → Type 0
IsOfLine n ReadFault = Unit {0}
IsOfLine n (TooLong line) = line ≡ n
IsOfLine n (BadByte line) = line ≡ n
IsOfLine n (NumberRange line) = line ≡ n

-- The answer is the next word on the line of this number, the refusal of what stands there, or that nothing more does:
-- then the items to come stay, and stand behind the line.
abbrev pub AnswersOnLine : Result (Option Token) LexRefusal → Option (List Item) → Option (List Item) → ℕ → Type 0
AnswersOnLine (Ok (Some t)) before after line = Gives t before after × (t.line ≡ line)
AnswersOnLine (Ok None) before after line = Stays before after × AreBehind line after
AnswersOnLine (Err e) before after line = Refuses e before × IsOfLine line e
