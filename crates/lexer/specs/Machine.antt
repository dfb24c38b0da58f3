-- The items to come while a lexer stands in a word or in a comment.
use Rattle.std.specs.Prelude.{ℕ, zero, suc, ◌+◌, ◌-◌, Bool, true, false, ◌&&◌, if◌then◌else◌, List, [], ◌∷◌, ◌++◌, drop, map, Option, option_map}
use Rattle.lexer.specs.declared.token.Comments.{Comments}
use Rattle.lexer.specs.declared.scan.Scan.{Scan}
use Rattle.lexer.specs.Words.{Item, too_long, bad_byte, begins_comment, byte, beyond, ends_word, items_from, items_of_lines, lines_of, seen, ending}
use Rattle.lexer.specs.Scan.{scan_after, scanned}
use Rattle.lexer.specs.State.{State, bytes_ahead}

-- In a comment: the rest of the line is left out.
abbrev pub comment_items : Comments → ℕ → ℕ → List ℕ → List Item
comment_items comments n room bytes =
    items_of_lines comments true (n + 1) (drop 1 (lines_of (seen comments room bytes))) ++ ending n room bytes ∷ []

-- Behind a word that was scanned so.
abbrev pub word_end : Comments → Bool → ℕ → ℕ → Scan → List ℕ → List Item
word_end comments fresh n room s bytes =
    if fresh && begins_comment comments (map byte s.text) then comment_items comments n room bytes
    else scanned n s ∷ items_from comments false n room bytes

-- Where a word goes on beyond the limit.
abbrev pub cut_items : Comments → Bool → ℕ → Scan → List Item
cut_items comments fresh n s =
    if fresh && begins_comment comments (map byte s.text ++ beyond ∷ []) then too_long n ∷ []
    else (if s.is_bad then bad_byte n else too_long n) ∷ too_long n ∷ []

-- The one where no room is left, else the other.
abbrev pub if_room : ℕ → List Item → List Item → List Item
if_room zero cut rest = cut
if_room (suc r) cut rest = rest

-- In a word that was scanned so as far as it has come.
abbrev pub word_items : Comments → Bool → ℕ → ℕ → Scan → List ℕ → List Item
word_items comments fresh n room s [] = word_end comments fresh n room s []
word_items comments fresh n room s (b ∷ bytes) =
    if ends_word comments b then word_end comments fresh n room s (b ∷ bytes)
    else if_room room (cut_items comments fresh n s) (word_items comments fresh n (room - 1) (scan_after s b) bytes)

-- The same, where the desk tells what it has left.
abbrev pub upcoming_in_word : State → Scan → Option (List ℕ) → Option (List Item)
upcoming_in_word s scan left = option_map (word_items s.comments s.fresh s.line s.room scan) (bytes_ahead s left)

abbrev pub upcoming_behind_word : State → Scan → Option (List ℕ) → Option (List Item)
upcoming_behind_word s scan left = option_map (word_end s.comments s.fresh s.line s.room scan) (bytes_ahead s left)

abbrev pub upcoming_in_comment : State → Option (List ℕ) → Option (List Item)
upcoming_in_comment s left = option_map (comment_items s.comments s.line s.room) (bytes_ahead s left)
