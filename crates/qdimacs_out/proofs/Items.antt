-- The items of a text that is made of lines.
use Rattle.std.proofs.Common.{◌≡◌, ℕ, ◌+◌, ◌≤◌, Bool, true, false, List, [], ◌∷◌, ◌++◌, length, map, take, refl, sym, ap, ap₂, ◌∙◌, arith}
use Rattle.std.specs.Prelude.{⊤, cond, count_by, if◌then◌else◌}
use Rattle.std.specs.List.{AllByRecursion, AllZip, join_with_byte}
use Rattle.std.proofs.lemmas.Bool.{le-leb}
use Rattle.std.proofs.lemmas.List.{map-append}
use Rattle.std.proofs.lemmas.List.Sums.{sum_by-append, sum_by-cons}
use Rattle.lexer.specs.declared.token.Comments.TheVariants.{Dimacs}
use Rattle.lexer.specs.declared.token.Token.{Token}
use Rattle.lexer.specs.declared.token.Word.{Word}
use Rattle.lexer.specs.Words.{Item, begins_comment, byte, ending, is_line_end, item_of, items_from, items_of_lines, last_line, lines_of, outside_comment, parts_lines, seen, the_end, too_long, word, words_of}
use Rattle.blocks.specs.Lines.{Line, line_text, text_of}
use Rattle.qdimacs_out.proofs.Parting.{IsPlain, NonePart, all_seen, row, row_plain, row_words, text_rows}
use Rattle.qdimacs_out.proofs.Spelling.{Spells, item_is}

abbrev pub token : ℕ → Word → Token
token n x = record { word = x; line = n }

-- the words of lines, each with the number of its line
abbrev pub tokens : ℕ → List (List Word) → List Token
tokens n [] = []
tokens n (xs ∷ xss) = map (token n) xs ++ tokens (n + 1) xss

-- a line's first word begins no comment
abbrev pub IsOpen : Line → Type 0
IsOpen [] = ⊤
IsOpen (w ∷ ws) = begins_comment Dimacs (map byte w) ≡ false

-- a line has these words
pub record IsRow (l : Line) (xs : List Word) : Type 0 where
  pub words : AllZip Spells l xs
  pub begins : IsOpen l

plain_words : (l : Line) (xs : List Word) → AllZip Spells l xs → AllByRecursion IsPlain l
plain_words [] [] h = tt
plain_words [] (x ∷ xs) h = absurd h
plain_words (w ∷ l) [] h = absurd h
plain_words (w ∷ l) (x ∷ xs) h = (h.0.plain, plain_words l xs h.1)

pub plain_rows : (ls : List Line) (xss : List (List Word)) → AllZip IsRow ls xss
    → AllByRecursion (AllByRecursion IsPlain) ls
plain_rows [] [] h = tt
plain_rows [] (xs ∷ xss) h = absurd h
plain_rows (l ∷ ls) [] h = absurd h
plain_rows (l ∷ ls) (xs ∷ xss) h = (plain_words l xs h.0.words, plain_rows ls xss h.1)

all_outside : (l : Line) → IsOpen l → outside_comment Dimacs true (map (map byte) l) ≡ map (map byte) l
all_outside [] h = refl
all_outside (w ∷ ws) h = ap (λ c. if c then [] else map byte w ∷ map (map byte) ws) h

word_items : (n : ℕ) (l : Line) (xs : List Word) → AllZip Spells l xs
    → map (item_of n) (map (map byte) l) ≡ map word (map (token n) xs)
word_items n [] [] h = refl
word_items n [] (x ∷ xs) h = absurd h
word_items n (w ∷ l) [] h = absurd h
word_items n (w ∷ l) (x ∷ xs) h = ap₂ (λ (i : Item) is. i ∷ is) (item_is n w x h.0) (word_items n l xs h.1)

row_items : (n : ℕ) (l : Line) (xs : List Word) → IsRow l xs
    → map (item_of n) (outside_comment Dimacs true (words_of (row l))) ≡ map word (map (token n) xs)
row_items n l xs h =
    ap (λ ws. map (item_of n) (outside_comment Dimacs true ws)) (row_words l (plain_words l xs h.words))
    ∙ ap (map (item_of n)) (all_outside l h.begins)
    ∙ word_items n l xs h.words

lines_items : (n : ℕ) (ls : List Line) (xss : List (List Word)) → AllZip IsRow ls xss
    → items_of_lines Dimacs true n (map row ls ++ [] ∷ []) ≡ map word (tokens n xss)
lines_items n [] [] h = refl
lines_items n [] (xs ∷ xss) h = absurd h
lines_items n (l ∷ ls) [] h = absurd h
lines_items n (l ∷ ls) (xs ∷ xss) h =
    ap₂ (λ a b. a ++ b) (row_items n l xs h.0) (lines_items (n + 1) ls xss h.1)
    ∙ sym (map-append word (map (token n) xs) (tokens (n + 1) xss))

-- each line has one line end

no_ends : (bs : List ℕ) → NonePart parts_lines (map byte bs) → count_by is_line_end bs ≡ 0
no_ends [] h = refl
no_ends (b ∷ bs) h =
    let one : Bool → ℕ = λ t. cond t 1 0 in
    sum_by-cons (λ x. one (is_line_end x)) b bs ∙ ap₂ (λ j k. j + k) (ap one h.0) (no_ends bs h.1)

pub line_ends : (ls : List Line) → AllByRecursion (AllByRecursion IsPlain) ls
    → count_by is_line_end (text_of ls) ≡ length ls
line_ends [] h = refl
line_ends (l ∷ ls) h =
    let one : Bool → ℕ = λ t. cond t 1 0 in
    let f : ℕ → ℕ = λ x. one (is_line_end x) in
    let none = no_ends (join_with_byte 32 l) (row_plain l h.0) in
    let rest = line_ends ls h.1 in
    let first : count_by is_line_end (line_text l) ≡ 1 =
    sum_by-append f (join_with_byte 32 l) (10 ∷ []) ∙ ap (λ k. k + 1) none in
    sum_by-append f (line_text l) (text_of ls) ∙ ap₂ (λ j k. j + k) first rest
    ∙ (let e : 1 + length ls ≡ length (l ∷ ls) = omega arith in e)

-- the items of a text that is short enough: its words, and the end in the line behind its lines
pub text_items : (room : ℕ) (ls : List Line) (xss : List (List Word)) → AllZip IsRow ls xss
    → length (text_of ls) ≤ room
    → items_from Dimacs true 1 room (text_of ls) ≡ map word (tokens 1 xss) ++ the_end (1 + length ls) ∷ []
text_items room ls xss h short =
    let plain = plain_rows ls xss h in
    let parted : items_of_lines Dimacs true 1 (lines_of (seen Dimacs room (text_of ls))) ≡ map word (tokens 1 xss) =
    ap (λ s. items_of_lines Dimacs true 1 (lines_of s)) (all_seen room (text_of ls) short)
    ∙ ap (items_of_lines Dimacs true 1) (text_rows ls plain) ∙ lines_items 1 ls xss h in
    let end : ending 1 room (text_of ls) ≡ the_end (1 + length ls) =
    ap (λ t. if t then the_end (last_line 1 (text_of ls)) else too_long (last_line 1 (take room (text_of ls))))
    (le-leb (length (text_of ls)) room short)
    ∙ ap (λ k. the_end (1 + k)) (line_ends ls plain) in
    ap₂ (λ items last. items ++ last ∷ []) parted end
