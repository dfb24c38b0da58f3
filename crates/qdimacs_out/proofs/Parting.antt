-- A text is parted into its lines, and a line into its words.
use Rattle.std.proofs.Common.{◌≡◌, ℕ, ◌≤◌, ◌<◌, Bool, true, false, List, [], ◌∷◌, ◌++◌, length, map, take, refl, ap, ap₂, ◌∙◌, arith}
use Rattle.std.specs.Prelude.{filter}
use Rattle.std.specs.List.{AllByRecursion, join_with_byte}
use Rattle.std.proofs.lemmas.Bool.Decides.{nat_tests}
use Rattle.std.proofs.lemmas.List.{append-nil, append_assoc, drop_all, map-append, take_all}
use Rattle.lexer.specs.declared.token.Comments.TheVariants.{Dimacs}
use Rattle.lexer.specs.Words.{Seen, as_seen, byte, is_plain, is_some_word, lines_of, parts_lines, parts_words, pieces, seen, with_front, words_of}
use Rattle.blocks.specs.Lines.{Line, text_of}

-- none of these parts
abbrev pub NonePart : (Seen → Bool) → List Seen → Type 0
NonePart parts bs = AllByRecursion (λ b. parts b ≡ false) bs

pieces_end : (parts : Seen → Bool) (xs : List Seen) → NonePart parts xs → pieces parts xs ≡ xs ∷ []
pieces_end parts [] h = refl
pieces_end parts (x ∷ xs) h = ap₂ (λ p r. with_front p x r) h.0 (pieces_end parts xs h.1)

pieces_cut : (parts : Seen → Bool) (xs ys : List Seen) (b : Seen) → NonePart parts xs → parts b ≡ true
    → pieces parts (xs ++ b ∷ ys) ≡ xs ∷ pieces parts ys
pieces_cut parts [] ys b h e = ap (λ p. with_front p b (pieces parts ys)) e
pieces_cut parts (x ∷ xs) ys b h e = ap₂ (λ p r. with_front p x r) h.0 (pieces_cut parts xs ys b h.1 e)

-- a word of bytes that may stand outside comments
pub record IsPlain (w : List ℕ) : Type 0 where
  pub some : 0 < length w
  pub plain : AllByRecursion (λ b. is_plain b ≡ true) w

no_blank : (w : List ℕ) → AllByRecursion (λ b. is_plain b ≡ true) w → NonePart parts_words (map byte w)
no_blank [] h = tt
no_blank (b ∷ w) h = ((let plain : is_plain b ≡ true = h.0 in grind (arith, nat_tests, plain)), no_blank w h.1)

no_end : (w : List ℕ) → AllByRecursion (λ b. is_plain b ≡ true) w → NonePart parts_lines (map byte w)
no_end [] h = tt
no_end (b ∷ w) h = ((let plain : is_plain b ≡ true = h.0 in grind (arith, nat_tests, plain)), no_end w h.1)

none_joined : (parts : Seen → Bool) (xs ys : List Seen) → NonePart parts xs → NonePart parts ys
    → NonePart parts (xs ++ ys)
none_joined parts [] ys h k = k
none_joined parts (x ∷ xs) ys h k = (h.0, none_joined parts xs ys h.1 k)

-- the bytes of a line without its end
abbrev pub row : Line → List Seen
row words = map byte (join_with_byte 32 words)

row_more : (w v : List ℕ) (ws : Line) → row (w ∷ v ∷ ws) ≡ map byte w ++ byte 32 ∷ row (v ∷ ws)
row_more w v ws = map-append byte w (32 ∷ join_with_byte 32 (v ∷ ws))

pub row_plain : (ws : Line) → AllByRecursion IsPlain ws → NonePart parts_lines (row ws)
row_plain [] h = tt
row_plain (w ∷ []) h = no_end w h.0.plain
row_plain (w ∷ v ∷ ws) h =
    rw (row_more w v ws)
    (none_joined parts_lines (map byte w) (byte 32 ∷ row (v ∷ ws)) (no_end w h.0.plain) (refl, row_plain (v ∷ ws) h.1))

kept : (w : List ℕ) (rest : List (List Seen)) → 0 < length w
    → filter is_some_word (map byte w ∷ rest) ≡ map byte w ∷ filter is_some_word rest
kept [] rest h = absurd (omega arith)
kept (b ∷ w) rest h = refl

-- the words of a line are those that it was made of
pub row_words : (ws : Line) → AllByRecursion IsPlain ws → words_of (row ws) ≡ map (map byte) ws
row_words [] h = refl
row_words (w ∷ []) h =
    ap (filter is_some_word) (pieces_end parts_words (map byte w) (no_blank w h.0.plain)) ∙ kept w [] h.0.some
row_words (w ∷ v ∷ ws) h =
    ap words_of (row_more w v ws)
    ∙ ap (filter is_some_word) (pieces_cut parts_words (map byte w) (row (v ∷ ws)) (byte 32)
    (no_blank w h.0.plain) refl)
    ∙ kept w (pieces parts_words (row (v ∷ ws))) h.0.some
    ∙ ap (λ rest. map byte w ∷ rest) (row_words (v ∷ ws) h.1)

-- the lines of a text are those that it was made of, and an empty one behind them
pub text_rows : (ls : List Line) → AllByRecursion (AllByRecursion IsPlain) ls
    → lines_of (map byte (text_of ls)) ≡ map row ls ++ [] ∷ []
text_rows [] h = refl
text_rows (l ∷ ls) h =
    ap (λ t. lines_of (map byte t)) (append_assoc (join_with_byte 32 l) (10 ∷ []) (text_of ls))
    ∙ ap lines_of (map-append byte (join_with_byte 32 l) (10 ∷ text_of ls))
    ∙ pieces_cut parts_lines (row l) (map byte (text_of ls)) (byte 10) (row_plain l h.0) refl
    ∙ ap (λ rest. row l ∷ rest) (text_rows ls h.1)

-- all of a text that is short enough is seen
pub all_seen : (room : ℕ) (text : List ℕ) → length text ≤ room → seen Dimacs room text ≡ map byte text
all_seen room text h =
    ap₂ (λ front rest. map byte front ++ map (as_seen Dimacs) (take 1 rest)) (take_all room text h)
    (drop_all room text h)
    ∙ append-nil (map byte text)
