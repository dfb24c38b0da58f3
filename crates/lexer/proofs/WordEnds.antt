-- Where a word ends.
use Rattle.std.proofs.Common.{◌≡◌, ℕ, ◌+◌, Bool, true, false, ◌&&◌, ◌||◌, List, [], ◌∷◌, ◌++◌, map, drop, refl, sym, ap, ◌∙◌, arith}
use Rattle.std.specs.Prelude.{if◌then◌else◌, filter, ◌==◌}
use Rattle.std.proofs.lemmas.List.{append-nil}
use Rattle.std.proofs.lemmas.Bool.{eqb-true}
use Rattle.std.proofs.lemmas.Bool.Decides.{nat_tests}
use Rattle.lexer.specs.declared.token.Comments.{Comments}
use Rattle.lexer.specs.declared.token.Comments.TheVariants.{Dimacs, Script, Hash}
use Rattle.lexer.specs.Words.{Item, Seen, byte, beyond, is_blank, is_line_end, is_mark, ends_word, spaced, laid_out, parts_words, parts_lines, with_front, pieces, lines_of, is_some_word, words_of, begins_comment, outside_comment, item_of, items_of_lines}
use Rattle.lexer.proofs.Bytewise.{words_behind_blank}

-- a word in front of the first piece
abbrev pub glue : List Seen → List (List Seen) → List (List Seen)
glue [] ps = ps
glue (b ∷ w) ps = with_front false b (glue w ps)

pub glue_cons : (w l : List Seen) (ls : List (List Seen)) → glue w (l ∷ ls) ≡ (w ++ l) ∷ ls
glue_cons [] l ls = refl
glue_cons (b ∷ w) l ls = ap (with_front false b) (glue_cons w l ls)

-- at no place of the word the test gives true
abbrev pub IsWhole : (Seen → Bool) → List Seen → Type 0
IsWhole parts [] = Unit {0}
IsWhole parts (b ∷ w) = (parts b ≡ false) × IsWhole parts w

pub pieces_glue : (parts : Seen → Bool) (w x : List Seen) → IsWhole parts w → pieces parts (w ++ x) ≡ glue w
    (pieces parts x)
pieces_glue parts [] x h = refl
pieces_glue parts (b ∷ w) x h = ap (λ t. with_front t b (pieces parts (w ++ x))) h.0 ∙ ap (with_front false b)
    (pieces_glue parts w x h.1)

-- a word has no line end
or_false : (a b : Bool) → (a || b) ≡ false → b ≡ false
or_false true b h = cc
or_false false b h = h

pub no_blank : (b : ℕ) → b ≡ 10 → is_blank b ≡ true
no_blank b e = rw e refl

line_end_blank : (t : Bool) (b : ℕ) → is_line_end b ≡ t → is_blank b ≡ false → is_line_end b ≡ false
line_end_blank false b e h = e
line_end_blank true b e h = absurd (let blank : is_blank b ≡ true = no_blank b (eqb-true b 10 e) in cc)

-- where a word ends
abbrev pub parts_at : Comments → Seen → Bool
parts_at c (byte b) = ends_word c b
parts_at c beyond = false

not_first : (a b : Bool) → (a || b) ≡ false → a ≡ false
not_first true b h = cc
not_first false b h = refl

pub goes_on : (c : Comments) (b : ℕ) → ends_word c b ≡ false → is_blank b ≡ false
goes_on Dimacs b h = h
goes_on Script b h = h
goes_on Hash b h = not_first (is_blank b) (is_mark b || (b == 35)) h

pub in_line : (c : Comments) (w : List Seen) → IsWhole (parts_at c) w → IsWhole parts_lines w
in_line c [] h = tt
in_line c (byte b ∷ w) h = (line_end_blank (is_line_end b) b refl (goes_on c b h.0), in_line c w h.1)
in_line c (beyond ∷ w) h = (refl, in_line c w h.1)

in_words : (c : Comments) (w : List Seen) → IsWhole (parts_at c) w → IsWhole parts_words w
in_words c [] h = tt
in_words c (byte b ∷ w) h = (goes_on c b h.0, in_words c w h.1)
in_words c (beyond ∷ w) h = (refl, in_words c w h.1)

-- what a word ends at: nothing, or white space
abbrev pub EndsWord : List Seen → Type 0
EndsWord [] = Unit {0}
EndsWord (byte b ∷ x) = is_blank b ≡ true
EndsWord (beyond ∷ x) = ⊥

-- the words of a line that begins with a word
pub words_first : (a : Seen) (w l : List Seen) → IsWhole parts_words (a ∷ w) → EndsWord l → words_of ((a ∷ w) ++ l) ≡
    (a ∷ w) ∷ words_of l
words_first a w [] h e = ap (filter is_some_word) (pieces_glue parts_words (a ∷ w) [] h ∙ glue_cons (a ∷ w) [] [])
    ∙ ap (λ v. v ∷ []) (append-nil (a ∷ w))
words_first a w (byte b ∷ l) h e =
    ap (filter is_some_word) (pieces_glue parts_words (a ∷ w) (byte b ∷ l) h
    ∙ ap (λ t. glue (a ∷ w) (with_front t (byte b) (pieces parts_words l))) e
    ∙ glue_cons (a ∷ w) [] (pieces parts_words l))
    ∙ ap (λ v. v ∷ filter is_some_word (pieces parts_words l)) (append-nil (a ∷ w))
    ∙ ap (λ ws. (a ∷ w) ∷ ws) (sym (words_behind_blank b l e))
words_first a w (beyond ∷ l) h e = absurd e

-- the same where a line is laid out
abbrev pub EndsAt : Comments → List Seen → Type 0
EndsAt c [] = Unit {0}
EndsAt c (byte b ∷ x) = ends_word c b ≡ true
EndsAt c (beyond ∷ x) = ⊥

plain_ends : (x : List Seen) → EndsAt Dimacs x → EndsWord x
plain_ends [] e = tt
plain_ends (byte b ∷ x) e = e
plain_ends (beyond ∷ x) e = absurd e

script_ends : (x : List Seen) → EndsAt Script x → EndsWord x
script_ends [] e = tt
script_ends (byte b ∷ x) e = e
script_ends (beyond ∷ x) e = absurd e

choose : (h m : Bool) (b : ℕ) (rest : List Seen) → (is_blank b || (m || h)) ≡ true
    → EndsWord (if h then [] else if m then byte 32 ∷ byte b ∷ byte 32 ∷ rest else byte b ∷ rest)
choose true m b rest e = tt
choose false true b rest e = refl
choose false false b rest e = sym (or_none (is_blank b)) ∙ e
  where
    or_none : (t : Bool) → (t || (false || false)) ≡ t
    or_none true = refl
    or_none false = refl

spaced_ends : (x : List Seen) → EndsAt Hash x → EndsWord (spaced x)
spaced_ends [] e = tt
spaced_ends (byte b ∷ x) e = choose (b == 35) (is_mark b) b (spaced x) e
spaced_ends (beyond ∷ x) e = absurd e

go_on : (h m : Bool) (b : ℕ) (rest : List Seen) → (is_blank b || (m || h)) ≡ false
    → (if h then [] else if m then byte 32 ∷ byte b ∷ byte 32 ∷ rest else byte b ∷ rest) ≡ byte b ∷ rest
go_on true m b rest e = absurd (none (is_blank b) m e)
  where
    none : (t m : Bool) → (t || (m || true)) ≡ false → ⊥
    none true m e = cc
    none false true e = cc
    none false false e = cc
go_on false true b rest e = absurd (none (is_blank b) e)
  where
    none : (t : Bool) → (t || (true || false)) ≡ false → ⊥
    none true e = cc
    none false e = cc
go_on false false b rest e = refl

-- a word stays as it is in a line that is laid out
pub spaced_word : (w x : List Seen) → IsWhole (parts_at Hash) w → spaced (w ++ x) ≡ w ++ spaced x
spaced_word [] x h = refl
spaced_word (byte b ∷ w) x h = go_on (b == 35) (is_mark b) b (spaced (w ++ x)) h.0 ∙ ap (λ r. byte b ∷ r)
    (spaced_word w x h.1)
spaced_word (beyond ∷ w) x h = ap (λ r. beyond ∷ r) (spaced_word w x h.1)

pub laid_first : (c : Comments) (a : Seen) (w l : List Seen) → IsWhole (parts_at c) (a ∷ w) → EndsAt c l
    → words_of (laid_out c ((a ∷ w) ++ l)) ≡ (a ∷ w) ∷ words_of (laid_out c l)
laid_first Dimacs a w l h e = words_first a w l (in_words Dimacs (a ∷ w) h) (plain_ends l e)
laid_first Script a w l h e = words_first a w l (in_words Script (a ∷ w) h) (script_ends l e)
laid_first Hash a w l h e = ap words_of (spaced_word (a ∷ w) l h) ∙ words_first a w (spaced l) (in_words Hash (a ∷ w) h)
    (spaced_ends l e)

not_whole : (c : Comments) (ws : List (List Seen)) → outside_comment c false ws ≡ ws
not_whole c [] = refl
not_whole c (w ∷ ws) = refl

-- the items of lines that begin with a word
abbrev pub behind : Bool → Comments → ℕ → List Seen → List (List Seen) → List Item
behind t c n w ls = if t then items_of_lines c true (n + 1) (drop 1 ls) else item_of n w ∷ items_of_lines c false n ls

pub chosen : (t : Bool) (c : Comments) (n : ℕ) (w l : List Seen) (ls : List (List Seen))
    → map (item_of n) (if t then [] else w ∷ words_of (laid_out c l)) ++ items_of_lines c true (n + 1) ls ≡ behind t c n
    w (l ∷ ls)
chosen true c n w l ls = refl
chosen false c n w l ls = ap (λ ws. item_of n w ∷ (map (item_of n) ws ++ items_of_lines c true (n + 1) ls))
    (sym (not_whole c (words_of (laid_out c l))))

line_of_word : (c : Comments) (fresh : Bool) (n : ℕ) (a : Seen) (w l : List Seen) (ls : List (List Seen))
    → IsWhole (parts_at c) (a ∷ w) → EndsAt c l
    → items_of_lines c fresh n (glue (a ∷ w) (l ∷ ls)) ≡ behind (fresh && begins_comment c (a ∷ w)) c n (a ∷ w) (l ∷ ls)
line_of_word c fresh n a w l ls h e =
    ap (items_of_lines c fresh n) (glue_cons (a ∷ w) l ls)
    ∙ ap (λ ws. map (item_of n) (outside_comment c fresh ws) ++ items_of_lines c true (n + 1) ls)
    (laid_first c a w l h e)
    ∙ chosen (fresh && begins_comment c (a ∷ w)) c n (a ∷ w) l ls

-- the items of a text that begins with a word
lines_behind : (t : Bool) (c : Comments) (fresh : Bool) (n : ℕ) (a : Seen) (w : List Seen) (b : ℕ)
    (ls : List (List Seen)) → IsWhole (parts_at c) (a ∷ w) → ends_word c b ≡ true
    → items_of_lines c fresh n (glue (a ∷ w) (with_front t (byte b) ls)) ≡ behind (fresh && begins_comment c (a ∷ w)) c
    n (a ∷ w) (with_front t (byte b) ls)
lines_behind true c fresh n a w b ls h e = line_of_word c fresh n a w [] ls h tt
lines_behind false c fresh n a w b [] h e = line_of_word c fresh n a w (byte b ∷ []) [] h e
lines_behind false c fresh n a w b (l ∷ ls) h e = line_of_word c fresh n a w (byte b ∷ l) ls h e

pub word_first : (c : Comments) (fresh : Bool) (n : ℕ) (a : Seen) (w x : List Seen) → IsWhole (parts_at c) (a ∷ w)
    → EndsAt c x
    → items_of_lines c fresh n (lines_of ((a ∷ w) ++ x)) ≡ behind (fresh && begins_comment c (a ∷ w)) c n (a ∷ w)
    (lines_of x)
word_first c fresh n a w [] h e = ap (items_of_lines c fresh n)
    (pieces_glue parts_lines (a ∷ w) [] (in_line c (a ∷ w) h)) ∙ line_of_word c fresh n a w [] [] h tt
word_first c fresh n a w (byte b ∷ x) h e = ap (items_of_lines c fresh n)
    (pieces_glue parts_lines (a ∷ w) (byte b ∷ x) (in_line c (a ∷ w) h)) ∙ lines_behind (is_line_end b) c fresh n a w b
    (lines_of x) h e
word_first c fresh n a w (beyond ∷ x) h e = absurd e

-- a word of one byte
and_false : (t : Bool) → (t && false) ≡ false
and_false true = refl
and_false false = refl

mark_apart : (b : ℕ) → is_mark b ≡ true → ((b == 35) ≡ false) × (is_blank b ≡ false) × (is_line_end b ≡ false)
mark_apart b e = (grind (arith, nat_tests, e), grind (arith, nat_tests, e), grind (arith, nat_tests, e))

mark_spaced : (b : ℕ) (l : List Seen) → is_mark b ≡ true → spaced (byte b ∷ l) ≡ byte 32 ∷ byte b ∷ byte 32 ∷ spaced l
mark_spaced b l e = let other : (b == 35) ≡ false = (mark_apart b e).0 in rw (other, e) refl

mark_words : (b : ℕ) (l : List Seen) → is_mark b ≡ true → words_of (spaced (byte b ∷ l)) ≡ (byte b ∷ []) ∷ words_of
    (spaced l)
mark_words b l e =
    ap words_of (mark_spaced b l e)
    ∙ words_behind_blank 32 (byte b ∷ byte 32 ∷ spaced l) refl
    ∙ words_first (byte b) [] (byte 32 ∷ spaced l) ((mark_apart b e).1, tt) refl
    ∙ ap (λ ws. (byte b ∷ []) ∷ ws) (words_behind_blank 32 (spaced l) refl)

mark_line : (fresh : Bool) (n b : ℕ) (l : List Seen) (ls : List (List Seen)) → is_mark b ≡ true
    → items_of_lines Hash fresh n ((byte b ∷ l) ∷ ls) ≡ item_of n (byte b ∷ []) ∷ items_of_lines Hash false n (l ∷ ls)
mark_line fresh n b l ls e =
    ap (λ ws. map (item_of n) (outside_comment Hash fresh ws) ++ items_of_lines Hash true (n + 1) ls) (mark_words b l e)
    ∙ ap (λ t. map (item_of n) (if t then [] else (byte b ∷ []) ∷ words_of (spaced l)) ++ items_of_lines Hash true
    (n + 1) ls) (and_false fresh)
    ∙ chosen false Hash n (byte b ∷ []) l ls

pub mark_first : (fresh : Bool) (n b : ℕ) (ls : List (List Seen)) → is_mark b ≡ true
    → items_of_lines Hash fresh n (with_front false (byte b) ls) ≡ item_of n (byte b ∷ []) ∷ items_of_lines Hash false n
    ls
mark_first fresh n b [] e = mark_line fresh n b [] [] e
mark_first fresh n b (l ∷ ls) e = mark_line fresh n b l ls e

-- what stands behind # is comment
pub hash_first : (fresh : Bool) (n : ℕ) (ls : List (List Seen)) → items_of_lines Hash fresh n
    (with_front false (byte 35) ls) ≡ items_of_lines Hash true (n + 1) (drop 1 ls)
hash_first fresh n [] = refl
hash_first fresh n (l ∷ ls) = refl

pub mark_no_line_end : (b : ℕ) → is_mark b ≡ true → is_line_end b ≡ false
mark_no_line_end b e = (mark_apart b e).2

pub mark_ends : (b : ℕ) → is_mark b ≡ true → ends_word Hash b ≡ true
mark_ends b e = ap (λ t. is_blank b || (t || (b == 35))) e ∙ or_true (is_blank b)
  where
    or_true : (t : Bool) → (t || (true || (b == 35))) ≡ true
    or_true true = refl
    or_true false = refl
