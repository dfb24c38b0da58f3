-- The items of a text, byte by byte.
use Rattle.std.proofs.Common.{◌≡◌, ℕ, zero, suc, ◌+◌, Bool, true, false, cond, List, [], ◌∷◌, ◌++◌, length, map, take, drop, refl, ap, ◌∙◌, arith}
use Rattle.std.specs.Prelude.{if◌then◌else◌, count_by, filter, ◌||◌, ◌==◌}
use Rattle.std.proofs.lemmas.Bool.Decides.{nat_tests}
use Rattle.std.proofs.Math.Dec.{leb-zero, leb-suc-zero, leb-suc-suc}
use Rattle.std.proofs.Math.Nat.{add-zero}
use Rattle.std.proofs.lemmas.List.Sums.{sum_by-cons}
use Rattle.lexer.specs.declared.token.Comments.{Comments}
use Rattle.lexer.specs.declared.token.Comments.TheVariants.{Dimacs, Script, Hash}
use Rattle.lexer.specs.Words.{too_long, the_end, Seen, byte, beyond, is_blank, is_line_end, is_mark, ends_word, spaced, laid_out, parts_words, with_front, pieces, lines_of, is_some_word, words_of, outside_comment, item_of, items_of_lines, as_seen, seen, last_line, ending, items_from}
use Rattle.lexer.specs.Machine.{comment_items}

-- the ending behind a byte
line_after : Bool → ℕ → ℕ
line_after t n = if t then n + 1 else n

pub last_line_step : (t : Bool) (n b : ℕ) (bs : List ℕ) → is_line_end b ≡ t → last_line n (b ∷ bs) ≡ last_line
    (if t then n + 1 else n) bs
last_line_step true n b bs e =
    let one : count_by is_line_end (b ∷ bs) ≡ 1 + count_by is_line_end bs = sum_by-cons (λ x. cond (is_line_end x) 1 0)
    b bs ∙ ap (λ t. cond t 1 0 + count_by is_line_end bs) e in
    omega (arith, one)
last_line_step false n b bs e =
    let none : count_by is_line_end (b ∷ bs) ≡ 0 + count_by is_line_end bs = sum_by-cons (λ x. cond (is_line_end x) 1 0)
    b bs ∙ ap (λ t. cond t 1 0 + count_by is_line_end bs) e in
    omega (arith, none)

pub ending_step : (t : Bool) (n r b : ℕ) (bs : List ℕ) → is_line_end b ≡ t → ending n (suc r) (b ∷ bs) ≡ ending
    (if t then n + 1 else n) r bs
ending_step t n r b bs e = rw (leb-suc-suc (length bs) r, last_line_step t n b bs e, last_line_step t n b (take r bs) e)
    refl

pub ending_at_limit : (n b : ℕ) (bs : List ℕ) → ending n 0 (b ∷ bs) ≡ too_long n
ending_at_limit n b bs = rw (leb-suc-zero (length bs), add-zero n) refl

ending_at_end : (n r : ℕ) → ending n r [] ≡ the_end n
ending_at_end n r = rw (leb-zero r, add-zero n) refl

-- what is seen behind a byte
seen_at_end : (c : Comments) (r : ℕ) → seen c r [] ≡ []
seen_at_end c zero = refl
seen_at_end c (suc r) = refl

pub empty_line : (c : Comments) → words_of (laid_out c []) ≡ []
empty_line Dimacs = refl
empty_line Script = refl
empty_line Hash = refl

pub at_end : (c : Comments) (fresh : Bool) (n r : ℕ) → items_from c fresh n r [] ≡ the_end n ∷ []
at_end c fresh n r = rw (seen_at_end c r, ending_at_end n r, empty_line c) refl

pub comment_at_end : (c : Comments) (n r : ℕ) → comment_items c n r [] ≡ the_end n ∷ []
comment_at_end c n r = rw (seen_at_end c r, ending_at_end n r) refl

-- white space in front of a line
no_word : (t : Bool) (b : Seen) (ps : List (List Seen)) → t ≡ true → filter is_some_word (with_front t b ps) ≡ filter
    is_some_word ps
no_word true b ps e = refl
no_word false b ps e = cc

pub words_behind_blank : (b : ℕ) (l : List Seen) → is_blank b ≡ true → words_of (byte b ∷ l) ≡ words_of l
words_behind_blank b l e = no_word (is_blank b) (byte b) (pieces parts_words l) e

-- white space ends a word, and stays as it is in a line that is laid out
pub blank_ends : (c : Comments) (b : ℕ) → is_blank b ≡ true → ends_word c b ≡ true
blank_ends Dimacs b e = e
blank_ends Script b e = e
blank_ends Hash b e = ap (λ t. t || (is_mark b || (b == 35))) e

blank_spaced : (b : ℕ) (l : List Seen) → is_blank b ≡ true → spaced (byte b ∷ l) ≡ byte b ∷ spaced l
blank_spaced b l e =
    let no_hash : (b == 35) ≡ false = grind (arith, nat_tests, e) in
    let no_mark : is_mark b ≡ false = grind (arith, nat_tests, e) in
    rw (no_hash, no_mark) refl

pub laid_behind_blank : (c : Comments) (b : ℕ) (l : List Seen) → is_blank b ≡ true
    → words_of (laid_out c (byte b ∷ l)) ≡ words_of (laid_out c l)
laid_behind_blank Dimacs b l e = words_behind_blank b l e
laid_behind_blank Script b l e = words_behind_blank b l e
laid_behind_blank Hash b l e = ap words_of (blank_spaced b l e) ∙ words_behind_blank b (spaced l) e

lines_behind_blank : (c : Comments) (fresh : Bool) (n b : ℕ) (ls : List (List Seen)) → is_blank b ≡ true
    → items_of_lines c fresh n (with_front false (byte b) ls) ≡ items_of_lines c fresh n ls
lines_behind_blank c fresh n b [] e = ap (λ ws. map (item_of n) (outside_comment c fresh ws) ++ [])
    (laid_behind_blank c b [] e ∙ empty_line c)
lines_behind_blank c fresh n b (l ∷ ls) e =
    ap (λ ws. map (item_of n) (outside_comment c fresh ws) ++ items_of_lines c true (n + 1) ls)
    (laid_behind_blank c b l e)

blank_lines : (t : Bool) (c : Comments) (fresh : Bool) (n b : ℕ) (ls : List (List Seen)) → is_blank b ≡ true
    → items_of_lines c fresh n (with_front t (byte b) ls) ≡ items_of_lines c (if t then true else fresh)
    (if t then n + 1 else n) ls
blank_lines true c fresh n b ls e = ap (λ ws. map (item_of n) (outside_comment c fresh ws) ++ items_of_lines c true
    (n + 1) ls) (empty_line c)
blank_lines false c fresh n b ls e = lines_behind_blank c fresh n b ls e

pub blank_step : (t : Bool) (c : Comments) (fresh : Bool) (n r b : ℕ) (bs : List ℕ) → is_line_end b ≡ t
    → is_blank b ≡ true → items_from c fresh n (suc r) (b ∷ bs) ≡ items_from c (if t then true else fresh)
    (if t then n + 1 else n) r bs
blank_step t c fresh n r b bs e h =
    ap (λ u. items_of_lines c fresh n (with_front u (byte b) (lines_of (seen c r bs))) ++ ending n (suc r)
    (b ∷ bs) ∷ []) e
    ∙ ap (λ is. is ++ ending n (suc r) (b ∷ bs) ∷ []) (blank_lines t c fresh n b (lines_of (seen c r bs)) h)
    ∙ ap (λ i. items_of_lines c (if t then true else fresh) (if t then n + 1 else n) (lines_of (seen c r bs)) ++ i ∷ [])
    (ending_step t n r b bs e)

-- a byte beyond the limit that ends a word
pub seen_end : (c : Comments) (b : ℕ) → ends_word c b ≡ true → as_seen c b ≡ byte 32
seen_end c b e = ap (λ t. if t then byte 32 else beyond) e

blank_line : (c : Comments) → words_of (laid_out c (byte 32 ∷ [])) ≡ []
blank_line Dimacs = refl
blank_line Script = refl
blank_line Hash = refl

pub end_at_limit : (c : Comments) (fresh : Bool) (n b : ℕ) (bs : List ℕ) → ends_word c b ≡ true → items_from c fresh n 0
    (b ∷ bs) ≡ too_long n ∷ []
end_at_limit c fresh n b bs e =
    ap (λ s. items_of_lines c fresh n (lines_of (s ∷ [])) ++ ending n 0 (b ∷ bs) ∷ []) (seen_end c b e)
    ∙ ap (λ ws. (map (item_of n) (outside_comment c fresh ws) ++ []) ++ ending n 0 (b ∷ bs) ∷ []) (blank_line c)
    ∙ ap (λ i. i ∷ []) (ending_at_limit n b bs)

pub blank_at_limit : (c : Comments) (fresh : Bool) (n b : ℕ) (bs : List ℕ) → is_blank b ≡ true → items_from c fresh n 0
    (b ∷ bs) ≡ too_long n ∷ []
blank_at_limit c fresh n b bs e = end_at_limit c fresh n b bs (blank_ends c b e)

-- in a comment
pub rest_of_lines : (t : Bool) (b : Seen) (ls : List (List Seen)) → t ≡ false → drop 1 (with_front t b ls) ≡ drop 1 ls
rest_of_lines true b ls e = cc
rest_of_lines false b [] e = refl
rest_of_lines false b (l ∷ ls) e = refl

pub comment_step : (c : Comments) (n r b : ℕ) (bs : List ℕ) → is_line_end b ≡ false → comment_items c n (suc r)
    (b ∷ bs) ≡ comment_items c n r bs
comment_step c n r b bs e =
    ap (λ ls. items_of_lines c true (n + 1) ls ++ ending n (suc r) (b ∷ bs) ∷ [])
    (rest_of_lines (is_line_end b) (byte b) (lines_of (seen c r bs)) e)
    ∙ ap (λ i. items_of_lines c true (n + 1) (drop 1 (lines_of (seen c r bs))) ++ i ∷ []) (ending_step false n r b bs e)

pub comment_line_end : (c : Comments) (n r b : ℕ) (bs : List ℕ) → is_line_end b ≡ true → comment_items c n (suc r)
    (b ∷ bs) ≡ items_from c true (n + 1) r bs
comment_line_end c n r b bs e =
    ap (λ u. items_of_lines c true (n + 1) (drop 1 (with_front u (byte b) (lines_of (seen c r bs)))) ++ ending n (suc r)
    (b ∷ bs) ∷ []) e
    ∙ ap (λ i. items_of_lines c true (n + 1) (lines_of (seen c r bs)) ++ i ∷ []) (ending_step true n r b bs e)

last_piece : (t : Bool) → drop 1 (lines_of ((if t then byte 32 else beyond) ∷ [])) ≡ []
last_piece true = refl
last_piece false = refl

pub comment_at_limit : (c : Comments) (n b : ℕ) (bs : List ℕ) → comment_items c n 0 (b ∷ bs) ≡ too_long n ∷ []
comment_at_limit c n b bs =
    ap (λ ls. items_of_lines c true (n + 1) ls ++ ending n 0 (b ∷ bs) ∷ []) (last_piece (ends_word c b))
    ∙ ap (λ i. i ∷ []) (ending_at_limit n b bs)
