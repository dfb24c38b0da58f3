-- The items of a text that begins with a word, byte by byte.
use Rattle.std.proofs.Common.{◌≡◌, ℕ, zero, suc, ◌+◌, ◌-◌, Bool, true, false, ◌&&◌, List, [], ◌∷◌, ◌++◌, map, take, refl, sym, ap, subst, ◌∙◌}
use Rattle.std.specs.Prelude.{if◌then◌else◌}
use Rattle.std.proofs.Math.Numerals.{sub-one}
use Rattle.std.proofs.lemmas.List.{append-nil, append_assoc}
use Rattle.lexer.specs.declared.token.Comments.{Comments}
use Rattle.lexer.specs.declared.token.Comments.TheVariants.{Hash}
use Rattle.lexer.specs.Words.{Item, too_long, Seen, byte, beyond, ends_word, is_mark, parts_lines, lines_of, with_front, begins_comment, outside_comment, item_of, items_of_lines, as_seen, seen, ending, items_from}
use Rattle.lexer.specs.Scan.{scan_after, no_scan, scanned}
use Rattle.lexer.specs.Machine.{comment_items, word_end, cut_items, word_items}
use Rattle.lexer.proofs.Bytewise.{ending_step, ending_at_limit, empty_line, blank_ends, seen_end, end_at_limit, comment_at_limit, rest_of_lines}
use Rattle.lexer.proofs.WordEnds.{IsWhole, EndsAt, parts_at, in_line, behind, word_first, mark_first, mark_no_line_end, hash_first}
use Rattle.lexer.proofs.Scans.{scan_of, scan_step, item_scanned, item_cut, begins_kept, begins_cut_kept}

-- room for a word, and r more bytes
abbrev pub room_with : List ℕ → ℕ → ℕ
room_with [] r = r
room_with (b ∷ w) r = suc (room_with w r)

room_more : (w : List ℕ) (b r : ℕ) → room_with (w ++ b ∷ []) r ≡ room_with w (suc r)
room_more [] b r = refl
room_more (a ∷ w) b r = ap suc (room_more w b r)

seen_more : (c : Comments) (w : List ℕ) (r : ℕ) (bytes : List ℕ) → seen c (room_with w r) (w ++ bytes) ≡ map byte
    w ++ seen c r bytes
seen_more c [] r bytes = refl
seen_more c (b ∷ w) r bytes = ap (λ x. byte b ∷ x) (seen_more c w r bytes)

ending_more : (n : ℕ) (w : List ℕ) (r : ℕ) (bytes : List ℕ) → IsWhole parts_lines (map byte w)
    → ending n (room_with w r) (w ++ bytes) ≡ ending n r bytes
ending_more n [] r bytes h = refl
ending_more n (b ∷ w) r bytes h = ending_step false n (room_with w r) b (w ++ bytes) h.0 ∙ ending_more n w r bytes h.1

whole_more : (c : Comments) (w : List ℕ) (s : Seen) → IsWhole (parts_at c) (map byte w) → parts_at c s ≡ false
    → IsWhole (parts_at c) (map byte w ++ s ∷ [])
whole_more c [] s h e = (e, tt)
whole_more c (b ∷ w) s h e = (h.0, whole_more c w s h.1 e)

-- behind the word
split_behind : (t : Bool) (c : Comments) (n r : ℕ) (w : List Seen) (bytes : List ℕ)
    → behind t c n w (lines_of (seen c r bytes)) ++ ending n r bytes ∷ [] ≡
    (if t then comment_items c n r bytes else item_of n w ∷ items_from c false n r bytes)
split_behind true c n r w bytes = refl
split_behind false c n r w bytes = refl

word_ends : (c : Comments) (fresh : Bool) (n a : ℕ) (w : List ℕ) (r : ℕ) (bytes : List ℕ) → IsWhole (parts_at c)
    (map byte (a ∷ w)) → EndsAt c (seen c r bytes)
    → items_from c fresh n (room_with (a ∷ w) r) ((a ∷ w) ++ bytes) ≡ word_end c fresh n r (scan_of (a ∷ w)) bytes
word_ends c fresh n a w r bytes h e =
    ap (λ x. items_of_lines c fresh n (lines_of x) ++ ending n (room_with (a ∷ w) r) ((a ∷ w) ++ bytes) ∷ [])
    (seen_more c (a ∷ w) r bytes)
    ∙ ap (λ i. items_of_lines c fresh n (lines_of (map byte (a ∷ w) ++ seen c r bytes)) ++ i ∷ [])
    (ending_more n (a ∷ w) r bytes (in_line c (map byte (a ∷ w)) h))
    ∙ ap (λ is. is ++ ending n r bytes ∷ []) (word_first c fresh n (byte a) (map byte w) (seen c r bytes) h e)
    ∙ split_behind (fresh && begins_comment c (map byte (a ∷ w))) c n r (map byte (a ∷ w)) bytes
    ∙ ap (λ t. if fresh && t then comment_items c n r bytes else item_of n (map byte (a ∷ w)) ∷ items_from c false n r
    bytes) (begins_kept c (a ∷ w))
    ∙ ap (λ i. if fresh && begins_comment c (map byte (take 16 (a ∷ w))) then comment_items c n r bytes else
    i ∷ items_from c false n r bytes) (item_scanned n a w)

ends_at_end : (c : Comments) (r : ℕ) → EndsAt c (seen c r [])
ends_at_end c zero = tt
ends_at_end c (suc r) = tt

ends_at_blank : (c : Comments) (r b : ℕ) (bs : List ℕ) → ends_word c b ≡ true → EndsAt c (seen c r (b ∷ bs))
ends_at_blank c zero b bs e = subst (λ s. EndsAt c (s ∷ [])) (sym (seen_end c b e)) (blank_ends c 32 refl)
ends_at_blank c (suc r) b bs e = e

-- beyond the limit
cut_behind : (t : Bool) (c : Comments) (n : ℕ) (w : List Seen) (last : Item) → behind t c n w ([] ∷ []) ++ last ∷ [] ≡
    (if t then last ∷ [] else item_of n w ∷ last ∷ [])
cut_behind true c n w last = refl
cut_behind false c n w last =
    ap (λ ws. (item_of n w ∷ (map (item_of n) (outside_comment c false ws) ++ [])) ++ last ∷ []) (empty_line c)

goes_beyond : (c : Comments) (fresh : Bool) (n : ℕ) (w : List ℕ) (b : ℕ) (bs : List ℕ) → IsWhole (parts_at c)
    (map byte w) → ends_word c b ≡ false
    → items_from c fresh n (room_with w 0) (w ++ b ∷ bs) ≡ cut_items c fresh n (scan_of w)
goes_beyond c fresh n w b bs h e =
    let same : as_seen c b ≡ beyond = ap (λ t. if t then byte 32 else beyond) e in
    ap (λ x. items_of_lines c fresh n (lines_of x) ++ ending n (room_with w 0) (w ++ b ∷ bs) ∷ [])
    (seen_more c w 0 (b ∷ bs) ∙ ap (λ s. map byte w ++ s ∷ []) same)
    ∙ ap (λ i. items_of_lines c fresh n (lines_of (map byte w ++ beyond ∷ [])) ++ i ∷ [])
    (ending_more n w 0 (b ∷ bs) (in_line c (map byte w) h) ∙ ending_at_limit n b bs)
    ∙ cut_word w h
    ∙ ap (λ t. if fresh && t then too_long n ∷ [] else item_of n (map byte w ++ beyond ∷ []) ∷ too_long n ∷ [])
    (begins_cut_kept c w)
    ∙ ap (λ i. if fresh && begins_comment c (map byte (take 16 w) ++ beyond ∷ []) then too_long n ∷ [] else i ∷ too_long
    n ∷ []) (item_cut n w)
  where
    cut_word : (w : List ℕ) → IsWhole (parts_at c) (map byte w) → items_of_lines c fresh n
        (lines_of (map byte w ++ beyond ∷ [])) ++ too_long n ∷ [] ≡
        (if fresh && begins_comment c (map byte w ++ beyond ∷ []) then too_long n ∷ [] else item_of n
        (map byte w ++ beyond ∷ []) ∷ too_long n ∷ [])
    cut_word [] h = ap (λ is. is ++ too_long n ∷ []) (word_first c fresh n beyond [] [] (refl, tt) tt)
        ∙ cut_behind (fresh && begins_comment c (beyond ∷ [])) c n (beyond ∷ []) (too_long n)
    cut_word (a ∷ v) h =
        ap (λ x. items_of_lines c fresh n (lines_of x) ++ too_long n ∷ [])
        (sym (append-nil (map byte (a ∷ v) ++ beyond ∷ [])))
        ∙ ap (λ is. is ++ too_long n ∷ []) (word_first c fresh n (byte a) (map byte v ++ beyond ∷ []) []
        (whole_more c (a ∷ v) beyond h refl) tt)
        ∙ cut_behind (fresh && begins_comment c (map byte (a ∷ v) ++ beyond ∷ [])) c n (map byte (a ∷ v) ++ beyond ∷ [])
        (too_long n)

-- by what the next byte is
pick : (t : Bool) (c : Comments) (b : ℕ) (x ends more : List Item) → ends_word c b ≡ t
    → (ends_word c b ≡ true → x ≡ ends) → (ends_word c b ≡ false → x ≡ more)
    → x ≡ (if ends_word c b then ends else more)
pick true c b x ends more e f g = f e ∙ ap (λ t. if t then ends else more) (sym e)
pick false c b x ends more e f g = g e ∙ ap (λ t. if t then ends else more) (sym e)

map_more : (c : Comments) (w : List ℕ) (b : ℕ) → IsWhole (parts_at c) (map byte w) → ends_word c b ≡ false
    → IsWhole (parts_at c) (map byte (w ++ b ∷ []))
map_more c [] b h e = (e, tt)
map_more c (a ∷ w) b h e = (h.0, map_more c w b h.1 e)

in_word : (c : Comments) (fresh : Bool) (n : ℕ) (bytes : List ℕ) (a : ℕ) (w : List ℕ) (r : ℕ) → IsWhole (parts_at c)
    (map byte (a ∷ w))
    → items_from c fresh n (room_with (a ∷ w) r) ((a ∷ w) ++ bytes) ≡ word_items c fresh n r (scan_of (a ∷ w)) bytes
in_word c fresh n [] a w r h = word_ends c fresh n a w r [] h (ends_at_end c r)
in_word c fresh n (b ∷ bs) a w zero h =
    pick (ends_word c b) c b _ _ _ refl
    (λ e. word_ends c fresh n a w 0 (b ∷ bs) h (ends_at_blank c 0 b bs e))
    (λ e. goes_beyond c fresh n (a ∷ w) b bs h e)
in_word c fresh n (b ∷ bs) a w (suc r) h =
    pick (ends_word c b) c b _ _ _ refl
    (λ e. word_ends c fresh n a w (suc r) (b ∷ bs) h (ends_at_blank c (suc r) b bs e))
    (λ e.
    ap (λ x. items_from c fresh n (room_with (a ∷ w) (suc r)) x) (sym (append_assoc (a ∷ w) (b ∷ []) bs))
    ∙ ap (λ x. items_from c fresh n x (((a ∷ w) ++ b ∷ []) ++ bs)) (sym (room_more (a ∷ w) b r))
    ∙ in_word c fresh n bs a (w ++ b ∷ []) r (map_more c (a ∷ w) b h e)
    ∙ ap (λ s. word_items c fresh n r s bs) (scan_step (a ∷ w) b)
    ∙ ap (λ x. word_items c fresh n x (scan_after (scan_of (a ∷ w)) b) bs) (sym (sub-one (suc r))))

-- in front of a word
pub word_begins : (c : Comments) (fresh : Bool) (n r b : ℕ) (bs : List ℕ) → ends_word c b ≡ false
    → items_from c fresh n r (b ∷ bs) ≡ word_items c fresh n r no_scan (b ∷ bs)
word_begins c fresh n zero b bs e = goes_beyond c fresh n [] b bs tt e
    ∙ ap (λ t. if t then word_end c fresh n 0 no_scan (b ∷ bs) else cut_items c fresh n no_scan) (sym e)
word_begins c fresh n (suc r) b bs e =
    in_word c fresh n bs b [] r (e, tt)
    ∙ ap (λ s. word_items c fresh n r s bs) (scan_step [] b)
    ∙ ap (λ x. word_items c fresh n x (scan_after no_scan b) bs) (sym (sub-one (suc r)))
    ∙ ap (λ t. if t then word_end c fresh n (suc r) no_scan (b ∷ bs) else word_items c fresh n (suc r - 1)
    (scan_after no_scan b) bs) (sym e)

-- a word of one byte
pub mark_begins : (fresh : Bool) (n r b : ℕ) (bs : List ℕ) → is_mark b ≡ true → items_from Hash fresh n (suc r)
    (b ∷ bs) ≡ item_of n (byte b ∷ []) ∷ items_from Hash false n r bs
mark_begins fresh n r b bs e =
    ap (λ u. items_of_lines Hash fresh n (with_front u (byte b) (lines_of (seen Hash r bs))) ++ ending n (suc r)
    (b ∷ bs) ∷ []) (mark_no_line_end b e)
    ∙ ap (λ is. is ++ ending n (suc r) (b ∷ bs) ∷ []) (mark_first fresh n b (lines_of (seen Hash r bs)) e)
    ∙ ap (λ i. item_of n (byte b ∷ []) ∷ (items_of_lines Hash false n (lines_of (seen Hash r bs)) ++ i ∷ []))
    (ending_step false n r b bs (mark_no_line_end b e))

and_false : (t : Bool) → (t && false) ≡ false
and_false true = refl
and_false false = refl

pub mark_word : (fresh : Bool) (n r b : ℕ) (bs : List ℕ) → is_mark b ≡ true → items_from Hash fresh n (suc r)
    (b ∷ bs) ≡ word_end Hash fresh n r (scan_after no_scan b) bs
mark_word fresh n r b bs e =
    mark_begins fresh n r b bs e
    ∙ ap (λ i. i ∷ items_from Hash false n r bs) (item_scanned n b [])
    ∙ ap (λ s. scanned n s ∷ items_from Hash false n r bs) (scan_step [] b)
    ∙ ap (λ t. if t then comment_items Hash n r bs else scanned n (scan_after no_scan b) ∷ items_from Hash false n r bs)
    (sym (and_false fresh))

-- a comment behind #
pub hash_begins : (fresh : Bool) (n r : ℕ) (bs : List ℕ) → items_from Hash fresh n r (35 ∷ bs) ≡ comment_items Hash n r
    (35 ∷ bs)
hash_begins fresh n zero bs = end_at_limit Hash fresh n 35 bs refl ∙ sym (comment_at_limit Hash n 35 bs)
hash_begins fresh n (suc r) bs =
    ap (λ is. is ++ ending n (suc r) (35 ∷ bs) ∷ []) (hash_first fresh n (lines_of (seen Hash r bs)))
    ∙ ap (λ ls. items_of_lines Hash true (n + 1) ls ++ ending n (suc r) (35 ∷ bs) ∷ [])
    (sym (rest_of_lines false (byte 35) (lines_of (seen Hash r bs)) refl))
