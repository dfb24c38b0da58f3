-- How a text is cut into lines and words, which can be done in one way.
use Rattle.std.proofs.Common.{◌≡◌, ℕ, ◌+◌, ◌<◌, ◌≤◌, List, [], ◌∷◌, ◌++◌, length, refl, sym, ap, ap₂, ◌∙◌, arith, append_assoc, length-append}
use Rattle.std.specs.Prelude.{⊤}
use Rattle.std.specs.List.{AllZip, join_with_byte}
use Rattle.blocks.specs.Lines.{Line, line_text, text_of}
use Rattle.aiger_out.specs.Aag.{EachAt}
use Rattle.aiger_out.proofs.Numerals.{IsPlain}

-- a word ends at the first white space
cut : (w v : List ℕ) (b d : ℕ) (r s : List ℕ) → IsPlain w → IsPlain v → b ≤ 32 → d ≤ 32 → w ++ b ∷ r ≡ v ++ d ∷ s
    → (w ≡ v) × (b ≡ d) × (r ≡ s)
cut [] [] b d r s p q lb ld e = (refl, cc, cc)
cut [] (y ∷ v) b d r s p q lb ld e = let same : b ≡ y = cc in absurd (omega (arith, q.0))
cut (x ∷ w) [] b d r s p q lb ld e = let same : x ≡ d = cc in absurd (omega (arith, p.0))
cut (x ∷ w) (y ∷ v) b d r s p q lb ld e =
    let head : x ≡ y = cc in
    let tail : w ++ b ∷ r ≡ v ++ d ∷ s = cc in
    let rest = cut w v b d r s p.1 q.1 lb ld tail in
    (ap₂ (λ (z : ℕ) zs. z ∷ zs) head rest.0, rest.1, rest.2)

-- a line of one word or more
abbrev pub IsPlainLine : Line → Type 0
IsPlainLine [] = ⊥
IsPlainLine (w ∷ []) = IsPlain w
IsPlainLine (w ∷ v ∷ ws) = IsPlain w × IsPlainLine (v ∷ ws)

-- the first of more words, with what is behind the line
words_on : (w v : List ℕ) (ws : Line) (r : List ℕ)
    → line_text (w ∷ v ∷ ws) ++ r ≡ w ++ 32 ∷ (line_text (v ∷ ws) ++ r)
words_on w v ws r =
    ap (λ t. t ++ r) (append_assoc w (32 ∷ join_with_byte 32 (v ∷ ws)) (10 ∷ []))
    ∙ append_assoc w (32 ∷ line_text (v ∷ ws)) r

pub line_cut : (l m : Line) (r s : List ℕ) → IsPlainLine l → IsPlainLine m → line_text l ++ r ≡ line_text m ++ s
    → (l ≡ m) × (r ≡ s)
line_cut [] m r s p q e = absurd p
line_cut (w ∷ []) [] r s p q e = absurd q
line_cut (w ∷ w' ∷ ws) [] r s p q e = absurd q
line_cut (w ∷ []) (v ∷ []) r s p q e =
    let c = cut w v 10 10 r s p q (omega arith) (omega arith)
    (sym (append_assoc w (10 ∷ []) r) ∙ e ∙ append_assoc v (10 ∷ []) s) in
    (ap (λ (z : List ℕ). z ∷ []) c.0, c.2)
line_cut (w ∷ []) (v ∷ v' ∷ vs) r s p q e =
    let c = cut w v 10 32 r (line_text (v' ∷ vs) ++ s) p q.0 (omega arith) (omega arith)
    (sym (append_assoc w (10 ∷ []) r) ∙ e ∙ words_on v v' vs s) in
    absurd (omega (arith, c.1))
line_cut (w ∷ w' ∷ ws) (v ∷ []) r s p q e =
    let c = cut w v 32 10 (line_text (w' ∷ ws) ++ r) s p.0 q (omega arith) (omega arith)
    (sym (words_on w w' ws r) ∙ e ∙ append_assoc v (10 ∷ []) s) in
    absurd (omega (arith, c.1))
line_cut (w ∷ w' ∷ ws) (v ∷ v' ∷ vs) r s p q e =
    let c = cut w v 32 32 (line_text (w' ∷ ws) ++ r) (line_text (v' ∷ vs) ++ s) p.0 q.0 (omega arith) (omega arith)
    (sym (words_on w w' ws r) ∙ e ∙ words_on v v' vs s) in
    let rest = line_cut (w' ∷ ws) (v' ∷ vs) r s p.1 q.1 c.2 in
    (ap₂ (λ (z : List ℕ) zs. z ∷ zs) c.0 rest.0, rest.1)

line_has : (l : Line) → 0 < length (line_text l)
line_has l = omega (arith, length-append (join_with_byte 32 l) (10 ∷ []))

no_line : (l : Line) (r : List ℕ) → [] ≡ line_text l ++ r → ⊥
no_line l r e = let n : 0 ≡ length (line_text l ++ r) = ap length e in
    omega (arith, length-append (line_text l) r, line_has l)

abbrev pub ArePlain : List Line → Type 0
ArePlain [] = ⊤
ArePlain (l ∷ ls) = IsPlainLine l × ArePlain ls

-- a text has one list of lines
pub same_lines : (ls ms : List Line) → ArePlain ls → ArePlain ms → text_of ls ≡ text_of ms → ls ≡ ms
same_lines [] [] p q e = refl
same_lines [] (m ∷ ms) p q e = absurd (no_line m (text_of ms) e)
same_lines (l ∷ ls) [] p q e = absurd (no_line l (text_of ls) (sym e))
same_lines (l ∷ ls) (m ∷ ms) p q e =
    let c = line_cut l m (text_of ls) (text_of ms) p.0 q.0 e in
    ap₂ (λ (z : Line) zs. z ∷ zs) c.0 (same_lines ls ms p.1 q.1 c.1)

-- as many lines in front
pub lines_cut : (ls ms : List Line) (r s : List ℕ) → ArePlain ls → ArePlain ms → length ls ≡ length ms
    → text_of ls ++ r ≡ text_of ms ++ s → (ls ≡ ms) × (r ≡ s)
lines_cut [] [] r s p q h e = (refl, e)
lines_cut [] (m ∷ ms) r s p q h e = absurd (omega arith)
lines_cut (l ∷ ls) [] r s p q h e = absurd (omega arith)
lines_cut (l ∷ ls) (m ∷ ms) r s p q h e =
    let c = line_cut l m (text_of ls ++ r) (text_of ms ++ s) p.0 q.0
    (sym (append_assoc (line_text l) (text_of ls) r) ∙ e ∙ append_assoc (line_text m) (text_of ms) s) in
    let rest = lines_cut ls ms r s p.1 q.1 (omega (arith, h)) c.1 in
    (ap₂ (λ (z : Line) zs. z ∷ zs) c.0 rest.0, rest.1)

pub plain_append : (ls ms : List Line) → ArePlain ls → ArePlain ms → ArePlain (ls ++ ms)
plain_append [] ms p q = q
plain_append (l ∷ ls) ms p q = (p.0, plain_append ls ms p.1 q)

-- a list with a front of known length is cut in one way
pub same_front : (ls ms rs ss : List Line) → length ls ≡ length ms → ls ++ rs ≡ ms ++ ss → (ls ≡ ms) × (rs ≡ ss)
same_front [] [] rs ss h e = (refl, e)
same_front [] (m ∷ ms) rs ss h e = absurd (omega arith)
same_front (l ∷ ls) [] rs ss h e = absurd (omega arith)
same_front (l ∷ ls) (m ∷ ms) rs ss h e =
    let head : l ≡ m = cc in
    let tail : ls ++ rs ≡ ms ++ ss = cc in
    let rest = same_front ls ms rs ss (omega arith) tail in
    (ap₂ (λ (z : Line) zs. z ∷ zs) head rest.0, rest.1)

-- lines or bytes of things, one each

pub each_length : {L X : Type 0} (R : ℕ → L → X → Type 0) (k : ℕ) (ls : List L) (xs : List X) → EachAt R k ls xs
    → length ls ≡ length xs
each_length R k [] [] h = refl
each_length R k [] (x ∷ xs) h = absurd h
each_length R k (l ∷ ls) [] h = absurd h
each_length R k (l ∷ ls) (x ∷ xs) h = let e = each_length R (k + 1) ls xs h.1 in omega arith

pub each_plain : {X : Type 0} (R : ℕ → Line → X → Type 0) → ((k : ℕ) (l : Line) (x : X) → R k l x → IsPlainLine l)
    → (k : ℕ) (ls : List Line) (xs : List X) → EachAt R k ls xs → ArePlain ls
each_plain R plain k [] [] h = tt
each_plain R plain k [] (x ∷ xs) h = tt
each_plain R plain k (l ∷ ls) [] h = absurd h
each_plain R plain k (l ∷ ls) (x ∷ xs) h = (plain k l x h.0, each_plain R plain (k + 1) ls xs h.1)

-- what one form says of two things
pub each_zip : {L X : Type 0} (R Q : ℕ → L → X → Type 0) (P : X → X → Type 0)
    → ((k : ℕ) (l : L) (x y : X) → R k l x → Q k l y → P x y) → (k : ℕ) (ls : List L) (xs ys : List X)
    → EachAt R k ls xs → EachAt Q k ls ys → AllZip P xs ys
each_zip R Q P one k [] [] [] f g = tt
each_zip R Q P one k [] [] (y ∷ ys) f g = absurd g
each_zip R Q P one k [] (x ∷ xs) ys f g = absurd f
each_zip R Q P one k (l ∷ ls) [] ys f g = absurd f
each_zip R Q P one k (l ∷ ls) (x ∷ xs) [] f g = absurd g
each_zip R Q P one k (l ∷ ls) (x ∷ xs) (y ∷ ys) f g = (one k l x y f.0 g.0, each_zip R Q P one (k + 1) ls xs ys f.1 g.1)

-- one thing has one form
pub each_form : {L X : Type 0} (R : ℕ → L → X → Type 0) → ((k : ℕ) (l m : L) (x : X) → R k l x → R k m x → l ≡ m)
    → (k : ℕ) (ls ms : List L) (xs : List X) → EachAt R k ls xs → EachAt R k ms xs → ls ≡ ms
each_form R one k [] [] xs f g = refl
each_form R one k [] (m ∷ ms) [] f g = absurd g
each_form R one k [] (m ∷ ms) (x ∷ xs) f g = absurd f
each_form R one k (l ∷ ls) ms [] f g = absurd f
each_form R one k (l ∷ ls) [] (x ∷ xs) f g = absurd g
each_form {L} R one k (l ∷ ls) (m ∷ ms) (x ∷ xs) f g =
    ap₂ (λ (z : L) zs. z ∷ zs) (one k l m x f.0 g.0) (each_form R one (k + 1) ls ms xs f.1 g.1)

pub zip_both : {X : Type 0} (P Q : X → X → Type 0) → ((x y : X) → P x y → Q x y → x ≡ y) → (xs ys : List X)
    → AllZip P xs ys → AllZip Q xs ys → xs ≡ ys
zip_both P Q one [] [] f g = refl
zip_both P Q one [] (y ∷ ys) f g = absurd f
zip_both P Q one (x ∷ xs) [] f g = absurd f
zip_both {X} P Q one (x ∷ xs) (y ∷ ys) f g =
    ap₂ (λ (z : X) zs. z ∷ zs) (one x y f.0 g.0) (zip_both P Q one xs ys f.1 g.1)
