-- What is kept of a word is enough to tell what it is.
use Rattle.std.proofs.Common.{◌≡◌, ℕ, zero, suc, ◌+◌, ◌-◌, ◌*◌, ◌^◌, ◌<◌, ◌≤◌, Bool, true, false, not, ◌&&◌, ◌||◌, List, [], ◌∷◌, ◌++◌, length, map, take, Option, None, Some, refl, sym, ap, ◌∙◌, arith, length-append, length-take}
use Rattle.std.specs.Prelude.{◌==◌, nat_le, nat_lt, if◌then◌else◌, unwrap_or}
use Rattle.std.specs.List.{list_all, list_any}
use Rattle.std.specs.Str.Parse.{digits_value}
use Rattle.std.specs.Char.{digit_value}
use Rattle.std.proofs.lemmas.List.Folds.{list_all-append, list_any-append}
use Rattle.std.proofs.lemmas.Bool.{eqb-true, leb-true, leb-false}
use Rattle.std.proofs.lemmas.Bool.Decides.{nat_tests}
use Rattle.std.proofs.lemmas.Int.Digits.{digits_value_push}
use Rattle.std.proofs.lemmas.Str.{digit_value_digit}
use Rattle.lexer.specs.declared.token.Comments.{Comments}
use Rattle.lexer.specs.declared.token.Comments.TheVariants.{Dimacs, Script, Hash}
use Rattle.lexer.specs.declared.token.Word.TheVariants.{Num, Text, Other}
use Rattle.lexer.specs.declared.scan.Shape.{Shape}
use Rattle.lexer.specs.declared.scan.Shape.TheVariants.{Empty, Minus, Digits, NoNumber}
use Rattle.lexer.specs.declared.scan.Scan.{Scan}
use Rattle.lexer.specs.Words.{Item, word, bad_byte, too_long, number_range, Seen, byte, beyond, is_plain, is_digit, are_digits, number_of, signed, text_of, classified, bytes_of, fault_of, item_of, begins_comment}
use Rattle.lexer.specs.Scan.{capped, digits_begun, shape_after, scan_after, scanned_text, scanned_number, scanned_shape, scanned}

-- the shape of a whole word
abbrev pub digits_shape : Bool → List ℕ → Shape
digits_shape negative ds = if list_all is_digit ds then Digits negative (capped (digits_value 10 ds)) else NoNumber

abbrev pub first_shape : Bool → ℕ → List ℕ → Shape
first_shape true b [] = Minus
first_shape true b (d ∷ ds) = digits_shape true (d ∷ ds)
first_shape false b bs = digits_shape false (b ∷ bs)

abbrev pub shape_of : List ℕ → Shape
shape_of [] = Empty
shape_of (b ∷ bs) = first_shape (b == 45) b bs

abbrev pub scan_of : List ℕ → Scan
scan_of w = record {
  text = take 16 w;
  is_long = nat_lt 16 (length w);
  is_bad = list_any (λ b. not (is_plain b)) w;
  shape = shape_of w;
}

both : (a b : Bool) → (a && b) ≡ true → (a ≡ true) × (b ≡ true)
both true b h = (refl, h)
both false b h = cc

digit_range : (b : ℕ) → is_digit b ≡ true → (48 ≤ b) × (b ≤ 57)
digit_range b h = let parts : (nat_le 48 b ≡ true) × (nat_le b 57 ≡ true) = both (nat_le 48 b) (nat_le b 57) h in
    (leb-true 48 b parts.0, leb-true b 57 parts.1)

digit_is : (b : ℕ) → is_digit b ≡ true → digit_value b ≡ b - 48
digit_is b h = let r : (48 ≤ b) × (b ≤ 57) = digit_range b h in omega (arith, digit_value_digit b r)

-- one digit
one_digit : (t : Bool) (negative : Bool) (b : ℕ) → is_digit b ≡ t → digits_shape negative (b ∷ []) ≡ digits_begun
    negative t (b - 48)
one_digit true negative b h =
    let r : (48 ≤ b) × (b ≤ 57) = digit_range b h in
    let d : digit_value b ≡ b - 48 = digit_is b h in
    let v : capped (0 * 10 + digit_value b) ≡ b - 48 = omega (arith, d) in
    ap (λ t. if t && true then Digits negative (capped (digits_value 10 (b ∷ []))) else NoNumber) h
    ∙ ap (λ n. Digits negative n) v
one_digit false negative b h =
    ap (λ t. if t && true then Digits negative (capped (digits_value 10 (b ∷ []))) else NoNumber) h

-- a further digit
capped_step : (v d : ℕ) → capped (v * 10 + d) ≡ capped (capped (capped v * 10) + d)
capped_step v d = omega arith

more_digits : (t u : Bool) (negative : Bool) (ds : List ℕ) (b : ℕ) → list_all is_digit ds ≡ t → is_digit b ≡ u
    → digits_shape negative (ds ++ b ∷ []) ≡ shape_after (digits_shape negative ds) b
more_digits t u negative ds b e h =
    let all : list_all is_digit (ds ++ b ∷ []) ≡ (t && (u && true)) = list_all-append is_digit ds (b ∷ [])
    ∙ ap (λ x. x && (is_digit b && true)) e ∙ ap (λ x. t && (x && true)) h in
    ap (λ x. if x then Digits negative (capped (digits_value 10 (ds ++ b ∷ []))) else NoNumber) all
    ∙ more t u h
    ∙ ap (λ x. shape_after (if x then Digits negative (capped (digits_value 10 ds)) else NoNumber) b) (sym e)
  where
    more : (t u : Bool) → is_digit b ≡ u
        → (if t && (u && true) then Digits negative (capped (digits_value 10 (ds ++ b ∷ []))) else NoNumber) ≡
        shape_after (if t then Digits negative (capped (digits_value 10 ds)) else NoNumber) b
    more true true h =
        ap (λ n. Digits negative n)
        (ap capped (digits_value_push 10 ds b ∙ ap (λ d. digits_value 10 ds * 10 + d) (digit_is b h))
        ∙ capped_step (digits_value 10 ds) (b - 48))
        ∙ ap (λ x. digits_begun negative x (capped (capped (capped (digits_value 10 ds) * 10) + (b - 48)))) (sym h)
    more true false h =
        ap (λ x. digits_begun negative x (capped (capped (capped (digits_value 10 ds) * 10) + (b - 48)))) (sym h)
    more false u h = refl

shape_first : (t : Bool) (b : ℕ) → (b == 45) ≡ t → first_shape t b [] ≡
    (if t then Minus else digits_begun false (is_digit b) (b - 48))
shape_first true b e = refl
shape_first false b e = one_digit (is_digit b) false b refl

shape_more : (t : Bool) (a : ℕ) (w : List ℕ) (b : ℕ) → first_shape t a (w ++ b ∷ []) ≡ shape_after (first_shape t a w) b
shape_more true a [] b = one_digit (is_digit b) true b refl
shape_more true a (d ∷ ds) b = more_digits (list_all is_digit (d ∷ ds)) (is_digit b) true (d ∷ ds) b refl refl
shape_more false a w b = more_digits (list_all is_digit (a ∷ w)) (is_digit b) false (a ∷ w) b refl refl

shape_step : (w : List ℕ) (b : ℕ) → shape_of (w ++ b ∷ []) ≡ shape_after (shape_of w) b
shape_step [] b = shape_first (b == 45) b refl
shape_step (a ∷ w) b = shape_more (a == 45) a w b

text_step : (n : ℕ) (w : List ℕ) (b : ℕ) → take n (w ++ b ∷ []) ≡ take n (take n w ++ b ∷ [])
text_step zero w b = refl
text_step (suc n) [] b = refl
text_step (suc n) (a ∷ w) b = ap (λ r. a ∷ r) (text_step n w b)

long_step : (n : ℕ) (w : List ℕ) (b : ℕ) → nat_lt n (length (w ++ b ∷ [])) ≡
    (nat_lt n (length w) || (length (take n w) == n))
long_step n w b = rw (length-append w (b ∷ []), length-take n w) (grind (arith, nat_tests))

bad_step : (w : List ℕ) (b : ℕ) → list_any (λ b. not (is_plain b)) (w ++ b ∷ []) ≡
    (list_any (λ b. not (is_plain b)) w || not (is_plain b))
bad_step w b = list_any-append (λ b. not (is_plain b)) w (b ∷ []) ∙ ap (λ x. list_any (λ b. not (is_plain b)) w || x)
    (or_nil (not (is_plain b)))
  where
    or_nil : (x : Bool) → (x || false) ≡ x
    or_nil true = refl
    or_nil false = refl

-- one more byte of a word
pub scan_step : (w : List ℕ) (b : ℕ) → scan_of (w ++ b ∷ []) ≡ scan_after (scan_of w) b
scan_step w b =
    let texts : take 16 (w ++ b ∷ []) ≡ take 16 (take 16 w ++ b ∷ []) = text_step 16 w b in
    let longs : nat_lt 16 (length (w ++ b ∷ [])) ≡ (nat_lt 16 (length w) || (length (take 16 w) == 16)) =
    long_step 16 w b in
    let bads : list_any (λ b. not (is_plain b)) (w ++ b ∷ []) ≡ (list_any (λ b. not (is_plain b)) w || not (is_plain b))
    = bad_step w b in
    let shapes : shape_of (w ++ b ∷ []) ≡ shape_after (shape_of w) b = shape_step w b in
    rw (texts, longs, bads, shapes) refl

-- what a word is, from what is kept of it

pub bytes_again : (w : List ℕ) → bytes_of (map byte w) ≡ w
bytes_again [] = refl
bytes_again (b ∷ w) = ap (λ r. b ∷ r) (bytes_again w)

fault_or : (t : Bool) (n b : ℕ) (bs : List Seen) (rest : Bool) (o : Option Item)
    → fault_of n bs ≡ (if rest then Some (bad_byte n) else o)
    → (if t then fault_of n bs else Some (bad_byte n)) ≡ (if not t || rest then Some (bad_byte n) else o)
fault_or true n b bs rest o e = e
fault_or false n b bs rest o e = refl

-- the fault of a word, and of one that goes on beyond the limit
pub fault_found : (n : ℕ) (w : List ℕ) → fault_of n (map byte w) ≡
    (if list_any (λ b. not (is_plain b)) w then Some (bad_byte n) else None)
fault_found n [] = refl
fault_found n (b ∷ w) = fault_or (is_plain b) n b (map byte w) (list_any (λ b. not (is_plain b)) w) None
    (fault_found n w)

pub fault_beyond : (n : ℕ) (w : List ℕ) → fault_of n (map byte w ++ beyond ∷ []) ≡
    (if list_any (λ b. not (is_plain b)) w then Some (bad_byte n) else Some (too_long n))
fault_beyond n [] = refl
fault_beyond n (b ∷ w) = fault_or (is_plain b) n b (map byte w ++ beyond ∷ []) (list_any (λ b. not (is_plain b)) w)
    (Some (too_long n)) (fault_beyond n w)

-- a text
text_whole : (w : List ℕ) (t : Bool) → nat_le (length w) 16 ≡ t → (if t then Text w else Other) ≡
    (if not t then Other else Text (take 16 w))
text_whole w true e = ap Text (sym (take_all 16 w (leb-true (length w) 16 e)))
  where
    take_all : (n : ℕ) (w : List ℕ) → length w ≤ n → take n w ≡ w
    take_all zero [] le = refl
    take_all zero (b ∷ w) le = absurd (omega arith)
    take_all (suc n) [] le = refl
    take_all (suc n) (b ∷ w) le = ap (λ r. b ∷ r) (take_all n w (omega arith))
text_whole w false e = refl

pub text_kept : (w : List ℕ) → text_of w ≡ (if nat_lt 16 (length w) then Other else Text (take 16 w))
text_kept w =
    let flip : not (nat_le (length w) 16) ≡ nat_lt 16 (length w) = grind (arith, nat_tests) in
    text_whole w (nat_le (length w) 16) refl ∙ ap (λ t. if t then Other else Text (take 16 w)) flip

as_text : (n : ℕ) (w : List ℕ) → word (record { word = text_of w; line = n }) ≡ scanned_text n (scan_of w)
as_text n w = ap (λ v. word (record { word = v; line = n })) (text_kept w)

-- a number
abbrev value_or : ℕ → Bool → ℕ → Item
value_or n positive v = if nat_le v (2 ^ 63 - 1) then word (record { word = Num (signed positive v); line = n }) else
    number_range n

value_capped : (t : Bool) (n : ℕ) (positive : Bool) (v : ℕ) → nat_le v (2 ^ 63 - 1) ≡ t
    → value_or n positive v ≡ value_or n positive (capped v)
value_capped true n positive v e = let same : capped v ≡ v =
    (let le : v ≤ 2 ^ 63 - 1 = leb-true v (2 ^ 63 - 1) e in omega arith) in rw same refl
value_capped false n positive v e =
    let lt : 2 ^ 63 - 1 < v = leb-false v (2 ^ 63 - 1) e in
    let off : nat_le (capped v) (2 ^ 63 - 1) ≡ false =
    (let le : 2 ^ 63 - 1 < capped v = omega arith in grind (arith, nat_tests)) in
    rw (e, off) refl

positive_number : (t : Bool) (n : ℕ) (w : List ℕ) → list_all is_digit w ≡ t
    → classified n w (if t then Some (true, digits_value 10 w) else None) ≡ scanned_shape n (scan_of w)
    (if t then Digits false (capped (digits_value 10 w)) else NoNumber)
positive_number true n w e = value_capped (nat_le (digits_value 10 w) (2 ^ 63 - 1)) n true (digits_value 10 w) refl
positive_number false n w e = as_text n w

negative_value : (z : Bool) (n v : ℕ) (w : List ℕ) → (v == 0) ≡ z
    → classified n w (if not z then Some (false, v) else None) ≡
    (if z then scanned_text n (scan_of w) else scanned_number n true (capped v))
negative_value true n v w e = as_text n w
negative_value false n v w e = value_capped (nat_le v (2 ^ 63 - 1)) n false v refl

capped_zero : (v : ℕ) → (capped v == 0) ≡ (v == 0)
capped_zero v = grind (arith, nat_tests)

positive_test : (v : ℕ) → nat_lt 0 v ≡ not (v == 0)
positive_test v = grind (arith, nat_tests)

negative_number : (t : Bool) (n v : ℕ) (w : List ℕ)
    → classified n w (if t && nat_lt 0 v then Some (false, v) else None) ≡ scanned_shape n (scan_of w)
    (if t then Digits true (capped v) else NoNumber)
negative_number true n v w =
    ap (λ x. classified n w (if x then Some (false, v) else None)) (positive_test v)
    ∙ negative_value (v == 0) n v w refl
    ∙ ap (λ x. if x then scanned_text n (scan_of w) else scanned_number n true (capped v)) (sym (capped_zero v))
negative_number false n v w = as_text n w

minus_no_digit : (b : ℕ) → (b == 45) ≡ true → is_digit b ≡ false
minus_no_digit b e = let at : b ≡ 45 = eqb-true b 45 e in rw at refl

some_length : (b : ℕ) (w : List ℕ) → nat_lt 0 (length (b ∷ w)) ≡ true
some_length b w = grind (arith, nat_tests)

are_digits_is : (b : ℕ) (w : List ℕ) → are_digits (b ∷ w) ≡ list_all is_digit (b ∷ w)
are_digits_is b w = ap (λ x. x && list_all is_digit (b ∷ w)) (some_length b w)

-- a choice of the number, by the tests
abbrev number_by : Bool → Bool → ℕ → ℕ → Option (Bool × ℕ)
number_by p m v u = if p then Some (true, v) else if m then Some (false, u) else None

no_digits : (b : ℕ) (w : List ℕ) → (b == 45) ≡ true → are_digits (b ∷ w) ≡ false
no_digits b w e = are_digits_is b w ∙ ap (λ x. x && list_all is_digit w) (minus_no_digit b e)

classified_is : (m : Bool) (n b : ℕ) (w : List ℕ) → (b == 45) ≡ m → classified n (b ∷ w)
    (number_of (b ∷ w)) ≡ scanned_shape n (scan_of (b ∷ w)) (first_shape m b w)
classified_is true n b [] e =
    ap (λ p. classified n (b ∷ []) (number_by p ((b == 45) && are_digits [] && nat_lt 0 (digits_value 10 []))
    (digits_value 10 (b ∷ [])) (digits_value 10 []))) (no_digits b [] e)
    ∙ ap (λ m. classified n (b ∷ []) (number_by false (m && are_digits [] && nat_lt 0 (digits_value 10 []))
    (digits_value 10 (b ∷ [])) (digits_value 10 []))) e
    ∙ as_text n (b ∷ [])
classified_is true n b (d ∷ ds) e =
    ap (λ p. classified n (b ∷ d ∷ ds)
    (number_by p ((b == 45) && are_digits (d ∷ ds) && nat_lt 0 (digits_value 10 (d ∷ ds)))
    (digits_value 10 (b ∷ d ∷ ds)) (digits_value 10 (d ∷ ds)))) (no_digits b (d ∷ ds) e)
    ∙ ap (λ m. classified n (b ∷ d ∷ ds)
    (number_by false (m && are_digits (d ∷ ds) && nat_lt 0 (digits_value 10 (d ∷ ds)))
    (digits_value 10 (b ∷ d ∷ ds)) (digits_value 10 (d ∷ ds)))) e
    ∙ ap (λ q. classified n (b ∷ d ∷ ds)
    (number_by false (q && nat_lt 0 (digits_value 10 (d ∷ ds))) (digits_value 10 (b ∷ d ∷ ds))
    (digits_value 10 (d ∷ ds)))) (are_digits_is d ds)
    ∙ negative_number (list_all is_digit (d ∷ ds)) n (digits_value 10 (d ∷ ds)) (b ∷ d ∷ ds)
classified_is false n b w e =
    ap (λ p. classified n (b ∷ w) (number_by p ((b == 45) && are_digits w && nat_lt 0 (digits_value 10 w))
    (digits_value 10 (b ∷ w)) (digits_value 10 w))) (are_digits_is b w)
    ∙ ap (λ m. classified n (b ∷ w)
    (number_by (list_all is_digit (b ∷ w)) (m && are_digits w && nat_lt 0 (digits_value 10 w))
    (digits_value 10 (b ∷ w)) (digits_value 10 w))) e
    ∙ positive_number (list_all is_digit (b ∷ w)) n (b ∷ w) refl

item_or : (t : Bool) (n : ℕ) (item : Item) → unwrap_or (if t then Some (bad_byte n) else None) item ≡
    (if t then bad_byte n else item)
item_or true n item = refl
item_or false n item = refl

-- the item of a word
pub item_scanned : (n b : ℕ) (w : List ℕ) → item_of n (map byte (b ∷ w)) ≡ scanned n (scan_of (b ∷ w))
item_scanned n b w =
    ap (λ bytes. unwrap_or (fault_of n (map byte (b ∷ w))) (classified n bytes (number_of bytes))) (bytes_again (b ∷ w))
    ∙ ap (λ fault. unwrap_or fault (classified n (b ∷ w) (number_of (b ∷ w)))) (fault_found n (b ∷ w))
    ∙ item_or (list_any (λ b. not (is_plain b)) (b ∷ w)) n (classified n (b ∷ w) (number_of (b ∷ w)))
    ∙ ap (λ item. if list_any (λ b. not (is_plain b)) (b ∷ w) then bad_byte n else item)
    (classified_is (b == 45) n b w refl)

cut_or : (t : Bool) (n : ℕ) (item : Item) → unwrap_or (if t then Some (bad_byte n) else Some (too_long n)) item ≡
    (if t then bad_byte n else too_long n)
cut_or true n item = refl
cut_or false n item = refl

-- the item of a word that goes on beyond the limit
pub item_cut : (n : ℕ) (w : List ℕ) → item_of n (map byte w ++ beyond ∷ []) ≡
    (if (scan_of w).is_bad then bad_byte n else too_long n)
item_cut n w =
    ap (λ fault. unwrap_or fault
    (classified n (bytes_of (map byte w ++ beyond ∷ [])) (number_of (bytes_of (map byte w ++ beyond ∷ [])))))
    (fault_beyond n w)
    ∙ cut_or (list_any (λ b. not (is_plain b)) w) n
    (classified n (bytes_of (map byte w ++ beyond ∷ [])) (number_of (bytes_of (map byte w ++ beyond ∷ []))))

-- whether it begins a comment
pub begins_kept : (c : Comments) (w : List ℕ) → begins_comment c (map byte w) ≡ begins_comment c (map byte (take 16 w))
begins_kept Dimacs [] = refl
begins_kept Dimacs (b ∷ w) = refl
begins_kept Script [] = refl
begins_kept Script (b ∷ []) = refl
begins_kept Script (b ∷ d ∷ w) = refl
begins_kept Hash [] = refl
begins_kept Hash (b ∷ w) = refl

pub begins_cut_kept : (c : Comments) (w : List ℕ) → begins_comment c (map byte w ++ beyond ∷ []) ≡ begins_comment c
    (map byte (take 16 w) ++ beyond ∷ [])
begins_cut_kept Dimacs [] = refl
begins_cut_kept Dimacs (b ∷ w) = refl
begins_cut_kept Script [] = refl
begins_cut_kept Script (b ∷ []) = refl
begins_cut_kept Script (b ∷ d ∷ w) = refl
begins_cut_kept Hash [] = refl
begins_cut_kept Hash (b ∷ w) = refl
