-- Words and what they are.
use Rattle.std.proofs.Common.{◌≡◌, ℕ, suc, ◌-◌, ◌^◌, ◌≤◌, ◌<◌, ℤ, pos, negsuc, nat_abs, Bool, true, false, ◌&&◌, List, [], ◌∷◌, length, map, Some, None, refl, ap, ap₂, ◌∙◌, arith}
use Rattle.std.specs.Prelude.{◌==◌, codes, if◌then◌else◌, nat_le, nat_lt, unwrap_or}
use Rattle.std.specs.List.{AllByRecursion, list_all}
use Rattle.std.specs.Fmt.{decimal, signed_decimal}
use Rattle.std.specs.Str.Parse.{AllDigits, IsNumeral, digits_value}
use Rattle.std.proofs.lemmas.Bool.Decides.{nat_tests}
use Rattle.std.proofs.lemmas.Fmt.{decimal_is_IsNumeral}
use Rattle.std.proofs.lemmas.Str.Parse.{digit_from_value}
use Rattle.lexer.specs.declared.token.Comments.TheVariants.{Dimacs}
use Rattle.lexer.specs.declared.token.Word.{Word}
use Rattle.lexer.specs.declared.token.Word.TheVariants.{Num, Text}
use Rattle.lexer.specs.Words.{are_digits, bad_byte, begins_comment, byte, classified, fault_of, is_digit, is_plain, item_of, number_of, number_range, word}
use Rattle.lexer.proofs.Scans.{bytes_again}
use Rattle.qdimacs_out.proofs.Parting.{IsPlain}

-- a word of these bytes is this
pub record Spells (w : List ℕ) (x : Word) : Type 0 where
  pub plain : IsPlain w
  pub is : (line : ℕ) → classified line w (number_of w) ≡ word (record { word = x; line = line })

faultless : (line : ℕ) (w : List ℕ) → AllByRecursion (λ b. is_plain b ≡ true) w → fault_of line (map byte w) ≡ None
faultless line [] h = refl
faultless line (b ∷ w) h = ap (λ p. if p then fault_of line (map byte w) else Some (bad_byte line)) h.0
    ∙ faultless line w h.1

-- its item
pub item_is : (line : ℕ) (w : List ℕ) (x : Word) → Spells w x
    → item_of line (map byte w) ≡ word (record { word = x; line = line })
item_is line w x s =
    ap₂ unwrap_or (faultless line w s.plain.plain)
    (ap (λ bs. classified line bs (number_of bs)) (bytes_again w) ∙ s.is line)

-- digits

digit_bounds : (c : ℕ) (cs : List ℕ) → AllDigits 10 (c ∷ cs) → (48 ≤ c) × (c ≤ 57)
digit_bounds c cs h = digit_from_value c h.0

digits_plain : (ds : List ℕ) → AllDigits 10 ds → AllByRecursion (λ b. is_plain b ≡ true) ds
digits_plain [] h = tt
digits_plain (d ∷ ds) h =
    let low : 48 ≤ d = (digit_bounds d ds h).0 in
    let high : d ≤ 57 = (digit_bounds d ds h).1 in
    (grind (arith, nat_tests, low, high), digits_plain ds h.1)

digits_all : (ds : List ℕ) → AllDigits 10 ds → list_all is_digit ds ≡ true
digits_all [] h = refl
digits_all (d ∷ ds) h =
    let low : 48 ≤ d = (digit_bounds d ds h).0 in
    let high : d ≤ 57 = (digit_bounds d ds h).1 in
    let here : is_digit d ≡ true = grind (arith, nat_tests, low, high) in
    ap₂ (λ a b. a && b) here (digits_all ds h.1)

digits_are : (ds : List ℕ) → IsNumeral 10 ds → are_digits ds ≡ true
digits_are ds h =
    let some : 0 < length ds = h.0 in
    let long : nat_lt 0 (length ds) ≡ true = grind (arith, nat_tests, some) in
    ap₂ (λ a b. a && b) long (digits_all ds h.1)

digits_number : (ds : List ℕ) → IsNumeral 10 ds → number_of ds ≡ Some (true, digits_value 10 ds)
digits_number [] h = absurd (omega (arith, h.0))
digits_number (d ∷ ds) h =
    ap (λ a. if a then Some (true, digits_value 10 (d ∷ ds))
    else if (d == 45) && are_digits ds && nat_lt 0 (digits_value 10 ds) then Some
    (false, digits_value 10 ds) else None)
    (digits_are (d ∷ ds) h)

and_false : (a b : Bool) → (a && (false && b)) ≡ false
and_false true b = refl
and_false false b = refl

minus_number : (ds : List ℕ) → IsNumeral 10 ds → 0 < digits_value 10 ds
    → number_of (45 ∷ ds) ≡ Some (false, digits_value 10 ds)
minus_number ds h some =
    let value : nat_lt 0 (digits_value 10 ds) ≡ true = grind (arith, nat_tests, some) in
    ap (λ a. if a then Some (true, digits_value 10 (45 ∷ ds))
    else if (45 == 45) && are_digits ds && nat_lt 0 (digits_value 10 ds) then Some
    (false, digits_value 10 ds) else None)
    (and_false (nat_lt 0 (suc (length ds))) (list_all is_digit ds))
    ∙ ap₂ (λ a b. if a && b then Some (false, digits_value 10 ds) else None) (digits_are ds h) value

in_range : (n : ℕ) → n < 2 ^ 63 → nat_le n (2 ^ 63 - 1) ≡ true
in_range n h = grind (arith, nat_tests, h)

natural : (line n : ℕ) (ds : List ℕ) → n < 2 ^ 63 → IsNumeral 10 ds → digits_value 10 ds ≡ n
    → classified line ds (number_of ds) ≡ word (record { word = Num (pos n); line = line })
natural line n ds low h is =
    ap (classified line ds) (digits_number ds h ∙ ap (λ k. Some (true, k)) is)
    ∙ ap (λ t. if t then word (record { word = Num (pos n); line = line }) else number_range line) (in_range n low)

negative : (line n : ℕ) (ds : List ℕ) → suc n < 2 ^ 63 → IsNumeral 10 ds → digits_value 10 ds ≡ suc n
    → classified line (45 ∷ ds) (number_of (45 ∷ ds)) ≡ word (record { word = Num (negsuc n); line = line })
negative line n ds low h is =
    ap (classified line (45 ∷ ds)) (minus_number ds h (omega (arith, is)) ∙ ap (λ k. Some (false, k)) is)
    ∙ ap (λ t. if t then word (record { word = Num (negsuc n); line = line }) else number_range line)
    (in_range (suc n) low)

numeral_plain : (ds : List ℕ) → IsNumeral 10 ds → IsPlain ds
numeral_plain ds h = record { some = h.0; plain = digits_plain ds h.1 }

pub decimal_spells : (n : ℕ) → n < 2 ^ 63 → Spells (decimal n) (Num (pos n))
decimal_spells n low =
    let numeral = decimal_is_IsNumeral n (omega arith) in
    record {
      plain = numeral_plain (decimal n) numeral.0;
      is = λ line. natural line n (decimal n) low numeral.0 numeral.1;
    }

-- integers of which the magnitude is below 2^63
pub signed_spells : (z : ℤ) → nat_abs z < 2 ^ 63 → Spells (signed_decimal z) (Num z)
signed_spells (pos n) low = decimal_spells n low
signed_spells (negsuc n) low =
    let numeral = decimal_is_IsNumeral (suc n) (omega arith) in
    let plain = numeral_plain (decimal (suc n)) numeral.0 in
    record {
      plain = record { some = omega arith; plain = (refl, plain.plain) };
      is = λ line. negative line n (decimal (suc n)) low numeral.0 numeral.1;
    }

-- no number begins a comment

digits_begin : (ds : List ℕ) → IsNumeral 10 ds → begins_comment Dimacs (map byte ds) ≡ false
digits_begin [] h = refl
digits_begin (d ∷ ds) h =
    let high : d ≤ 57 = (digit_bounds d ds h.1).1 in
    grind (arith, nat_tests, high)

pub signed_begins : (z : ℤ) → nat_abs z < 2 ^ 63 → begins_comment Dimacs (map byte (signed_decimal z)) ≡ false
signed_begins (pos n) low = digits_begin (decimal n) (decimal_is_IsNumeral n (omega arith)).0
signed_begins (negsuc n) low = refl

-- the words of texts
pub p_spells : Spells (codes "p") (Text (codes "p"))
p_spells = record { plain = record { some = omega arith; plain = (refl, tt) }; is = λ line. refl }

pub cnf_spells : Spells (codes "cnf") (Text (codes "cnf"))
cnf_spells = record { plain = record { some = omega arith; plain = (refl, (refl, (refl, tt))) }; is = λ line. refl }

pub e_spells : Spells (codes "e") (Text (codes "e"))
e_spells = record { plain = record { some = omega arith; plain = (refl, tt) }; is = λ line. refl }

pub a_spells : Spells (codes "a") (Text (codes "a"))
a_spells = record { plain = record { some = omega arith; plain = (refl, tt) }; is = λ line. refl }

pub zero_spells : Spells (codes "0") (Num (pos 0))
zero_spells = record { plain = record { some = omega arith; plain = (refl, tt) }; is = λ line. refl }
