-- Decimal texts, without a sign or a needless zero.
use Rattle.std.proofs.Common.{◌≡◌, ◌≢◌, ◌∙◌, ℕ, zero, suc, ◌<◌, ◌^◌, List, length, slice_index, Result, Ok, Err, MatchResult, decimal, refl, sym, ap, subst, arith}
use Rattle.std.specs.Str.Parse.{AllDigits, IsNumeral, ParsesUnsigned, digits_value}
use Rattle.std.proofs.lemmas.Str.Parse.{numerals_by_value, tells_digits, without_leading_plus_none}
use Rattle.std.proofs.lemmas.Fmt.{decimal-digits_value, decimal_is_IsNumeral, first_decimal, decimal_digit}

-- no plus and no needless zero at the front
abbrev pub IsBare : List ℕ → Type 0
IsBare bs = (slice_index bs 0 ≢ 43) × (slice_index bs 0 ≡ 48 → length bs ≡ 1)

pub decimal_is_bare : (n : ℕ) → n < 2 ^ 64 → IsBare (decimal n)
decimal_is_bare zero small = subst IsBare (sym (decimal_digit 0 (omega arith))) (λ e. omega (arith, e), λ _. refl)
decimal_is_bare (suc n) small =
    let first : 48 < slice_index (decimal (suc n)) 0 = first_decimal (suc n) (omega arith) small in
    (λ e. omega (arith, first, e), λ e. absurd (omega (arith, first, e)))

-- its first byte is a digit
pub first_of_decimal : (n : ℕ) → n < 2 ^ 64 → 47 < slice_index (decimal n) 0
first_of_decimal zero small = subst (λ t. 47 < slice_index t 0) (sym (decimal_digit 0 (omega arith))) (omega arith)
first_of_decimal (suc n) small =
    let first : 48 < slice_index (decimal (suc n)) 0 = first_decimal (suc n) (omega arith) small in
    omega (arith, first)

pub parsed_is_decimal : {E : Type 0} (bs : List ℕ) (r : Result ℕ E) → IsBare bs → ParsesUnsigned 64 10 bs r
    → MatchResult r (λ n. bs ≡ decimal n) (λ _. (n : ℕ) → n < 2 ^ 64 → bs ≢ decimal n)
parsed_is_decimal bs (Ok n) bare h =
    let whole = without_leading_plus_none bs bare.0 in
    let numeral : IsNumeral 10 bs = subst (IsNumeral 10) whole h.0.0 in
    let value : n ≡ digits_value 10 bs = h.1 ∙ ap (digits_value 10) whole in
    let small : digits_value 10 bs < 2 ^ 64 = subst (λ t. digits_value 10 t < 2 ^ 64) whole h.0.1 in
    let tells = numerals_by_value (AllDigits 10) tells_digits in
    sym (ap decimal value ∙ decimal-digits_value tells bs numeral.1 numeral.0 bare.1 small)
parsed_is_decimal bs (Err e) bare h = λ n small is.
    let numeral = decimal_is_IsNumeral n small in
    let whole = without_leading_plus_none bs bare.0 ∙ is in
    let below : digits_value 10 (decimal n) < 2 ^ 64 = subst (λ k. k < 2 ^ 64) (sym numeral.1) small in
    h (subst (IsNumeral 10) (sym whole) numeral.0, subst (λ t. digits_value 10 t < 2 ^ 64) (sym whole) below)
