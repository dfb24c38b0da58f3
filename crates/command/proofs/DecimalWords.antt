-- The words that are numbers in decimal, and words without a first hyphen, as `clap` takes them.
use Rattle.std.proofs.Common.{◌≡◌, ◌≢◌, ◌<◌, ◌≤◌, ◌^◌, ◌==◌, ℕ, true, false, [], ◌∷◌, Some, slice_get, slice_index, decimal, unwrap_or, refl, sym, ap, subst, inl, arith, ne_eqb}
use Rattle.std.specs.Str.Parse.{IsNumeral, digits_value}
use Rattle.std.proofs.lemmas.Fmt.{decimal_is_IsNumeral}
use Rattle.std.proofs.lemmas.Str.Parse.{without_leading_plus_none}
use Rattle.clap.specs.Words.{Text}
use Rattle.clap.specs.ValueTests.{accepts}
use Rattle.clap.specs.declared.builder.ValueParser.TheVariants.{Unsigned}
use Rattle.clap.proofs.ValueTestLemmas.{Accepts-accepts}
use Rattle.command.specs.Forms.{IsBetween}
use Rattle.command.proofs.NumberLemmas.{decimal_is_bare, first_of_decimal}
use Rattle.command.proofs.Turns.{IsPlainWord}

-- a word that doesn't begin with a hyphen is no flag
pub plain_word : (w : Text) → slice_get w 0 ≢ Some 45 → IsPlainWord w
plain_word [] h = record { dashes = refl; long = refl; short = inl refl }
plain_word (x ∷ xs) h =
    let no_hyphen : (x == 45) ≡ false = ne_eqb x 45 (λ e. h (ap (λ n. Some n) e)) in
    record { dashes = rw no_hyphen refl; long = rw no_hyphen refl; short = inl (rw no_hyphen refl) }

not_hyphen : (w : Text) → 47 < slice_index w 0 → slice_get w 0 ≢ Some 45
not_hyphen [] h e = absurd (omega (arith, h))
not_hyphen (x ∷ xs) h e = let is : x ≡ 45 = ap (λ o. unwrap_or o 0) e in omega (arith, h, is)

pub decimal_word : (n : ℕ) → n < 2 ^ 64 → IsPlainWord (decimal n)
decimal_word n small = plain_word (decimal n) (not_hyphen (decimal n) (first_of_decimal n small))

-- `clap` takes the decimal text of a number from the least to the most
pub decimal_passes : (least most n : ℕ) → most < 2 ^ 64 → IsBetween least most n
    → accepts false (Unsigned least most) (decimal n) ≡ true
decimal_passes least most n top between =
    let small : n < 2 ^ 64 = omega (arith, top, between.1) in
    let whole = without_leading_plus_none (decimal n) (decimal_is_bare n small).0 in
    let numeral = decimal_is_IsNumeral n small in
    let value : digits_value 10 (decimal n) ≡ n = numeral.1 in
    let reads = λ (t : Text). IsNumeral 10 t × (digits_value 10 t < 2 ^ 64) × (least ≤ digits_value 10 t)
    × (digits_value 10 t ≤ most) in
    Accepts-accepts false (Unsigned least most) (decimal n) (subst reads (sym whole)
    (numeral.0, omega (arith, value, small), omega (arith, value, between.0), omega (arith, value, between.1)))
