-- Bits in words, read and set.
use Rattle.std.proofs.Common.{◌≡◌, ◌≢◌, ℕ, zero, suc, ◌+◌, ◌*◌, ◌-◌, ◌/◌, ◌%◌, ◌^◌, ◌<◌, ◌≤◌, Bool, true, false, List, [], ◌∷◌, ◌++◌, length, replicate, get_or, set, refl, sym, ap, ◌∙◌, ⊎_elim, arith}
use Rattle.std.specs.Prelude.{◌==◌}
use Rattle.std.specs.Int.{bit_at}
use Rattle.std.specs.Int.RustNames.{bit_or}
use Rattle.std.proofs.lemmas.Bool.{cases_eq, cases_lt}
use Rattle.std.proofs.lemmas.List.{get_or_append_left, get_or-append_right, get_or_past, get_or-replicate, get_or-set_same, get_or-set_other, length-append, length-replicate, length-set, same_lists}
use Rattle.std.proofs.lemmas.List.FromFn.{get_or-map-range_with_len, length-map-range_with_len}
use Rattle.std.proofs.lemmas.Nat.Bits.{bit_at-zero, bit_at_set_same, bit_at_set_other}
use mir.Syntax.{w64}
use Rattle.pages.specs.Words.{AreWords, bit_of, bits_of}

pub length_bits : (words : List ℕ) (len : ℕ) → length (bits_of words len) ≡ len
length_bits words len = length-map-range_with_len (bit_of words) 0 len

pub bits_at : (words : List ℕ) (len i : ℕ) (d : Bool) → i < len → get_or (bits_of words len) i d ≡ bit_of words i
bits_at words len i d low = get_or-map-range_with_len (bit_of words) 0 len i i d low (omega arith)

-- words with one bit more

module _ (words : List ℕ) (i : ℕ) (within : i / 64 < length words) where
  abbrev word : ℕ
  word = bit_or (get_or words (i / 64) 0) (1 * 2 ^ (i % 64) % 2 ^ 64)

  pub set_here : bit_of (set words (i / 64) word) i ≡ true
  set_here = ap (λ (w : ℕ). bit_at w (i % 64) == 1) (get_or-set_same words (i / 64) word 0 within)
      ∙ ap (λ (b : ℕ). b == 1) (bit_at_set_same w64 (get_or words (i / 64) 0) (i % 64) (omega arith))

  pub set_elsewhere : (k : ℕ) → k ≢ i → bit_of (set words (i / 64) word) k ≡ bit_of words k
  set_elsewhere k differs = ⊎_elim
      (λ (same : k / 64 ≡ i / 64).
      let other : k % 64 ≢ i % 64 = λ e. differs (omega arith) in
      ap (λ (w : ℕ). bit_at w (k % 64) == 1) (ap (λ (q : ℕ). get_or (set words (i / 64) word) q 0) same
      ∙ get_or-set_same words (i / 64) word 0 within)
      ∙ (ap (λ (b : ℕ). b == 1) (bit_at_set_other w64 (get_or words (i / 64) 0) (i % 64) (omega arith) (k % 64) other)
      ∙ ap (λ (q : ℕ). bit_at (get_or words q 0) (k % 64) == 1) (sym same)))
      (λ (other : k / 64 ≢ i / 64). ap (λ (w : ℕ). bit_at w (k % 64) == 1) (get_or-set_other words (i / 64)
      (k / 64) word 0 other))
      (cases_eq (k / 64) (i / 64))

  pub words_set : (len : ℕ) → AreWords words len → i < len → AreWords (set words (i / 64) word) len
  words_set len are low = record {
    room = (let l = length-set words (i / 64) word in let r = are.room in omega arith);
    rest = λ k high. set_elsewhere k (λ e. absurd (omega arith)) ∙ are.rest k high;
  }

  pub bits_set : (len : ℕ) → i < len → bits_of (set words (i / 64) word) len ≡ set (bits_of words len) i true
  bits_set len low = same_lists (bits_of (set words (i / 64) word) len) (set (bits_of words len) i true)
      (length_bits (set words (i / 64) word) len ∙ sym (length-set (bits_of words len) i true ∙ length_bits words len))
      (λ k d below. read k d (let l = length_bits (set words (i / 64) word) len in omega arith))
    where
      read : (k : ℕ) (d : Bool) → k < len → get_or (bits_of (set words (i / 64) word) len) k d ≡ get_or (set
          (bits_of words len) i true) k d
      read k d below = bits_at (set words (i / 64) word) len k d below ∙ ⊎_elim
          (λ (same : k ≡ i). ap (bit_of (set words (i / 64) word)) same ∙ (set_here
          ∙ sym (ap (λ (j : ℕ). get_or (set (bits_of words len) i true) j d) same
          ∙ get_or-set_same (bits_of words len) i true d (let l = length_bits words len in omega arith))))
          (λ (other : k ≢ i). set_elsewhere k other ∙ sym (get_or-set_other (bits_of words len) i k true d other
          ∙ bits_at words len k d below))
          (cases_eq k i)

-- words of zero

zero_at : (n i : ℕ) → ◌≡◌ {A = ℕ} (get_or (replicate n 0) i 0) 0
zero_at n i = ⊎_elim (λ (low : i < n). get_or-replicate n i 0 0 low)
    (λ (high : n ≤ i). get_or_past (replicate n 0) i 0 (let l = length-replicate {A =
    ℕ} n 0 in omega arith)) (cases_lt i n)

none_set : (n i : ℕ) → bit_of (replicate n 0) i ≡ false
none_set n i = ap (λ (w : ℕ). bit_at w (i % 64) == 1) (zero_at n (i / 64))
    ∙ ap (λ (b : ℕ). b == 1) (bit_at-zero (i % 64))

pub words_clear : (n len : ℕ) → len ≤ 64 * n → AreWords (replicate n 0) len
words_clear n len room = record {
  room = (let l = length-replicate {A = ℕ} n 0 in omega arith);
  rest =
      λ i high. none_set n i;
}

pub bits_clear : (n len : ℕ) → bits_of (replicate n 0) len ≡ replicate len false
bits_clear n len = same_lists (bits_of (replicate n 0) len) (replicate len false)
    (length_bits (replicate n 0) len ∙ sym (length-replicate len false))
    (λ k d below. let low : k < len = (let l = length_bits (replicate n 0) len in omega arith) in
    bits_at (replicate n 0) len k d low ∙ (none_set n k ∙ sym (get_or-replicate len k false d low)))

-- more words of zero

more_at : (words : List ℕ) (n i : ℕ) → bit_of (words ++ replicate n 0) i ≡ bit_of words i
more_at words n i = ap (λ (w : ℕ). bit_at w (i % 64) == 1) (⊎_elim
    (λ (low : i / 64 < length words). get_or_append_left words (replicate n 0) 0 (i / 64) low)
    (λ (high : length words ≤ i / 64). get_or-append_right words (replicate n 0) (length words) (i / 64) 0 refl high
    ∙ (zero_at n (i / 64 - length words) ∙ sym (get_or_past words (i / 64) 0 high)))
    (cases_lt (i / 64) (length words)))

pub words_more : (words : List ℕ) (len n count : ℕ) → AreWords words len → len ≤ count → count ≤ 64 * (length words + n)
    → AreWords (words ++ replicate n 0) count
words_more words len n count are more room = record {
  room = (let a = length-append words (replicate n 0) in let l = length-replicate {A = ℕ} n 0 in omega arith);
  rest = λ i high. more_at words n i ∙ are.rest i (omega arith);
}

pub bits_more : (words : List ℕ) (len n count : ℕ) → AreWords words len → len ≤ count
    → bits_of (words ++ replicate n 0) count ≡ bits_of words len ++ replicate (count - len) false
bits_more words len n count are more = same_lists (bits_of (words ++ replicate n 0) count)
    (bits_of words len ++ replicate (count - len) false)
    (let a = length_bits (words ++ replicate n 0) count in
    let b = length-append (bits_of words len) (replicate (count - len) false) in
    let l = length_bits words len in
    let r = length-replicate (count - len) false in omega arith)
    (λ k d below. read k d (let a = length_bits (words ++ replicate n 0) count in omega arith))
  where
    read : (k : ℕ) (d : Bool) → k < count → get_or (bits_of (words ++ replicate n 0) count) k d ≡ get_or
        (bits_of words len ++ replicate (count - len) false) k d
    read k d below = bits_at (words ++ replicate n 0) count k d below ∙ (more_at words n k ∙ ⊎_elim
        (λ (low : k < len). sym (get_or_append_left (bits_of words len) (replicate (count - len) false) d k (let l =
        length_bits words len in omega arith)
        ∙ bits_at words len k d low))
        (λ (high : len ≤ k). are.rest k high ∙ sym (get_or-append_right (bits_of words len) (replicate
        (count - len) false) len k d (length_bits words len) high
        ∙ get_or-replicate (count - len) (k - len) false d (omega arith)))
        (cases_lt k len))

-- a word that is read, whatever is read where there is none
pub is_word : (words : List ℕ) (q w : ℕ) → q < length words → w ≡ get_or words q w → w ≡ get_or words q 0
is_word words q w low e = e ∙ other words q low
  where
    other : (xs : List ℕ) (k : ℕ) → k < length xs → get_or xs k w ≡ get_or xs k 0
    other [] k h = absurd (omega arith)
    other (x ∷ xs) zero h = refl
    other (x ∷ xs) (suc k) h = other xs k (omega arith)
