-- Bits that are kept in words of 64.
use Rattle.std.specs.Prelude.{◌≡◌, ℕ, ◌*◌, ◌/◌, ◌%◌, ◌≤◌, ◌==◌, Bool, false, List, length, map, slice_index_or}
use Rattle.std.specs.List.{range_with_len}
use Rattle.std.specs.Int.{bit_at}

-- whether a bit of words is set
abbrev pub bit_of : List ℕ → ℕ → Bool
bit_of words i = bit_at (slice_index_or words (i / 64) 0) (i % 64) == 1

-- the first bits of words
abbrev pub bits_of : List ℕ → ℕ → List Bool
bits_of words len = map (bit_of words) (range_with_len 0 len)

-- there are words for so many bits, and no bit behind them is set
pub record AreWords (words : List ℕ) (len : ℕ) : Type 0 where
  pub room : len ≤ 64 * length words
  pub rest : (i : ℕ) → len ≤ i → bit_of words i ≡ false
