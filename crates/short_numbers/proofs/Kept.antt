-- What short and long numbers stand for, place by place.
use Rattle.std.proofs.Common.{◌≡◌, ◌≢◌, ℕ, suc, zero, ◌<◌, ◌≤◌, List, [], ◌∷◌, ◌++◌, length, replicate, take, get_or, set, Some, None, refl, ap, arith}
use Rattle.std.proofs.lemmas.Bool.Decides.{nat_tests}
use Rattle.short_numbers.specs.Kept.{for_long, for_none, number_of, numbers_of}

-- a small number stands for itself
pub short_alone : (n m : ℕ) → n < for_long → number_of n m ≡ Some n
short_alone n m h = grind (arith, nat_tests)

-- the one that doesn't, but for none
pub long_alone : (n m : ℕ) → for_long ≤ n → n < 4294967296 → n ≢ for_none → number_of n m ≡ Some m
long_alone n m h fits differs = grind (arith, nat_tests)

-- there is a place for each short number
pub numbers_length : (shorts longs : List ℕ) → length (numbers_of shorts longs) ≡ length shorts
numbers_length [] longs = refl
numbers_length (short ∷ shorts) [] = ap suc (numbers_length shorts [])
numbers_length (short ∷ shorts) (long ∷ longs) = ap suc (numbers_length shorts longs)

-- what stands at a place
pub number_at : (shorts longs : List ℕ) (i : ℕ) → get_or (numbers_of shorts longs) i None
    ≡ number_of (get_or shorts i for_none) (get_or longs i 0)
number_at [] longs i = refl
number_at (short ∷ shorts) [] zero = refl
number_at (short ∷ shorts) [] (suc i) = number_at shorts [] i
number_at (short ∷ shorts) (long ∷ longs) zero = refl
number_at (short ∷ shorts) (long ∷ longs) (suc i) = number_at shorts longs i

-- another short number
pub short_set : (shorts longs : List ℕ) (i n : ℕ) → numbers_of (set shorts i n) longs
    ≡ set (numbers_of shorts longs) i (number_of n (get_or longs i 0))
short_set [] longs i n = refl
short_set (short ∷ shorts) [] zero n = refl
short_set (short ∷ shorts) [] (suc i) n = ap (λ ns. number_of short 0 ∷ ns) (short_set shorts [] i n)
short_set (short ∷ shorts) (long ∷ longs) zero n = refl
short_set (short ∷ shorts) (long ∷ longs) (suc i) n =
    ap (λ ns. number_of short long ∷ ns) (short_set shorts longs i n)

-- another short number with its long one
pub long_set : (shorts longs : List ℕ) (i n m : ℕ) → i < length longs → numbers_of (set shorts i n) (set longs i m)
    ≡ set (numbers_of shorts longs) i (number_of n m)
long_set [] longs i n m h = refl
long_set (short ∷ shorts) [] i n m h = absurd (omega arith)
long_set (short ∷ shorts) (long ∷ longs) zero n m h = refl
long_set (short ∷ shorts) (long ∷ longs) (suc i) n m h =
    ap (λ ns. number_of short long ∷ ns) (long_set shorts longs i n m (omega arith))

-- long numbers of 0 behind the others say nothing
pub zeros_behind : (shorts longs : List ℕ) (count : ℕ) → numbers_of shorts (longs ++ replicate count 0)
    ≡ numbers_of shorts longs
zeros_behind [] longs count = refl
zeros_behind (short ∷ shorts) [] zero = refl
zeros_behind (short ∷ shorts) [] (suc count) = ap (λ ns. number_of short 0 ∷ ns) (zeros_behind shorts [] count)
zeros_behind (short ∷ shorts) (long ∷ longs) count =
    ap (λ ns. number_of short long ∷ ns) (zeros_behind shorts longs count)

-- places of no number behind the others
pub none_behind : (shorts longs : List ℕ) (count : ℕ) → numbers_of (shorts ++ replicate count for_none) longs
    ≡ numbers_of shorts longs ++ replicate count None
none_behind [] longs zero = refl
none_behind [] [] (suc count) = ap (λ ns. None ∷ ns) (none_behind [] [] count)
none_behind [] (long ∷ longs) (suc count) = ap (λ ns. None ∷ ns) (none_behind [] longs count)
none_behind (short ∷ shorts) [] count = ap (λ ns. number_of short 0 ∷ ns) (none_behind shorts [] count)
none_behind (short ∷ shorts) (long ∷ longs) count =
    ap (λ ns. number_of short long ∷ ns) (none_behind shorts longs count)

-- the first ones
pub first_ones : (shorts longs : List ℕ) (count : ℕ) → numbers_of (take count shorts) (take count longs)
    ≡ take count (numbers_of shorts longs)
first_ones shorts longs zero = refl
first_ones [] longs (suc count) = refl
first_ones (short ∷ shorts) [] (suc count) =
    ap (λ ns. number_of short 0 ∷ ns) (first_ones_short shorts count)
  where
    first_ones_short : (shorts : List ℕ) (count : ℕ) → numbers_of (take count shorts) []
        ≡ take count (numbers_of shorts [])
    first_ones_short shorts zero = refl
    first_ones_short [] (suc count) = refl
    first_ones_short (short ∷ shorts) (suc count) =
        ap (λ ns. number_of short 0 ∷ ns) (first_ones_short shorts count)
first_ones (short ∷ shorts) (long ∷ longs) (suc count) =
    ap (λ ns. number_of short long ∷ ns) (first_ones shorts longs count)
