-- Numbers drawn by a linear congruential generator. The multiplier, the increment and the divisor of what is drawn are
-- those of the example of `rand` in the C standard (ISO/IEC 9899:1999, 7.20.2); the modulus is 2^31.
use Rattle.std.specs.Prelude.{ℕ, zero, suc, ◌+◌, ◌*◌, ◌/◌, ◌%◌, ◌^◌}

-- the state that a seed begins with
abbrev pub start_of : ℕ → ℕ
start_of seed = seed % 2 ^ 31

-- the state that follows another
abbrev pub following : ℕ → ℕ
following state = (state * 1103515245 + 12345) % 2 ^ 31

-- the sequence of states from a start; number 0 is the start itself
unfoldable pub state_at : ℕ → ℕ → ℕ
state_at start zero = start
state_at start (suc n) = following (state_at start n)

-- the draw with number n, counted from 0, of a number below m
abbrev pub drawn : ℕ → ℕ → ℕ → ℕ
drawn start n m = (state_at start (n + 1) / 65536) % m
