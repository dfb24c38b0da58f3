-- The number that stands for a literal in memory.
use Rattle.std.specs.Prelude.{◌≡◌, refl, ℕ, zero, suc, ◌+◌, ◌*◌, ◌/◌, ◌%◌, ◌==◌, ◌<◌, if◌then◌else◌}
use Rattle.std.proofs.Common.{ap, ◌∙◌, mod-lt, zero-lt-suc, not-suc-le-zero, le_of_suc-le-suc}
use Rattle.std.proofs.Math.Nat.{div-add-mod}
use Rattle.prefix.specs.Literal.{Literal}

-- the code of a literal: twice its variable's number, and one more where it is positive
abbrev pub code_of : Literal → ℕ
code_of l = 2 * l.variable + (if l.positive then 1 else 0)

-- a number below 2 is the bit that it is
bit_is : (r : ℕ) → r < 2 → (if r == 1 then 1 else 0) ≡ r
bit_is zero h = refl
bit_is (suc zero) h = refl
bit_is (suc (suc r)) h = absurd (not-suc-le-zero (le_of_suc-le-suc (le_of_suc-le-suc h)))

-- a code is that of its half and its last bit
pub code-halves : (c : ℕ) → 2 * (c / 2) + (if c % 2 == 1 then 1 else 0) ≡ c
code-halves c = ap (λ r. 2 * (c / 2) + r) (bit_is (c % 2) (mod-lt c (zero-lt-suc 1))) ∙ div-add-mod c 2
