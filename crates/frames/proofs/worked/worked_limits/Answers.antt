use Rattle.std.proofs.Common.{◌≡◌, ℕ, ◌+◌, true, false, ◌||◌, length, refl}
use Rattle.std.specs.Prelude.{nat_le, nat_lt}
use Rattle.frames.proofs.worked.worked_limits.Goals as goal

last : (count all : ℕ) → count ≡ 16777215 → all ≡ 268435450 → (nat_le 16777216 count || nat_lt 268435456 (all + 6))
    ≡ false
last count all e f = rw (e, f) refl

full : (count all : ℕ) → count ≡ 16777216 → (nat_le 16777216 count || nat_lt 268435456 (all + 0)) ≡ true
full count all e = rw e refl

pub returns : goal.returns
returns c = record {
  pushed = refl;
  clauses = refl;
  literals = refl;
  last_literal = refl;
  one_literal_more = refl;
  last_beside_two = refl;
  more_beside_two = refl;
  last_row = λ rows e f. last (length rows) _ e f;
  one_row_more = λ rows e. full (length rows) _ e;
}
