use Rattle.std.proofs.Common.{◌≡◌, ◌<◌, ℕ, List, get_or, refl, sym, ap, arith}
use Rattle.std.specs.Fmt.{digits}
use Rattle.qdimacs_out.proofs.worked.worked_texts.Goals as goal

apart : (m n : ℕ) → m < n → m ≡ n → ⊥
apart m n h e = omega arith

-- the byte at a place
byte_at : ℕ → List ℕ → ℕ
byte_at i t = get_or t i 0

pub returns : goal.returns
unfolding digits byte_at
returns c = record {
  of_smallest = refl;
  of_two_clauses = refl;
  of_nothing = refl;
  other_numbers = λ e. apart 49 51 (omega arith) (sym (ap (byte_at 6) e));
  no_zero = λ e. apart 10 32 (omega arith) (sym (ap (byte_at 13) e));
  other_sign = λ e. apart 45 49 (omega arith) (ap (byte_at 28) e);
  other_quantifier = λ e. apart 97 101 (omega arith) (sym (ap (byte_at 10) e));
  cut = λ e. apart 0 45 (omega arith) (sym (ap (byte_at 28) e));
}
