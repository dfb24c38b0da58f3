use Rattle.std.proofs.Common.{◌≡◌, ℕ, zero, suc, ◌<◌, ◌≤◌, get_or, refl, inl, inr, ⊎_elim, arith}
use Rattle.pages.specs.Worked.{places}
use Rattle.pages.proofs.worked.worked_pages.Goals as goal

not_zero : (n : ℕ) → suc n ≡ 0 → ⊥
not_zero n e = omega arith

-- what stands between two places
one_to_three : (i : ℕ) → 1 ≤ i → i < 3 → get_or places i 0 ≡ 0
one_to_three zero a b = absurd (omega arith)
one_to_three (suc zero) a b = refl
one_to_three (suc (suc zero)) a b = refl
one_to_three (suc (suc (suc i))) a b = absurd (omega arith)

pub returns : goal.returns
returns c = record {
  first = record { behind = omega arith; there = omega arith; filled = not_zero 6; between = one_to_three };
  blank = λ f. f.filled refl;
  later = λ f. not_zero 6 (f.between 3 (omega arith) (omega arith));
  in_front = λ f. let b = f.behind in omega arith;
  here = record {
    behind = omega arith;
    there = omega arith;
    filled = not_zero 6;
    between =
        λ i a b. absurd (omega arith);
  };
  last = record {
    before = omega arith;
    there = omega arith;
    filled = not_zero 6;
    between =
        λ i a b. absurd (omega arith);
  };
  other_last = record {
    before = omega arith;
    there = omega arith;
    filled = not_zero 4;
    between =
        λ i a b. one_to_three i (omega arith) b;
  };
  not_itself = λ l. let b = l.before in omega arith;
  not_last = λ l. not_zero 8 (l.between 4 (omega arith) (omega arith));
  filled_up = refl;
  all_blank = refl;
  list = refl;
  full = (refl, omega arith);
  first_short = λ f. let e = f.0 in omega arith;
  last_long = λ f. let e : 3 ≤ 2 = f in omega arith;
  ends = inl (refl, omega arith);
  ends_before = λ e. ⊎_elim (λ l. let h = l.0 in omega arith) (λ r. let h = r.0 in omega arith) e;
  begins = inr (refl, refl);
}
