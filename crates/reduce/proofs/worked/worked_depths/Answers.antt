use Rattle.std.proofs.Common.{◌≡◌, ℕ, ◌||◌, not, nat_lt, false, refl, arith}
use Rattle.std.proofs.lemmas.Bool.{true≢false}
use Rattle.std.proofs.lemmas.Bool.Decides.{nat_tests}
use Rattle.reduce.proofs.worked.worked_depths.Goals as goal

four_last : (d : ℕ) → (not (nat_lt 2 d) || (not (nat_lt 4 d) || false)) ≡ not (nat_lt 4 d)
four_last d = grind (arith, nat_tests)

pub returns : goal.returns
returns c = record {
  goes = refl;
  smaller = refl;
  existential_one = refl;
  same_depth = refl;
  no_depth = refl;
  too_small = refl;
  deepest = four_last;
  not_deepest = λ is. true≢false (is 4);
  deeper = refl;
  not_deeper = refl;
  universal_one = refl;
  kept = refl;
  not_kept = refl;
  alone = refl;
}
