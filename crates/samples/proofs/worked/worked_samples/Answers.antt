use Rattle.std.proofs.Common.{◌≡◌, [], codes, refl, arith}
use Rattle.std.specs.Fmt.{digits}
use Rattle.generate.specs.Draws.{state_at}
use Rattle.samples.proofs.worked.worked_samples.Goals as goal

pub returns : goal.returns
unfolding state_at digits
returns c = record {
  first = refl;
  eleventh = refl;
  last = refl;
  true_first = refl;
  two_true = refl;
  none_false = refl;
  text = refl;
  lines = refl;
  whole = (refl, refl);
  other_status = λ h. absurd (let e : 10 ≡ 0 = h.0 in omega (arith, e));
  part = record { count = 1; within = omega arith; appended = refl };
  not_kept = λ h. absurd (let e : codes "ab" ≡ [] = h in cc);
  unread = λ h. h;
}
