use Rattle.std.proofs.Common.{refl}
use Rattle.qbf_c.proofs.worked.worked_codes.Goals as goal

pub returns : goal.returns
returns c = record {
  no_frame = refl;
  group_frame = refl;
  memory = refl;
  no_verdict = refl;
  not_winner = refl;
  not_false = refl;
  spent = λ account. refl;
  unasked = refl;
  unsolved = refl;
  yes = refl;
  no = refl;
  universal = refl;
  existential = refl;
  one = refl;
  zero = refl;
  last = refl;
  third = refl;
  first_version = refl;
  second_version = refl;
  third_version = refl;
  no_version = refl;
  fourth_version = refl;
  no_scope = refl;
}
