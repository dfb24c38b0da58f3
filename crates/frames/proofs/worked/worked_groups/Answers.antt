use Rattle.std.proofs.Common.{◌≡◌, ℕ, ◌+◌, ◌||◌, length, refl}
use Rattle.std.specs.Prelude.{Some, if◌then◌else◌, nat_le, nat_lt, None}
use Rattle.frames.specs.declared.refusal.FrameRefusal.TheVariants.{Limit}
use Rattle.frames.proofs.worked.worked_groups.Goals as goal

refused : (clauses literals : ℕ) → clauses ≡ 16777216
    → (if nat_le 16777216 clauses || nat_lt 268435456 (literals + 0) then Some Limit else None) ≡ Some Limit
refused clauses literals e = rw e refl

pub returns : goal.returns
returns c = record {
  groups = refl;
  current = refl;
  others = refl;
  all_open = refl;
  turned_inactive = refl;
  none_current = refl;
  part_open = refl;
  all = refl;
  again = refl;
  left = refl;
  of_active = refl;
  of_inactive = refl;
  of_all = refl;
  second = refl;
  no_third = refl;
  there = refl;
  not_there = refl;
  first_active = refl;
  second_inactive = refl;
  third_inactive = refl;
  of_second = refl;
  no_clauses = refl;
  between = refl;
  in_front = refl;
  behind = refl;
  stays = refl;
  turned = refl;
  turned_off = refl;
  joined = refl;
  lowest = refl;
  zero = refl;
  highest = refl;
  beyond = refl;
  counted = refl;
  returned = refl;
  stayed = refl;
  changed = refl;
  closed = refl;
  unchanged = refl;
  none_open = refl;
  zero_group = refl;
  far_group = refl;
  two_open = refl;
  in_frame = refl;
  turned_zero = refl;
  no_group = refl;
  turned_open = refl;
  off_zero = refl;
  no_group_off = refl;
  off_open = refl;
  pushed_open = refl;
  full = λ s e. refused (length _) _ e;
}
