use Rattle.std.proofs.Common.{◌≡◌, ◌≤◌, Some, None, arith, refl}
use Rattle.engine.specs.State.{VerdictState}
use Rattle.engine.proofs.worked.worked_engines.Goals as goal

apart : (v : VerdictState) → None ≡ Some v → ⊥
apart v e = absurd (cc)

pub returns : goal.returns
returns c = record {
  one = refl;
  stays = refl;
  clauses = refl;
  solves = refl;
  dropped = refl;
  counted = refl;
  forgot = refl;
  kept = refl;
  back = refl;
  back_stays = refl;
  first_frame = refl;
  second_frame = refl;
  no_frame = refl;
  popped = refl;
  active = refl;
  inactive = refl;
  no_group = refl;
  frame_below = refl;
  last_frame = refl;
  first_tag = refl;
  in_frame = refl;
  in_group = refl;
  in_none = refl;
  under_one = refl;
  refuted = refl;
  whole = refl;
  finish = refl;
  cube_finish = refl;
  removals = refl;
  finishes = refl;
  reductions = refl;
  none_long = refl;
  some_long = refl;
  first_rows = refl;
  some_rows = refl;
  least_rows = (omega arith, omega arith);
  most_rows = (omega arith, omega arith);
  too_few_rows = λ h. absurd (let low : 16 ≤ 15 = h.0 in omega (arith, low));
  too_many_rows = λ h. absurd (let high : 16777217 ≤ 16777216 = h.1 in omega (arith, high));
  none = λ f v p. apart p.state p.there;
}
