use Rattle.std.proofs.Common.{inl, inr, refl, arith}
use Rattle.builder.proofs.Working.{new_ones, no_one, other_front, repeated_one, taken_one}
use Rattle.builder.proofs.worked.worked_scopes.Goals as goal

pub returns : goal.returns
returns c = record {
  scope = refl;
  new = new_ones;
  repeated = repeated_one;
  taken = taken_one;
  no_variable = no_one;
  same = inl refl;
  first = inr (1, omega arith, refl);
  not_second = other_front;
}
