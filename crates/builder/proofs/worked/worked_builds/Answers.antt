use Rattle.std.proofs.Common.{◌≡◌, ◌^◌, ◌≤◌, [], Some, None, refl, arith}
use Rattle.builder.specs.declared.beyond.Beyond.TheVariants.{Clauses}
use Rattle.builder.specs.Building.{AreFew}
use Rattle.builder.specs.Worked.{rows}
use Rattle.builder.proofs.Finishing.{many_clauses, many_literals}
use Rattle.builder.proofs.worked.worked_builds.Goals as goal

rows_few : AreFew rows
rows_few = (let low : 2 ≤ 2 ^ 24 = omega arith in low, let low : 2 ≤ 2 ^ 28 = omega arith in low)

pub returns : goal.returns
returns c = record {
  first = refl;
  not_first = refl;
  sorted = refl;
  amount = refl;
  few = rows_few;
  kept = record { count = refl; amount = refl; rows = λ few. refl };
  miscounted = λ b. let e : 4 ≡ 2 = b.amount in omega (arith, e);
  unkept = λ b. let e : [] ≡ rows = b.rows rows_few in cc;
  none = record { count = refl; amount = refl; rows = λ few. refl };
  counted = record { count = omega arith; amount = omega arith };
  uncounted = λ b. let e : 2 ≤ 1 = b.amount in omega (arith, e);
  finished = (refl, refl);
  within = λ e. let f : None ≡ Some Clauses = e in cc;
  no_limit = refl;
  more_clauses = many_clauses;
  more_literals = many_literals;
  small = refl;
  great = refl;
}
