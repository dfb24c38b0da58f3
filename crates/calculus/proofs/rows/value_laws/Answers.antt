use Rattle.std.proofs.Common.{refl}
use Rattle.calculus.proofs.TrailLaws.{extended_bad}
use Rattle.calculus.proofs.Badness.{extended_true, bad_clause, bad_cube, clean_clause, clean_cube}
use Rattle.calculus.proofs.Opposites.{cube_bad, opposite, satisfied}
use Rattle.calculus.proofs.rows.value_laws.Goals as goal

pub returns : goal.returns
returns c = record {
  extended_bad = extended_bad;
  extended_true = extended_true;
  bad_clause = bad_clause;
  bad_cube = bad_cube;
  clean_clause = clean_clause;
  clean_cube = clean_cube;
  total_bad = λ pivot values l. refl;
  true_in_cube = λ values l. cube_bad (values l.variable) l.positive l.variable;
  opposite = opposite;
  satisfied = satisfied;
}
