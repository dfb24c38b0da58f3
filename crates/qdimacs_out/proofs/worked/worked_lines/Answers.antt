use Rattle.std.proofs.Common.{refl}
use Rattle.std.specs.Fmt.{digits}
use Rattle.qdimacs_out.proofs.worked.worked_lines.Goals as goal

pub returns : goal.returns
unfolding digits
returns c = record {
  positive = refl;
  negative = refl;
  header = refl;
  scope = refl;
  empty_scope = refl;
  clause = refl;
  empty_clause = refl;
}
