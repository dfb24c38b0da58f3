use Rattle.std.proofs.Common.{refl}
use Rattle.certcheck.proofs.worked.worked_checks.Goals as goal

pub returns : goal.returns
returns c = record {
  rows = refl;
  count = refl;
  of_constant = refl;
  of_true = refl;
  wins = refl;
  false_loses = refl;
  true_loses = refl;
  of_units = refl;
  one_clause = refl;
  units_win = refl;
  one_clause_loses = refl;
  of_none = refl;
  no_scope = refl;
  once = refl;
  few = refl;
  many = refl;
  of_assumed = refl;
}
