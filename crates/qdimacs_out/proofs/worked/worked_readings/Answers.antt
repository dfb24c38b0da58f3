use Rattle.std.proofs.Common.{refl}
use Rattle.std.specs.Fmt.{digits}
use Rattle.qdimacs.specs.Worked.{smallest, two_clauses}
use Rattle.qdimacs.proofs.Outcomes.{computed_reads}
use Rattle.qdimacs_out.specs.Texts.{formula_text}
use Rattle.qdimacs_out.specs.Worked.{falling_clause, hollow, neighbours, nothing, too_many, undeclared}
use Rattle.qdimacs_out.proofs.worked.worked_readings.Goals as goal

pub returns : goal.returns
unfolding digits
returns c = record {
  of_smallest = computed_reads (formula_text smallest) _ refl;
  of_two_clauses = computed_reads (formula_text two_clauses) _ refl;
  of_nothing = computed_reads (formula_text nothing) _ refl;
  of_neighbours = computed_reads (formula_text neighbours) _ refl;
  of_hollow = computed_reads (formula_text hollow) _ refl;
  of_falling_clause = computed_reads (formula_text falling_clause) _ refl;
  of_undeclared = computed_reads (formula_text undeclared) _ refl;
  of_too_many = computed_reads (formula_text too_many) _ refl;
}
