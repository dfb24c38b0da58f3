use Rattle.std.proofs.Common.{refl}
use Rattle.calculus.proofs.worked.worked_truths.Goals as goal

pub returns : goal.returns
returns c = record {
  universal_then_existential_is_true = refl;
  existential_then_universal_is_false = refl;
  empty_formula_is_true = refl;
  empty_clause_is_false = refl;
  tautologies_are_no_matter = refl;
  assumed_universal = refl;
  unassumed_universal = refl;
  assumed_against = refl;
  conjunction_gate = refl;
  steps_tried = refl;
}
