use Rattle.calculus.proofs.Opposites.{bad_reduced, unit_reduced}
use Rattle.calculus.proofs.rows.reductions_keep_unit.Goals as goal

pub returns : goal.returns
returns c = record { bad = bad_reduced; unit = unit_reduced }
