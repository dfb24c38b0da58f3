use Rattle.calculus.proofs.EndRows.{end_row_truth}
use Rattle.calculus.proofs.verdicts.end_rows_decide.Goals as goal

pub returns : goal.returns
returns c = end_row_truth
