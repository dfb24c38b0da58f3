use Rattle.calculus.proofs.WorkingSearch.{clean_rows}
use Rattle.calculus.proofs.worked.worked_clean_rows.Goals as goal

pub returns : goal.returns
returns c pivot = clean_rows pivot
