use Rattle.cover.proofs.Working.{cover_rows}
use Rattle.cover.proofs.worked.worked_rows.Goals as goal

pub returns : goal.returns
returns c = cover_rows
