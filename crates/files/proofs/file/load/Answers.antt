use Rattle.std.proofs.Common.{refl}
use Rattle.files.proofs.file.load.Goals as goal

pub returns-clause-formula : goal.returns-clause-formula
returns-clause-formula g c = (
  c.in_ok-f.f,
  c.in_ok-engine.ensures,
  record { vars = refl; clauses = refl },
  c.in_ok-f.ensures.formula,
)
