use Rattle.std.proofs.Common.{refl}
use Rattle.generate.specs.Draws.{state_at}
use Rattle.generate.proofs.worked.worked_formulas.Goals as goal

pub returns : goal.returns
unfolding state_at
returns c = record { of_seed_0 = refl; of_seed_1 = refl; no_clause = refl }
