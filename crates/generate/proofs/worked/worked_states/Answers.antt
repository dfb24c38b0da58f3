use Rattle.std.proofs.Common.{refl}
use Rattle.generate.specs.Draws.{state_at}
use Rattle.generate.proofs.worked.worked_states.Goals as goal

pub returns : goal.returns
unfolding state_at
returns c = record { states = refl; quotients = refl; start = refl; seed_wraps = refl; first_draws = refl }
