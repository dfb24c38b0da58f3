use Rattle.calculus.proofs.Sound.{sound}
use Rattle.calculus.proofs.Levels.{first_depth}
use Rattle.calculus.proofs.FirstScope.{first_scope_value}
use Rattle.calculus.proofs.plays.last_steps_decide.Goals as goal

pub returns : goal.returns
unfolding sound
returns c pivot scopes clauses assumptions steps proof values x first = first_scope_value pivot scopes clauses
    assumptions steps (sound pivot scopes clauses assumptions steps proof) values x (first_depth scopes x first)
