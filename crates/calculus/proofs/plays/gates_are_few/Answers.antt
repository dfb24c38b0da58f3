use Rattle.std.proofs.Common.{[]}
use Rattle.calculus.proofs.Lists.{contains_nil}
use Rattle.calculus.proofs.Sound.{sound}
use Rattle.calculus.proofs.Sizes.{gate_weight_most}
use Rattle.calculus.proofs.plays.gates_are_few.Goals as goal

pub returns : goal.returns
returns c pivot scopes clauses assumptions steps proof =
    let s = sound pivot scopes clauses assumptions steps proof in
    gate_weight_most pivot scopes clauses assumptions [] (λ r i. absurd (contains_nil r i)) steps s.last_step
