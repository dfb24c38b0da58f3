use Rattle.std.proofs.Common.{[]}
use Rattle.calculus.proofs.Lists.{contains_nil}
use Rattle.calculus.proofs.Sound.{sound}
use Rattle.calculus.proofs.Sizes.{gate_weight_most, bounded_weight}
use Rattle.calculus.proofs.plays.gates_are_bounded.Goals as goal

pub returns : goal.returns
returns c pivot scopes clauses assumptions steps accepted solves budget restarts n proof within few =
    let s = sound pivot scopes clauses assumptions steps proof in
    bounded_weight _ _ _ _ _ (gate_weight_most pivot scopes clauses assumptions [] (λ r i. absurd (contains_nil r i))
    steps s.last_step) within few
