use Rattle.calculus.proofs.Sound.{sound}
use Rattle.calculus.proofs.Values.{first_values_truth, following_first, outermost_order}
use Rattle.calculus.proofs.verdicts.first_values_decide.Goals as goal

pub returns : goal.returns
returns c pivot scopes clauses assumptions steps values distinct outer proof winners follows =
    let s = sound pivot scopes clauses assumptions steps proof in
    first_values_truth pivot scopes clauses assumptions steps values distinct outer s winners
    (following_first pivot scopes clauses assumptions steps values outer s.last_step
    (λ x i. (outermost_order scopes x i, winners x i)) follows)
