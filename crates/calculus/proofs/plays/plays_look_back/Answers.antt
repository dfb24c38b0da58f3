use Rattle.calculus.proofs.Sound.{sound}
use Rattle.calculus.proofs.Values.{earlier_alone}
use Rattle.calculus.proofs.plays.plays_look_back.Goals as goal

pub returns : goal.returns
returns c pivot scopes clauses assumptions steps v w x outer proof plays_v plays_w i q agree =
    let s = sound pivot scopes clauses assumptions steps proof in
    earlier_alone pivot scopes clauses assumptions steps outer s.last_step v w plays_v plays_w x i q agree
