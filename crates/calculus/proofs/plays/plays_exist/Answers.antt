use Rattle.calculus.proofs.Sound.{sound}
use Rattle.calculus.proofs.Playing.{played_follows, played_inputs}
use Rattle.calculus.proofs.plays.plays_exist.Goals as goal

pub returns : goal.returns
returns c pivot scopes clauses assumptions steps inputs distinct outer proof =
    let s = sound pivot scopes clauses assumptions steps proof in (
      played_follows pivot scopes clauses assumptions steps outer s.last_step distinct inputs,
      λ x q. played_inputs pivot
          scopes clauses assumptions steps outer s.last_step inputs x q,
    )
