use Rattle.std.proofs.Common.{refl}
use Rattle.calculus.proofs.Sound.{sound}
use Rattle.calculus.specs.Plays.{total}
use Rattle.calculus.proofs.Verdict.{following_decides}
use Rattle.calculus.proofs.plays.plays_win.Goals as goal

pub returns : goal.returns
returns c pivot scopes clauses assumptions steps values outer proof follows allowed = following_decides pivot scopes
    clauses assumptions steps values outer (sound pivot scopes clauses assumptions steps proof) allowed follows
    (total values) (λ x i. refl)
