use Rattle.calculus.proofs.Sound.{sound}
use Rattle.calculus.proofs.Verdict.{proof_decides}
use Rattle.calculus.proofs.verdicts.proofs_decide.Goals as goal

pub returns : goal.returns
returns c pivot scopes clauses assumptions steps distinct outer proof = proof_decides pivot scopes clauses assumptions
    steps distinct outer (sound pivot scopes clauses assumptions steps proof)
