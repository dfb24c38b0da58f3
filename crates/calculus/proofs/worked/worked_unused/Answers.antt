use Rattle.calculus.proofs.Working.{unused_legal, unused_no_proof}
use Rattle.calculus.proofs.worked.worked_unused.Goals as goal

pub returns : goal.returns
returns c = record { legal = unused_legal; no_proof = unused_no_proof }
