use Rattle.std.proofs.lemmas.Result.{IfOk-weaker}
use Rattle.derive.proofs.Legality.{legal_cube}
use Rattle.derive.proofs.derivation.Derivation.input_cube.Goals as goal

pub returns-clause-legal : goal.returns-clause-legal
returns-clause-legal c = IfOk-weaker c.add.result _ _ (λ id adds scopes is_row hits legal. legal_cube scopes _ _ id _
    (rw c.new-note.ensures at adds) is_row hits legal) c.add.ensures.ok
