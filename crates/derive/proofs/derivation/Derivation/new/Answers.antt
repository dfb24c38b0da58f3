use Rattle.std.proofs.Common.{Some}
use Rattle.derive.proofs.Legality.{legal_none}
use Rattle.derive.proofs.derivation.Derivation.new.Goals as goal

pub returns-clause-legal : goal.returns-clause-legal
returns-clause-legal c scopes = legal_none scopes _ (Some c.new-2.result) c.new.ensures
