use Rattle.certcheck.proofs.Checking.{checks_winning}
use Rattle.certcheck.proofs.laws.check_formulas_decide.Goals as goal

pub returns : goal.returns
returns c scopes clauses assumptions s apart proper is = checks_winning scopes clauses assumptions s apart proper is
