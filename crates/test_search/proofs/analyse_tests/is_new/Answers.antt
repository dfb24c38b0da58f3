use Rattle.std.proofs.Common.{sym, ◌∙◌}
use Rattle.prefix.specs.Scopes.{all_variables}
use Rattle.calculus.proofs.Lists.{among_at}
use Rattle.test_search.proofs.analyse_tests.is_new.Goals as goal

pub returns-clause-known : goal.returns-clause-known
returns-clause-known c e =
    let all = all_variables c.args.prefix.now in
    among_at all c.args.v (sym c.level.ensures.found ∙ c.if-is_none.ensures)
