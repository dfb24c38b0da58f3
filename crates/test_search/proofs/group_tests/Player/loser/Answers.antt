use Rattle.std.proofs.Common.{◌≡◌, sym, subst}
use Rattle.calculus.proofs.Lists.{contains_nil}
use Rattle.derive.specs.State.{open_clauses}
use Rattle.search.specs.State.{SearchState}
use Rattle.test_search.proofs.Grouped.{matrix_of}
use Rattle.test_search.proofs.group_tests.Player.loser.Goals as goal

pub solve-requires-clause-outer : goal.solve-requires-clause-outer
solve-requires-clause-outer c literal at = absurd (contains_nil literal at)

pub solve-requires-clause-matrix : goal.solve-requires-clause-matrix
solve-requires-clause-matrix c =
    matrix_of c.self.inside.search.derivation c.args.matrix.now
    (subst (λ (s : SearchState). open_clauses s.derivation ≡ c.args.matrix.now) (sym c.self.view_is) c.requires)
