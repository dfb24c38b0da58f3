use Rattle.std.proofs.Common.{ap, ◌∙◌}
use Rattle.derive.specs.State.{clauses_of}
use Rattle.search.proofs.Following.{matrix_moves}
use Rattle.search.proofs.search.Search.conclude.Goals as goal

pub finish-requires-clause-matrix : goal.finish-requires-clause-matrix
finish-requires-clause-matrix c =
    matrix_moves c.args.self.now.derivation c.drop_finish.new.self.derivation c.args.matrix.now
    (c.drop_finish.ensures.clauses ∙ ap clauses_of c.settle.ensures.derivation) c.requires.matrix
