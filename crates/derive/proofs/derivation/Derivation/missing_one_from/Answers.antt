use Rattle.derive.specs.State.{arena_of}
use Rattle.derive.proofs.Missed.{cubes_missing_one}
use Rattle.derive.proofs.derivation.Derivation.missing_one_from.Goals as goal

pub first_cube-requires-clause-cubes : goal.first_cube-requires-clause-cubes
first_cube-requires-clause-cubes c = cubes_missing_one c.args.clauses.now (arena_of c.args.self.now)

pub returns : goal.returns
returns c = c.first_cube.ensures
