use Rattle.derive.proofs.Drops.{cubes_left}
use Rattle.derive.proofs.Missed.{listed_left}
use Rattle.derive.proofs.cubes.drop_cubes.Goals as goal

pub returns-clause-listed : goal.returns-clause-listed
returns-clause-listed c =
    listed_left c.drop_roots.new.notes c.args.cubes.now.items c.retain_cubes.new.cubes.items
    c.retain_cubes.ensures
    (cubes_left _ _ _ _ _ c.drop_roots.ensures c.args.cubes.now.items c.requires.listed)
