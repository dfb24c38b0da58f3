use Rattle.qbf_c.proofs.Levels.{no_level}
use Rattle.qbf_c.proofs.looks.level.Goals as goal

pub returns-in-None : goal.returns-in-None
returns-in-None c = no_level c.args.prefix.now c.args.var c.scopes-valid.ensures.valid c.in-None.ensures
