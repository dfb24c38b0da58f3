use Rattle.std.proofs.Common.{◌∙◌}
use Rattle.prefix.proofs.RemovalLemmas.{remove_key-ascending}
use Rattle.prefix.proofs.blocks.remove.Goals as goal

pub returns : goal.returns
returns c = c.remove.ensures.keys ∙ remove_key-ascending c.args.v c.args.vars.now.keys c.requires
