use Rattle.std.proofs.Common.{◌∙◌, Some, None}
use Rattle.command.proofs.ValueLemmas.{set_is}
use Rattle.command.proofs.values.is_set.Goals as goal

pub returns-in-Some : goal.returns-in-Some
returns-in-Some c = c.eq.ensures ∙ set_is c.args.found.now c.args.name.now (Some c.in-Some.text.now) c.in-Some.ensures

pub returns-in-None : goal.returns-in-None
returns-in-None c = set_is c.args.found.now c.args.name.now None c.in-None.ensures
