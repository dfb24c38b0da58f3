use Rattle.derive.proofs.Tagging.{tags}
use Rattle.derive.proofs.worked.worked_tags.Goals as goal

pub returns : goal.returns
returns c = tags
