use Rattle.derive.proofs.Leaving.{agree_smaller}
use Rattle.derive.proofs.laws.smaller_prefixes_agree.Goals as goal

pub returns : goal.returns
returns c = agree_smaller
