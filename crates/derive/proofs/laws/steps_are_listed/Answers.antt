use Rattle.derive.proofs.Legality.{listed_told, listed_is_step, listed_as_told}
use Rattle.derive.proofs.laws.steps_are_listed.Goals as goal

pub returns : goal.returns
returns c = record { listed = listed_told; stands = listed_is_step; told = listed_as_told }
