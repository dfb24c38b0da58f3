use Rattle.search.proofs.Growing.{resting_grows}
use Rattle.search.proofs.Laws.{clauses_are_listed, holding_laws, prefixes_may_grow, reductions_stay}
use Rattle.search.proofs.changing.resting_grows.Goals as goal

pub returns : goal.returns
returns c = resting_grows prefixes_may_grow clauses_are_listed reductions_stay
    holding_laws
