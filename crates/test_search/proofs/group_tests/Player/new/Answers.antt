use Rattle.std.proofs.Common.{[], ℕ, subst}
use Rattle.search.specs.Changing.{IsRoomy}
use Rattle.test_search.proofs.Grouped.{extends_none, has_room}
use Rattle.test_search.proofs.group_tests.Player.new.Goals as goal

pub invariant_of-result : goal.invariant_of-result
invariant_of-result c =
    c.resting_grows.ensures [] c.args.prefix c.reserve.new.self (extends_none c.args.prefix)
    (has_room c.args.prefix c.reserve.new.self c.scopes-scopes.ensures.valid
    (subst (λ (n : ℕ). IsRoomy n c.reserve.new.self) c.in_ok-v.ensures c.in_ok-reserve.ensures.ok))
    (c.reserve.ensures.resting [] c.new-search.ensures.resting)
