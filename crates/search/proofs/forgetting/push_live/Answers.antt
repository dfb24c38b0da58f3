use Rattle.std.proofs.Common.{ℕ, [], ◌∷◌, List, Contains, sym, subst}
use Rattle.std.proofs.lemmas.List.Elements.{Contains-append_right}
use Rattle.calculus.proofs.Lists.{contains_head}
use Rattle.search.proofs.forgetting.push_live.Goals as goal

pub returns-in_ok-push-clause-there : goal.returns-in_ok-push-clause-there
returns-in_ok-push-clause-there c = λ live.
    subst (λ (ids : List ℕ). Contains ids c.args.id) (sym c.in_ok-push.ensures.items)
    (Contains-append_right c.args.keep.now.items (c.args.id ∷ []) c.args.id (contains_head c.args.id []))
