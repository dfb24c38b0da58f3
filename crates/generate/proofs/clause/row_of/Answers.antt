use Rattle.std.proofs.Common.{◌∙◌, rules}
use Rattle.std.proofs.lemmas.List.Sorted.{IsNonDecreasingBy-from_sort_by_key}
use Rattle.prefix.specs.Literal.{Literal}
use Rattle.generate.proofs.Sorting.{sorted_is}
use Rattle.generate.proofs.clause.row_of.Goals as goal

pub returns : goal.returns
returns c = c.in_ok-clause.ensures.list ∙ sorted_is c.args.lits c.sort_unstable_by_key.new.self.items c.requires
    (rw c.in_ok-row.ensures.items at c.sort_unstable_by_key.ensures.permutation)
    (IsNonDecreasingBy-from_sort_by_key (λ (l : Literal). l.variable) _ c.sort_unstable_by_key.ensures.sorted
    (λ a r q k. search rules))
