use Rattle.std.proofs.Common.{◌<◌, ◌∙◌}
use Rattle.std.proofs.lemmas.Result.{on_ok_weaker}
use Rattle.std.proofs.lemmas.List.Sorted.{All-permutation}
use Rattle.std.proofs.lemmas.List.Filters.{All-dedup, dedup_is}
use Rattle.builder.proofs.Sorting.{sorted_left}
use Rattle.builder.proofs.build.RowBuilder.put.Goals as goal

pub put_sorted-answer-requires-clause-below : goal.put_sorted-answer-requires-clause-below
put_sorted-answer-requires-clause-below c =
    let low = All-permutation (λ n. n < 2097154) _ _ c.sort_unstable.ensures.permutation c.requires in
    rw (c.deref.ensures.value, dedup_is _ _ _ c.dedup.ensures.filtered) (All-dedup _ (λ n. n < 2097154) _ low)

pub put_sorted-answer-requires-clause-ascending : goal.put_sorted-answer-requires-clause-ascending
put_sorted-answer-requires-clause-ascending c =
    (sorted_left c.args.clause.now.items c.sort_unstable.new.self.items c.deref.result.now
    c.sort_unstable.ensures.permutation c.sort_unstable.ensures.sorted
    (c.deref.ensures.value ∙ dedup_is _ _ _ c.dedup.ensures.filtered)).0

pub returns-clause-adds : goal.returns-clause-adds
returns-clause-adds c =
    let begun = c.args.clause.now.items in
    let left =
    sorted_left begun c.sort_unstable.new.self.items c.deref.result.now c.sort_unstable.ensures.permutation
    c.sort_unstable.ensures.sorted (c.deref.ensures.value ∙ dedup_is _ _ _ c.dedup.ensures.filtered) in
    on_ok_weaker c.put_sorted-answer.result (λ adds. adds begun left.1) c.put_sorted-answer.ensures.adds
