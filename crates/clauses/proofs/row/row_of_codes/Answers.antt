use Rattle.std.proofs.Common.{◌≤◌, ◌<◌, sym, ◌∙◌}
use Rattle.std.proofs.lemmas.List.Sorted.{All-permutation}
use Rattle.std.proofs.lemmas.List.Filters.{All-dedup, dedup_is}
use Rattle.clauses.proofs.Rows.{no_row, row_made}
use Rattle.clauses.proofs.row.row_of_codes.Goals as goal

pub returns-then-has_both_signs : goal.returns-then-has_both_signs
returns-then-has_both_signs c = λ clause all is. no_row clause _ _ c.deref.result.now all is
    c.sort_unstable.ensures.permutation c.sort_unstable.ensures.sorted
    (c.deref.ensures.value ∙ dedup_is _ _ _ c.dedup.ensures.filtered)
    (sym c.has_both_signs.ensures ∙ c.if-has_both_signs.true)

pub literals_of-requires : goal.literals_of-requires
literals_of-requires c =
    let low = All-permutation (λ c. (2 ≤ c) × (c < 2097154)) _ _ c.sort_unstable.ensures.permutation c.requires in
    rw (c.deref-2.ensures.value, dedup_is _ _ _ c.dedup.ensures.filtered)
    (All-dedup _ (λ c. (2 ≤ c) × (c < 2097154)) _ low)

pub returns : goal.returns
returns c = λ clause all is. rw (c.in_ok-row.ensures, c.deref-2.ensures.value, ← c.deref.ensures.value)
    (row_made clause _ _ c.deref.result.now all is c.sort_unstable.ensures.permutation c.sort_unstable.ensures.sorted
    (c.deref.ensures.value ∙ dedup_is _ _ _ c.dedup.ensures.filtered)
    (sym c.has_both_signs.ensures ∙ c.if-has_both_signs.false))
