use Rattle.std.proofs.Common.{◌≡◌, ◌-◌, List, Option, length, sym, ap, ◌∙◌, arith}
use Rattle.std.proofs.lemmas.List.{with_items_is}
use borrow.Rule.Slice.PartMut.{put_mid}
use Rattle.rows.specs.declared.places.Place.{Place}
use Rattle.rows.proofs.Gone.{parts_swapped, same_count}
use Rattle.rows.proofs.table.swap_parts.Goals as goal

pub returns-clause-swapped : goal.returns-clause-swapped
returns-clause-swapped c front first second back is a b d =
    let old = c.args.slots.now in
    let slots = c.deref_mut.result.now in
    let start = c.args.start in
    let end = c.args.end in
    let whole : List (Option Place) = put_mid start (end - start) slots c.rotate_left.new.self in
    let swapped = parts_swapped front first second back slots c.rotate_left.new.self start c.args.middle end
    (c.deref_mut.ensures.value ∙ is) a b d c.rotate_left.ensures.after in
    let bridge = old.ok.0 in
    let same : length old.items ≡ old.len = omega arith in
    let count = same_count front first second back in
    with_items_is old whole (ap length swapped ∙ (count ∙ (ap length (sym is) ∙ same))) ∙ swapped
