use Rattle.std.proofs.Common.{◌≡◌, ◌≤◌, List, length, subst, sym, ap, ◌∙◌, arith}
use Rattle.std.proofs.lemmas.List.{length-take-le}
use Rattle.prefix.specs.Literal.{Literal}
use Rattle.rows.specs.Places.{AreSpread, KeepsParts}
use Rattle.rows.proofs.Gone.{dead_kept, moving_across, places_kept}
use Rattle.rows.proofs.Parts.{parts_front, parts_then, spread_front}
use Rattle.rows.proofs.places.slide.Goals as goal

pub settle_all-to-requires-2-clause-moving : goal.settle_all-to-requires-2-clause-moving
settle_all-to-requires-2-clause-moving c =
    let first = c.settle_all-to in
    let gap = c.gap-gap in
    moving_across (length first.new.lits.items) first.result gap.result.start gap.result.end first.new.places
    first.ensures.moving
    (dead_kept c.args.lits.now.items first.new.lits.items c.args.places.now first.new.places gap.result.start
    gap.result.end first.ensures.kept gap.ensures)

pub returns-clause-spread : goal.returns-clause-spread
returns-clause-spread c =
    let first = c.settle_all-to in
    let next = c.settle_all-to-2 in
    let lits = next.new.lits.items in
    let same = places_kept first.new.lits.items lits first.new.places next.new.places next.ensures.kept in
    let count = c.len-count.ensures in
    let all : length next.new.places ≤ c.len-count.result = omega arith in
    let size : length c.truncate.new.self.items ≡ next.result =
    ap (λ (ls : List Literal). length ls) c.truncate.ensures.items
    ∙ length-take-le next.result lits next.ensures.moving.fits in
    subst (λ n. AreSpread n next.new.places) (sym size)
    (spread_front (length lits) next.new.places c.len-count.result next.result next.ensures.moving all)

pub returns-clause-kept : goal.returns-clause-kept
returns-clause-kept c =
    let old = c.args.lits.now.items in
    let first = c.settle_all-to in
    let next = c.settle_all-to-2 in
    let lits = next.new.lits.items in
    let same = places_kept first.new.lits.items lits first.new.places next.new.places next.ensures.kept in
    let count = c.len-count.ensures in
    let all : length next.new.places ≤ c.len-count.result = omega arith in
    parts_then old lits c.truncate.new.self.items c.args.places.now next.new.places next.new.places
    (parts_then old first.new.lits.items lits c.args.places.now first.new.places next.new.places first.ensures.kept
    next.ensures.kept)
    (subst (λ ls. KeepsParts lits next.new.places ls next.new.places) (sym c.truncate.ensures.items)
    (parts_front lits next.new.places c.len-count.result next.result next.ensures.moving all))
