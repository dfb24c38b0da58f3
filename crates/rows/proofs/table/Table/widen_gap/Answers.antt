use Rattle.std.proofs.Common.{◌≡◌, ◌-◌, ℕ, length, subst, take, ap, ◌∙◌, arith}
use Rattle.rows.specs.Places.{Swaps}
use Rattle.rows.proofs.Gone.{taken_in}
use Rattle.rows.proofs.table.Table.widen_gap.Goals as goal

pub returns : goal.returns
returns c =
    let t = c.self.inside in
    let end = c.dead_behind-end.result in
    let bridge = t.slots.ok.0 in
    let told = c.len-count.ensures in
    let count : c.len-count.result ≡ length t.slots.items = omega arith in
    let swapped : Swaps t.slots.items c.swap_parts.new.slots.items t.split end (length t.slots.items) =
    subst (λ n. Swaps t.slots.items c.swap_parts.new.slots.items t.split end n) count c.swap_parts.ensures.swapped in
    taken_in t.slots.items c.swap_parts.new.slots.items c.truncate.new.self.items t.split t.gone end
    c.dead_behind-end.ensures swapped
    (c.truncate.ensures.items
    ∙ ap (λ (n : ℕ). take (n - (end - t.split)) c.swap_parts.new.slots.items) count)
    ∙ c.self.view_is
