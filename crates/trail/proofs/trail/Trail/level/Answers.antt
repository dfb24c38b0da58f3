use Rattle.std.proofs.Common.{◌≡◌, ◌-◌, ◌∙◌, sym, ap, length, Some}
use Rattle.std.specs.Prelude.{slice_get}
use Rattle.calculus.specs.Search.{last_level}
use Rattle.trail.specs.State.{TrailState}
use Rattle.trail.proofs.Tables.{last_level_at}
use Rattle.trail.proofs.trail.Trail.level.Goals as goal

pub returns-in-Some : goal.returns-in-Some
returns-in-Some c =
    let items = c.self.inside.entries.items in
    let at : slice_get items (length items - 1) ≡ Some c.in-Some.entry.now = rw c.deref.ensures.value at
    (sym c.in-Some.ensures.value) in
    last_level_at items c.in-Some.entry.now at c.self.invariant.0.leveled ∙ ap (λ (t : TrailState). last_level t.placed)
    c.self.view_is
