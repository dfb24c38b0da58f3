use Rattle.std.proofs.Common.{rules}
use Rattle.std.proofs.lemmas.List.Sorted.{answers_always}
use Rattle.frames.specs.Groups.{Group}
use Rattle.frames.proofs.Grouping.{searched}
use Rattle.frames.proofs.groups.Groups.find.Goals as goal

pub returns : goal.returns
returns c =
    let facts = c.binary_search_by_key.ensures in
    let by_key = facts.position (λ (g : Group). g.number) (answers_always _ _ _ (λ f a r g called. search rules)) in
    let parts = searched _ _ _ (rw c.deref.ensures.value c.self.invariant.rising) facts.bound by_key in
    rw (← c.self.view_is, ← c.deref.ensures.value) (record { found = parts.0; absent = parts.1 })
