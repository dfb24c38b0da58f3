use Rattle.std.proofs.Common.{◌≡◌, ◌<◌, List, length, get_or, refl, sym, subst}
use Rattle.std.proofs.lemmas.Option.{slice_get_read}
use Rattle.calculus.specs.Rows.{IsRow}
use Rattle.frames.specs.Groups.{Group}
use Rattle.frames.specs.State.{FramesState}
use Rattle.frames.proofs.Counting.{all_place}
use Rattle.frames.proofs.frames.Frames.group.Goals as goal

pub returns-clause-rows : goal.returns-clause-rows
returns-clause-rows c =
    let self = c.self.inside in
    let low : c.args.place < length self.groups.groups =
    subst (λ (s : FramesState). c.args.place < length s.formula.groups) (sym c.self.view_is) c.requires in
    let is = subst (λ (gs : List Group). c.index-all-place.result ≡ get_or gs c.args.place c.index-all-place.result)
    c.all.ensures.value c.index-all-place.is in
    rw (← c.self.view_is) (all_place (IsRow self.prefix) self.groups.groups c.args.place c.index-all-place.result
    c.self.invariant.3.rows
    (slice_get_read self.groups.groups (length self.groups.groups) c.args.place c.index-all-place.result refl low is))
