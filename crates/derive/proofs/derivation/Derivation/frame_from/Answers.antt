use Rattle.std.proofs.Common.{rules, subst, ◌≡◌, ◌≤◌, ◌<◌, false, ⊎_elim, length, ℕ, Some, arith}
use Rattle.std.specs.Prelude.{slice_index_or}
use Rattle.std.proofs.lemmas.Bool.{cases_Bool, cases_lt, eqb-true}
use Rattle.derive.specs.Dropping.{Falls, has_tag}
use Rattle.derive.specs.State.{Note, State, note_at, note_in, tag_at}
use Rattle.derive.proofs.Falling.{none_below}
use Rattle.derive.proofs.Tags.{frame_below}
use Rattle.derive.proofs.derivation.Derivation.frame_from.Goals as goal

none_earlier : (c : goal.After-unwrap_or) → (id : ℕ) (note : Note) → note_in c.self.inside.notes id ≡ Some note
    → id < c.unwrap_or.result → has_tag c.args.frame id note ≡ false
none_earlier c id note there low =
    ⊎_elim
    (λ is.
    let frame = c.args.frame in
    let notes = c.self.inside.notes in
    let same : note.tag ≡ frame = eqb-true note.tag frame is in
    let place : c.unwrap_or.result ≡ slice_index_or c.self.inside.frames_from.items frame (length notes) =
    search rules in
    let above = subst (λ f. slice_index_or c.self.inside.frames_from.items f (length notes) ≤ id) same
    (c.self.invariant.0.frames id note there) in
    absurd (omega (arith, low, place, above)))
    (λ f. f)
    (cases_Bool (has_tag c.args.frame id note))

pub returns-clause-above : goal.returns-clause-above
returns-clause-above c =
    subst (λ (s : State). (id : ℕ) (note : Note) → note_at s id ≡ Some note → id < c.unwrap_or.result
    → has_tag c.args.frame id note ≡ false) c.self.view_is (none_earlier c)

pub returns-clause-falls : goal.returns-clause-falls
returns-clause-falls c = λ id falls.
    let frame = c.args.frame in
    let notes = c.self.inside.notes in
    let kept = c.self.invariant.0 in
    subst (λ (s : State). (id : ℕ) → Falls (has_tag frame) s.notes id → (c.unwrap_or.result ≤ id)
    × (frame ≤ tag_at s id))
    c.self.view_is
    (λ i goes. (
      ⊎_elim
          (λ (low : i < c.unwrap_or.result).
          absurd
          (none_below (has_tag frame) notes c.unwrap_or.result kept.supported (none_earlier c) i low goes))
          (λ (high : c.unwrap_or.result ≤ i). high)
          (cases_lt i c.unwrap_or.result),
      frame_below frame notes kept.supported i goes,
    ))
    id falls
