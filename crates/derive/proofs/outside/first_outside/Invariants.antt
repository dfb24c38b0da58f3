use Rattle.std.proofs.Common.{◌≡◌, ◌-◌, ◌≤◌, ◌<◌, ℕ, Some, false}
use Rattle.derive.specs.State.{Note, note_in}
use Rattle.derive.specs.Dropping.{is_outside, names}
use Rattle.derive.proofs.outside.first_outside.Given as goal

abbrev pub invariant-loop-id : goal.invariant-loop-id
invariant-loop-id l =
    (id : ℕ) (note : Note) → note_in l.notes id ≡ Some note → l.from ≤ id → id < l.id → note.side ≡ l.side
    → names (is_outside l.prefix) l.rows id note ≡ false

abbrev pub decreases-loop-id : goal.decreases-loop-id
decreases-loop-id l = l.end - l.id
