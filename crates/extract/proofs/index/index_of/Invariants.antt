use Rattle.std.proofs.Common.{ℕ, ◌≤◌, get_or}
use Rattle.extract.specs.Tables.{removals_at}
use Rattle.extract.proofs.Indexing.{IsIndexed}
use Rattle.extract.proofs.index.index_of.Given as goal

abbrev pub invariant-loop-i : goal.invariant-loop-i
invariant-loop-i l = ((x : ℕ) → IsIndexed l.pivot l.core.lines l.i (removals_at l.index.items x) x) ×
    ((x : ℕ) → get_or l.stamps.items x 0 ≤ l.i)
