use Rattle.std.proofs.Common.{length, ◌+◌, ◌<◌, ◌≤◌, sym, arith}
use Rattle.derive.specs.Sweeping.{is_unmarked}
use Rattle.derive.proofs.Falling.{Passed, passed_first, passed_keep, passed_drop, passed_skip, passed_all}
use Rattle.derive.proofs.Sweeps.{falls_goes, falls_stays}
use Rattle.derive.proofs.sweeping.drop_unmarked.Goals as goal
use Rattle.derive.proofs.sweeping.drop_unmarked.Goals.{then-is_unneeded, else-is_unneeded, Joined-is_unneeded}

pub loop-id-init : goal.loop-id-init
loop-id-init c =
    passed_first (is_unmarked c.args.marks.now) c.args.notes.now c.args.rows.now 0 c.next_live-id.result
    c.requires.supported c.requires.fits (λ id note there low. absurd (omega arith)) c.next_live-id.ensures.none

within : (c : Joined-is_unneeded) → c.loop-id.id < length c.loop-id.notes
within c = let same = c.loop-id.invariant.same_next in omega arith

-- one id further
one_more : (c : Joined-is_unneeded) → Passed (is_unmarked c.args.marks.now) c.args.notes.now c.if-is_unneeded.notes
    c.args.rows.now c.if-is_unneeded.rows (c.loop-id.id + 1)
one_more c =
    elim c.if-is_unneeded.branch [
      | then-is_unneeded w ↦ rw (w.notes-is, w.rows-is)
          (passed_drop _ _ _ _ _ _ c.requires.supported c.loop-id.invariant _ _ (within c)
          (falls_goes c.loop-id.notes c.args.marks.now c.loop-id.id (sym w.if-is_unneeded.ensures))
          w.clear.ensures w.free.ensures.rest w.free.ensures.next)
      | else-is_unneeded w ↦ rw (w.notes-is, w.rows-is)
          (passed_keep _ _ _ _ _ _ c.requires.supported c.loop-id.invariant
          (falls_stays c.args.notes.now c.loop-id.notes c.args.rows.now c.loop-id.rows c.args.marks.now c.loop-id.id
          c.requires.supported c.requires.closed c.loop-id.invariant (sym w.if-is_unneeded.ensures)))
    ]

pub loop-id-preserved : goal.loop-id-preserved
loop-id-preserved c =
    let test = c.loop-id-test.true in
    let more = one_more c.before in
    let same = more.same_next in
    passed_skip _ _ _ _ _ _ _ (c.next_live-id-in-loop-id.ensures.above (omega arith))
    c.next_live-id-in-loop-id.ensures.none more

pub returns : goal.returns
returns c =
    let same = c.loop-id.invariant.same_next in
    let all : length c.loop-id.notes ≤ c.loop-id.id = omega arith in
    passed_all _ _ _ _ _ c.loop-id.id all c.loop-id.invariant
