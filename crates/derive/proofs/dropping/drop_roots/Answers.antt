use Rattle.std.proofs.Common.{◌≡◌, ◌+◌, length, ◌<◌, ◌≤◌, sym, subst, arith, ◌∙◌}
use Rattle.rows.specs.Arena.{Arena}
use Rattle.derive.specs.Dropping.{DropsFrom}
use Rattle.derive.specs.Missing.{falls_now}
use Rattle.derive.specs.Roots.{is_root}
use Rattle.derive.proofs.Falling.{Passed, falls_alike, passed_first, passed_keep, passed_drop, passed_skip, passed_all, row_there}
use Rattle.derive.proofs.Rooted.{root_same}
use Rattle.derive.proofs.dropping.drop_roots.Goals as goal
use Rattle.derive.proofs.dropping.drop_roots.Goals.{then-falls, else-falls, Joined-falls}

pub loop-id-init : goal.loop-id-init
loop-id-init c =
    passed_first (is_root c.args.roots.now c.args.rows.now) c.args.notes.now c.args.rows.now c.args.from
    c.next_live-id.result c.requires.supported c.requires.fits c.requires.below c.next_live-id.ensures.none

within : (c : Joined-falls) → c.loop-id.id < length c.loop-id.notes
within c = let same = c.loop-id.invariant.same_next in omega arith

-- the test is asked of the rows that are left
alike : (c : Joined-falls) → falls_now (is_root c.args.roots.now c.loop-id.rows) c.loop-id.notes c.loop-id.id
    ≡ falls_now (is_root c.args.roots.now c.args.rows.now) c.loop-id.notes c.loop-id.id
alike c = falls_alike (is_root c.args.roots.now) (root_same c.args.roots.now) _ _ _ _ _ c.loop-id.invariant

-- one id further
one_more : (c : Joined-falls) → Passed (is_root c.args.roots.now c.args.rows.now) c.args.notes.now c.if-falls.notes
    c.args.rows.now c.if-falls.rows (c.loop-id.id + 1)
one_more c =
    elim c.if-falls.branch [
      | then-falls w ↦ rw (w.notes-is, w.rows-is)
          (passed_drop _ _ _ _ _ _ c.requires.supported c.loop-id.invariant _ _ (within c)
          (sym (alike c) ∙ sym w.if-falls.ensures) w.clear.ensures w.free.ensures.rest w.free.ensures.next)
      | else-falls w ↦ rw (w.notes-is, w.rows-is)
          (passed_keep _ _ _ _ _ _ c.requires.supported c.loop-id.invariant (sym (alike c) ∙ sym w.if-falls.ensures))
    ]

pub loop-id-preserved : goal.loop-id-preserved
loop-id-preserved c =
    let test = c.loop-id-test.true in
    let more = one_more c.before in
    let same = more.same_next in
    passed_skip _ _ _ _ _ _ _ (c.next_live-id-in-loop-id.ensures.above (omega arith))
    c.next_live-id-in-loop-id.ensures.none more

pub returns : goal.returns
returns c =
    let same = c.loop-id.invariant.same_next in
    let all : length c.loop-id.notes ≤ c.loop-id.id = omega arith in
    subst (λ (rows : Arena). DropsFrom (is_root c.args.roots.now c.args.rows.now) c.args.notes.now c.loop-id.notes
    c.args.rows.now rows) (sym c.tidy.ensures)
    (passed_all _ _ _ _ _ c.loop-id.id all c.loop-id.invariant)

pub falls-requires : goal.falls-requires
falls-requires c = λ note there.
    row_there _ _ _ _ _ c.loop-id.id c.loop-id.id c.requires.fits c.loop-id.invariant (omega arith) note there
