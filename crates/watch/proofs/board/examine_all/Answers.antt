use Rattle.std.proofs.Common.{[], ◌∙◌, refl, sym}
use Rattle.watch.specs.State.{WaitsHere}
use Rattle.watch.proofs.Boards.{KeepsRows-more, fewer_wait, waits_before}
use Rattle.watch.proofs.Moving.{attached_live, if_some}
use Rattle.watch.proofs.board.examine_all.Goals as goal

pub link-next-requires-clause-live : goal.link-next-requires-clause-live
link-next-requires-clause-live g c = attached_live g.S.Side.PIVOT c.loop-id.rows c.in-Some.id
    c.in-Some.ensures.found.attached

pub visit-requires-clause-waits : goal.visit-requires-clause-waits
visit-requires-clause-waits g c = c.in-Some.ensures.found

pub loop-id-smaller : goal.loop-id-smaller
loop-id-smaller g c =
    let left = c.in_default-visit.ensures.moved refl in
    fewer_wait g.S.Side.PIVOT c.loop-id.rows c.visit.new.rows c.in-Some.id left.name c.in-Some.ensures.found
    c.in_default-visit.ensures.kept left.apart left.moves

pub loop-id-preserved : goal.loop-id-preserved
loop-id-preserved g c =
    let left = c.in_default-visit.ensures.moved refl in
    let before = c.loop-id.invariant.0 in (
      record {
        placed = c.in_default-visit.ensures.placed [] 0 0 before.placed;
        goes = λ calm n m h. c.in_default-visit.ensures.placed calm n m (before.goes calm n m h);
        kept = KeepsRows-more g.S.Side.PIVOT c.args.rows.now c.loop-id.rows c.visit.new.rows before.kept
            c.in_default-visit.ensures.kept;
        same_first = c.in_default-visit.ensures.first ∙ before.same_first;
        same_second = c.in_default-visit.ensures.second ∙ before.same_second;
      },
      if_some c.link-next.result (WaitsHere g.S.Side.PIVOT c.visit.new.rows)
          (λ i e. waits_before g.S.Side.PIVOT c.loop-id.first c.loop-id.rows c.visit.new.rows c.in-Some.id left.name i
          before.placed.board.ones c.in-Some.ensures.found (sym c.link-next.ensures ∙ e) left.moves),
    )

pub returns-in-Some-visit-clause-placed : goal.returns-in-Some-visit-clause-placed
returns-in-Some-visit-clause-placed g c = λ calm n m h. c.in-Some-visit.ensures.placed calm n m
    (c.loop-id.invariant.0.goes calm n m h)
