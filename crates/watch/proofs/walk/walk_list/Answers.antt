use Rattle.std.proofs.Common.{◌≡◌, ◌+◌, ℕ, [], ap, refl, ◌∙◌}
use Rattle.calculus.specs.Search.{value_on}
use Rattle.rows.specs.Arena.{link_at}
use Rattle.watch.specs.Families.{base_of, lists_of}
use Rattle.watch.proofs.Boards.{KeepsRows-more}
use Rattle.watch.proofs.Families.{linked_of}
use Rattle.watch.proofs.Walking.{sifting_falls, sifting_here, sifting_live, sifting_passes}
use Rattle.watch.proofs.walk.walk_list.Goals as goal

pub link-next-requires-clause-live : goal.link-next-requires-clause-live
link-next-requires-clause-live g c = sifting_live g.S.Side.PIVOT (value_on c.args.trail.now.placed)
    (base_of c.args.family) c.args.name c.loop-at.at c.loop-at.rows c.in-Some.id c.in-Some.is c.loop-at.invariant.1

pub pass-requires-clause-stands : goal.pass-requires-clause-stands
pass-requires-clause-stands g c = sifting_here g.S.Side.PIVOT (value_on c.args.trail.now.placed)
    (base_of c.args.family) c.args.name c.loop-at.at c.loop-at.rows c.in-Some.id c.in-Some.is c.loop-at.invariant.1

pub returns-in-Some-pass-clause-goes : goal.returns-in-Some-pass-clause-goes
returns-in-Some-pass-clause-goes g c = λ calm n m h. c.in-Some-pass.ensures.goes calm n m
    (c.loop-at.invariant.0.goes calm n m h)

pub loop-at-smaller : goal.loop-at-smaller
loop-at-smaller g c =
    let base = base_of c.args.family in
    let before = c.loop-at.invariant.0 in
    let next : c.link-next.result ≡ link_at c.loop-at.rows c.in-Some.id (base + 2) = c.link-next.ensures
    ∙ ap (λ (n : ℕ). link_at c.loop-at.rows c.in-Some.id (n + 2)) c.base-own.ensures.value in
    let board = before.placed.board in
    let board' = (c.in_default-pass.ensures.goes [] 0 0 before.placed).board in
    let linked = linked_of g.S.Side.PIVOT c.args.family c.loop-at.first c.loop-at.second c.loop-at.rows board in
    let linked' = linked_of g.S.Side.PIVOT c.args.family c.pass.new.first c.pass.new.second c.pass.new.rows board' in
    let t = sifting_passes g.S.Side.PIVOT (value_on c.args.trail.now.placed) base c.args.name c.loop-at.at c.in-Some.id
    c.in-Some.is (lists_of c.args.family c.loop-at.first c.loop-at.second) c.loop-at.rows c.pass.new.rows
    c.link-next.result linked next (c.in_default-pass.ensures.passed refl) c.in_default-pass.ensures.kept.same_literals
    c.loop-at.invariant.1 in
    sifting_falls g.S.Side.PIVOT (value_on c.args.trail.now.placed) base c.args.name
    (lists_of c.args.family c.loop-at.first c.loop-at.second) (lists_of c.args.family c.pass.new.first
    c.pass.new.second)
    c.loop-at.at c.link-next.result c.loop-at.rows c.pass.new.rows linked linked' c.loop-at.invariant.1 t.0 t.1

pub loop-at-preserved : goal.loop-at-preserved
loop-at-preserved g c =
    let base = base_of c.args.family in
    let before = c.loop-at.invariant.0 in
    let next : c.link-next.result ≡ link_at c.loop-at.rows c.in-Some.id (base + 2) = c.link-next.ensures
    ∙ ap (λ (n : ℕ). link_at c.loop-at.rows c.in-Some.id (n + 2)) c.base-own.ensures.value in
    let linked = linked_of g.S.Side.PIVOT c.args.family c.loop-at.first c.loop-at.second c.loop-at.rows
    before.placed.board in
    let t = sifting_passes g.S.Side.PIVOT (value_on c.args.trail.now.placed) base c.args.name c.loop-at.at c.in-Some.id
    c.in-Some.is (lists_of c.args.family c.loop-at.first c.loop-at.second) c.loop-at.rows c.pass.new.rows
    c.link-next.result linked next (c.in_default-pass.ensures.passed refl) c.in_default-pass.ensures.kept.same_literals
    c.loop-at.invariant.1 in (
      record {
        placed = c.in_default-pass.ensures.goes [] 0 0 before.placed;
        goes = λ calm n m h. c.in_default-pass.ensures.goes calm n m (before.goes calm n m h);
        kept = KeepsRows-more g.S.Side.PIVOT c.args.rows.now c.loop-at.rows c.pass.new.rows before.kept
            c.in_default-pass.ensures.kept;
        same_first = c.in_default-pass.ensures.first ∙ before.same_first;
        same_second = c.in_default-pass.ensures.second ∙ before.same_second;
      },
      t.0,
      λ none. c.in_default-pass.ensures.came (c.loop-at.invariant.2 none),
    )
