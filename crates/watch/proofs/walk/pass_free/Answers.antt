use Rattle.std.proofs.Common.{◌+◌, ◌<◌, [], Some, ap, arith, sym, ◌∙◌}
use Rattle.calculus.specs.Search.{literals_on, value_on}
use Rattle.watch.specs.Families.{base_of, other_of}
use Rattle.watch.specs.Pairs.{watch_name}
use Rattle.watch.specs.State.{progress}
use Rattle.prefix.specs.Literal.{Literal}
use Rattle.watch.proofs.Families.{base_low}
use Rattle.watch.proofs.Hinting.{hint_board, hint_elsewhere, hint_moves, hint_owner, hint_rows}
use Rattle.watch.proofs.Looking.{watch_within}
use Rattle.watch.proofs.Moving.{owner_attached}
use Rattle.watch.proofs.Passing.{free_apart, goes_of, none_came_of, passed_away, within_of}
use Rattle.watch.proofs.walk.pass_free.Goals as goal

pub watch_one-requires-clause-board : goal.watch_one-requires-clause-board
watch_one-requires-clause-board g c = hint_board g.S.Side.PIVOT c.args.rows.now c.write.new.rows c.args.id
    c.keeper.result
    c.hint_for-found.result c.keeper.ensures c.write.ensures
    c.args.first.now c.args.second.now c.requires.kept.board

pub watch_one-requires-clause-name : goal.watch_one-requires-clause-name
watch_one-requires-clause-name g c = within_of c.args.family c.args.first.now c.args.second.now c.watch_name.result
    c.requires.both
    (watch_within g.S.Side.PIVOT c.args.prefix.now (progress (literals_on c.args.trail.now.placed) [] 0 0)
    c.args.first.now c.args.second.now c.args.rows.now c.args.id c.in-Pair.b c.lits-lits.result.now c.watch_name.result
    c.requires.kept
    (owner_attached g.S.Side.PIVOT c.args.rows.now (base_of c.args.family) c.args.id c.args.name c.requires.stands)
    c.lits-lits.ensures c.in-Pair.ensures.choice.b_stands c.watch_name.ensures.name)

pub returns-in-Pair-clause-goes : goal.returns-in-Pair-clause-goes
returns-in-Pair-clause-goes g c =
    let low : base_of c.args.family + 2 < 7 = base_low c.args.family in
    let low2 : base_of (other_of c.args.family) + 2 < 7 = base_low (other_of c.args.family) in
    goes_of g.S.Side.PIVOT c.args.prefix.now (literals_on c.args.trail.now.placed) c.args.first.now
    c.args.second.now c.watch_one.new.first c.watch_one.new.second c.args.rows.now c.watch_one.new.rows c.args.id
    c.args.family c.in-Pair.field-0 c.in-Pair.b c.lits-lits.result.now c.watch_name.result
    c.watch_one.ensures.board c.watch_one.ensures.first
    (hint_moves g.S.Side.PIVOT c.args.rows.now c.write.new.rows c.args.id c.keeper.result
    c.hint_for-found.result c.keeper.ensures c.write.ensures
    c.watch_one.new.rows (base_of c.args.family) (Some c.watch_name.result) (omega arith) c.watch_one.ensures.moved)
    c.watch_name.ensures.name
    (λ i. c.watch_one.ensures.aside i ∙ hint_owner g.S.Side.PIVOT c.args.rows.now c.write.new.rows c.args.id
    c.keeper.result
    c.hint_for-found.result c.keeper.ensures c.write.ensures
    (base_of (other_of c.args.family)) i (omega arith))
    (c.requires.aside ∙ ap (λ (l : Literal). Some (watch_name l)) (sym c.in-Pair.ensures.first))
    (hint_rows g.S.Side.PIVOT c.args.rows.now c.write.new.rows c.args.id c.keeper.result
    c.hint_for-found.result c.keeper.ensures c.write.ensures
    c.watch_one.new.rows
    (owner_attached g.S.Side.PIVOT c.args.rows.now (base_of c.args.family) c.args.id c.args.name c.requires.stands)
    c.watch_one.ensures.kept)
    c.lits-lits.ensures c.in-Pair.ensures.choice.a_stands c.in-Pair.ensures.choice.b_stands
    c.in-Pair.ensures.choice.typed c.in-Pair.ensures.choice.a_free c.in-Pair.ensures.choice.b_free

pub returns-in-Pair-clause-passed : goal.returns-in-Pair-clause-passed
returns-in-Pair-clause-passed g c = λ e.
    let low : base_of c.args.family + 2 < 7 = base_low c.args.family in
    passed_away g.S.Side.PIVOT (value_on c.args.trail.now.placed) (base_of c.args.family) c.args.name c.args.rows.now
    c.watch_one.new.rows c.args.id c.watch_name.result
    (hint_moves g.S.Side.PIVOT c.args.rows.now c.write.new.rows c.args.id c.keeper.result
    c.hint_for-found.result c.keeper.ensures c.write.ensures
    c.watch_one.new.rows (base_of c.args.family) (Some c.watch_name.result) (omega arith) c.watch_one.ensures.moved)
    (hint_elsewhere g.S.Side.PIVOT c.args.rows.now c.write.new.rows c.args.id c.keeper.result
    c.hint_for-found.result c.keeper.ensures c.write.ensures
    c.watch_one.new.rows (base_of c.args.family) low c.watch_one.ensures.others)
    (free_apart g.S.Side.PIVOT (value_on c.args.trail.now.placed) c.args.name c.in-Pair.b c.requires.bad
    c.in-Pair.ensures.choice.b_free c.watch_name.result c.watch_name.ensures.name)

pub returns-in-Pair-clause-came : goal.returns-in-Pair-clause-came
returns-in-Pair-clause-came g c =
    let low : base_of c.args.family + 2 < 7 = base_low c.args.family in
    let low2 : base_of (other_of c.args.family) + 2 < 7 = base_low (other_of c.args.family) in
    none_came_of g.S.Side.PIVOT c.args.family c.args.rows.now c.watch_one.new.rows c.args.id c.watch_name.result
    (hint_moves g.S.Side.PIVOT c.args.rows.now c.write.new.rows c.args.id c.keeper.result
    c.hint_for-found.result c.keeper.ensures c.write.ensures
    c.watch_one.new.rows (base_of c.args.family) (Some c.watch_name.result) (omega arith) c.watch_one.ensures.moved)
    c.watch_name.ensures.apart
    (λ i. c.watch_one.ensures.aside i ∙ hint_owner g.S.Side.PIVOT c.args.rows.now c.write.new.rows c.args.id
    c.keeper.result
    c.hint_for-found.result c.keeper.ensures c.write.ensures
    (base_of (other_of c.args.family)) i (omega arith))

pub returns-in-Fails-clause-event : goal.returns-in-Fails-clause-event
returns-in-Fails-clause-event g c = (
  owner_attached g.S.Side.PIVOT c.args.rows.now (base_of c.args.family) c.args.id c.args.name c.requires.stands,
  rw c.lits-lits.ensures at c.in-Fails.ensures.choice,
)
