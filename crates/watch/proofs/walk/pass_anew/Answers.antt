use Rattle.std.proofs.Common.{[], Some, arith}
use Rattle.calculus.specs.Search.{literals_on, value_on}
use Rattle.watch.specs.Families.{base_of}
use Rattle.watch.specs.State.{progress}
use Rattle.watch.proofs.Hinting.{hint_board, hint_elsewhere, hint_moves, hint_rows}
use Rattle.watch.proofs.Looking.{visit_pair, watch_within}
use Rattle.watch.proofs.Moving.{owner_attached}
use Rattle.watch.proofs.Passing.{free_apart, none_came, passed_both}
use Rattle.watch.proofs.walk.pass_anew.Goals as goal

pub watch_both-requires-clause-board : goal.watch_both-requires-clause-board
watch_both-requires-clause-board g c = hint_board g.S.Side.PIVOT c.args.rows.now c.write.new.rows c.args.id
    c.keeper.result
    c.hint_for-found.result c.keeper.ensures c.write.ensures
    c.args.first.now c.args.second.now c.requires.kept.board

pub watch_both-requires-clause-one : goal.watch_both-requires-clause-one
watch_both-requires-clause-one g c =
    watch_within g.S.Side.PIVOT c.args.prefix.now (progress (literals_on c.args.trail.now.placed) [] 0 0)
    c.args.first.now c.args.second.now c.args.rows.now c.args.id c.in-Pair.a c.lits-lits.result.now c.watch_name.result
    c.requires.kept
    (owner_attached g.S.Side.PIVOT c.args.rows.now (base_of c.args.family) c.args.id c.args.name c.requires.stands)
    c.lits-lits.ensures c.in-Pair.ensures.a_stands c.watch_name.ensures.name

pub watch_both-requires-clause-two : goal.watch_both-requires-clause-two
watch_both-requires-clause-two g c =
    rw c.requires.both (watch_within g.S.Side.PIVOT c.args.prefix.now
    (progress (literals_on c.args.trail.now.placed) [] 0 0)
    c.args.first.now c.args.second.now c.args.rows.now c.args.id c.in-Pair.b c.lits-lits.result.now
    c.watch_name-in-Pair.result c.requires.kept
    (owner_attached g.S.Side.PIVOT c.args.rows.now (base_of c.args.family) c.args.id c.args.name c.requires.stands)
    c.lits-lits.ensures c.in-Pair.ensures.b_stands c.watch_name-in-Pair.ensures.name)

pub returns-in-Pair-clause-goes : goal.returns-in-Pair-clause-goes
returns-in-Pair-clause-goes g c = visit_pair g.S.Side.PIVOT c.args.prefix.now (literals_on c.args.trail.now.placed)
    c.args.first.now c.args.second.now c.watch_both.new.first c.watch_both.new.second c.args.rows.now
    c.watch_both.new.rows c.args.id c.in-Pair.a c.in-Pair.b c.lits-lits.result.now c.watch_name.result
    c.watch_name-in-Pair.result c.watch_both.ensures.board c.watch_both.ensures.first
    (hint_moves g.S.Side.PIVOT c.args.rows.now c.write.new.rows c.args.id c.keeper.result
    c.hint_for-found.result c.keeper.ensures c.write.ensures
    c.watch_both.new.rows 0 (Some c.watch_name.result) (omega arith) c.watch_both.ensures.ones)
    (hint_moves g.S.Side.PIVOT c.args.rows.now c.write.new.rows c.args.id c.keeper.result
    c.hint_for-found.result c.keeper.ensures c.write.ensures
    c.watch_both.new.rows 3 (Some c.watch_name-in-Pair.result) (omega arith) c.watch_both.ensures.twos)
    (hint_rows g.S.Side.PIVOT c.args.rows.now c.write.new.rows c.args.id c.keeper.result
    c.hint_for-found.result c.keeper.ensures c.write.ensures
    c.watch_both.new.rows
    (owner_attached g.S.Side.PIVOT c.args.rows.now (base_of c.args.family) c.args.id c.args.name c.requires.stands)
    c.watch_both.ensures.kept)
    c.lits-lits.ensures c.in-Pair.ensures c.watch_name.ensures.name c.watch_name-in-Pair.ensures.name

pub returns-in-Pair-clause-passed : goal.returns-in-Pair-clause-passed
returns-in-Pair-clause-passed g c = λ e.
    passed_both g.S.Side.PIVOT (value_on c.args.trail.now.placed) c.args.family c.args.name c.args.rows.now
    c.watch_both.new.rows c.args.id c.watch_name.result c.watch_name-in-Pair.result
    (hint_moves g.S.Side.PIVOT c.args.rows.now c.write.new.rows c.args.id c.keeper.result
    c.hint_for-found.result c.keeper.ensures c.write.ensures
    c.watch_both.new.rows 0 (Some c.watch_name.result) (omega arith) c.watch_both.ensures.ones)
    (hint_moves g.S.Side.PIVOT c.args.rows.now c.write.new.rows c.args.id c.keeper.result
    c.hint_for-found.result c.keeper.ensures c.write.ensures
    c.watch_both.new.rows 3 (Some c.watch_name-in-Pair.result) (omega arith) c.watch_both.ensures.twos)
    (hint_elsewhere g.S.Side.PIVOT c.args.rows.now c.write.new.rows c.args.id c.keeper.result
    c.hint_for-found.result c.keeper.ensures c.write.ensures
    c.watch_both.new.rows 0 (omega arith) c.watch_both.ensures.other_ones)
    (hint_elsewhere g.S.Side.PIVOT c.args.rows.now c.write.new.rows c.args.id c.keeper.result
    c.hint_for-found.result c.keeper.ensures c.write.ensures
    c.watch_both.new.rows 3 (omega arith) c.watch_both.ensures.other_twos)
    (free_apart g.S.Side.PIVOT (value_on c.args.trail.now.placed) c.args.name c.in-Pair.a c.requires.bad
    c.in-Pair.ensures.a_free c.watch_name.result c.watch_name.ensures.name)
    (free_apart g.S.Side.PIVOT (value_on c.args.trail.now.placed) c.args.name c.in-Pair.b c.requires.bad
    c.in-Pair.ensures.b_free c.watch_name-in-Pair.result c.watch_name-in-Pair.ensures.name)

pub returns-in-Pair-clause-came : goal.returns-in-Pair-clause-came
returns-in-Pair-clause-came g c = none_came g.S.Side.PIVOT c.args.rows.now c.watch_both.new.rows c.args.id
    c.watch_name.result
    (hint_moves g.S.Side.PIVOT c.args.rows.now c.write.new.rows c.args.id c.keeper.result
    c.hint_for-found.result c.keeper.ensures c.write.ensures
    c.watch_both.new.rows 0 (Some c.watch_name.result) (omega arith) c.watch_both.ensures.ones)
    c.watch_name.ensures.apart
