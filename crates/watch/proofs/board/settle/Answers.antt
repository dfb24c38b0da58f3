use Rattle.std.proofs.Common.{◌∙◌, Some, ap, arith}
use Rattle.rows.specs.Arena.{is_live}
use Rattle.watch.specs.State.{waits}
use Rattle.watch.proofs.Moving.{attached_live, if_some}
use Rattle.watch.proofs.Hinting.{hint_attached, hint_board, hint_moves, hint_owner, hint_rows}
use Rattle.watch.proofs.board.settle.Goals as goal

pub write-requires-clause-live : goal.write-requires-clause-live
write-requires-clause-live g c = if_some c.keeper.result _
    (λ i e. ap (is_live c.args.rows.now) (rw e at c.keeper.ensures)
    ∙ attached_live g.S.Side.PIVOT c.args.rows.now c.args.id c.requires.waits.attached)

pub place_in_both-requires-clause-board : goal.place_in_both-requires-clause-board
place_in_both-requires-clause-board g c = hint_board g.S.Side.PIVOT c.args.rows.now c.write.new.rows c.args.id
    c.keeper.result
    c.args.found c.keeper.ensures c.write.ensures
    c.args.first.now c.args.second.now c.requires.board

pub place_in_both-requires-clause-waits : goal.place_in_both-requires-clause-waits
place_in_both-requires-clause-waits g c = record {
  attached = hint_attached g.S.Side.PIVOT c.args.rows.now c.write.new.rows c.args.id c.keeper.result
      c.args.found c.keeper.ensures c.write.ensures c.args.id
      ∙ c.requires.waits.attached;
  waits_now = ap waits (hint_owner g.S.Side.PIVOT c.args.rows.now c.write.new.rows c.args.id c.keeper.result
      c.args.found c.keeper.ensures c.write.ensures
      0 c.args.id (omega arith)) ∙ c.requires.waits.waits_now;
}

pub returns-clause-ones : goal.returns-clause-ones
returns-clause-ones g c = hint_moves g.S.Side.PIVOT c.args.rows.now c.write.new.rows c.args.id c.keeper.result
    c.args.found c.keeper.ensures c.write.ensures
    c.place_in_both.new.rows 0 (Some c.args.one) (omega arith) c.place_in_both.ensures.ones

pub returns-clause-twos : goal.returns-clause-twos
returns-clause-twos g c = hint_moves g.S.Side.PIVOT c.args.rows.now c.write.new.rows c.args.id c.keeper.result
    c.args.found c.keeper.ensures c.write.ensures
    c.place_in_both.new.rows 3 (Some c.args.two) (omega arith) c.place_in_both.ensures.twos

pub returns-clause-kept : goal.returns-clause-kept
returns-clause-kept g c = hint_rows g.S.Side.PIVOT c.args.rows.now c.write.new.rows c.args.id c.keeper.result
    c.args.found c.keeper.ensures c.write.ensures
    c.place_in_both.new.rows c.requires.waits.attached c.place_in_both.ensures.kept
