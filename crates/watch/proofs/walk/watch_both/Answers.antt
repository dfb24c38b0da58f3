use Rattle.watch.proofs.Boards.{both_board, both_other_ones, both_other_twos, linked_apart, zero_six, zero_three, three_six, three_zero}
use Rattle.watch.proofs.walk.watch_both.Goals as goal

pub take_second-requires-clause-linked : goal.take_second-requires-clause-linked
take_second-requires-clause-linked g c = linked_apart g.S.Side.PIVOT 0 3 c.args.rows.now c.take_out.new.rows
    c.take_out.ensures.kept zero_six zero_three c.args.second.now c.requires.board.twos

pub put_in-requires-clause-linked : goal.put_in-requires-clause-linked
put_in-requires-clause-linked g c = linked_apart g.S.Side.PIVOT 3 0 c.take_out.new.rows c.take_second.new.rows
    c.take_second.ensures.kept three_six three_zero c.take_out.new.lists c.take_out.ensures.linked

pub put_in-requires-2-clause-linked : goal.put_in-requires-2-clause-linked
put_in-requires-2-clause-linked g c = linked_apart g.S.Side.PIVOT 0 3 c.take_second.new.rows c.put_in.new.rows
    c.put_in.ensures.kept zero_six zero_three c.take_second.new.second c.take_second.ensures.linked

pub returns-clause-board : goal.returns-clause-board
returns-clause-board g c = both_board g.S.Side.PIVOT c.args.first.now c.put_in.new.lists
    c.args.second.now c.put_in-2.new.lists c.args.rows.now c.take_out.new.rows c.take_second.new.rows c.put_in.new.rows
    c.put_in-2.new.rows c.args.id c.args.one c.args.two c.requires.board c.take_out.ensures.moved
    c.take_out.ensures.kept c.take_second.ensures.moved c.take_second.ensures.kept c.put_in.ensures.moved
    c.put_in.ensures.kept c.put_in-2.ensures.moved c.put_in-2.ensures.kept c.requires.apart c.put_in.ensures.linked
    c.put_in-2.ensures.linked

pub returns-clause-other_ones : goal.returns-clause-other_ones
returns-clause-other_ones g c = both_other_ones g.S.Side.PIVOT c.args.first.now c.put_in.new.lists
    c.args.second.now c.put_in-2.new.lists c.args.rows.now c.take_out.new.rows c.take_second.new.rows c.put_in.new.rows
    c.put_in-2.new.rows c.args.id c.args.one c.args.two c.requires.board c.take_out.ensures.moved
    c.take_out.ensures.kept c.take_second.ensures.moved c.take_second.ensures.kept c.put_in.ensures.moved
    c.put_in.ensures.kept c.put_in-2.ensures.moved c.put_in-2.ensures.kept c.take_out.ensures.others
    c.put_in.ensures.others

pub returns-clause-other_twos : goal.returns-clause-other_twos
returns-clause-other_twos g c = both_other_twos g.S.Side.PIVOT c.args.first.now c.put_in.new.lists
    c.args.second.now c.put_in-2.new.lists c.args.rows.now c.take_out.new.rows c.take_second.new.rows c.put_in.new.rows
    c.put_in-2.new.rows c.args.id c.args.one c.args.two c.requires.board c.take_out.ensures.moved
    c.take_out.ensures.kept c.take_second.ensures.moved c.take_second.ensures.kept c.put_in.ensures.moved
    c.put_in.ensures.kept c.put_in-2.ensures.moved c.put_in-2.ensures.kept c.take_second.ensures.others
    c.put_in-2.ensures.others
