use Rattle.watch.proofs.Boards.{first_board, second_board}
use Rattle.watch.proofs.walk.watch_one.Goals as goal

pub returns-in-First-clause-board : goal.returns-in-First-clause-board
returns-in-First-clause-board g c = first_board g.S.Side.PIVOT c.args.first.now c.watch_else.new.lists
    c.args.second.now c.args.second.now c.args.rows.now c.watch_else.new.rows c.args.id c.args.name c.requires.board
    c.requires.apart c.watch_else.ensures.moved c.watch_else.ensures.kept c.watch_else.ensures.linked

pub returns-in-Second-clause-board : goal.returns-in-Second-clause-board
returns-in-Second-clause-board g c = second_board g.S.Side.PIVOT c.args.first.now c.args.first.now
    c.args.second.now c.watch_else-in-Second.new.lists c.args.rows.now c.watch_else-in-Second.new.rows c.args.id
    c.args.name
    c.requires.board
    c.requires.settled c.watch_else-in-Second.ensures.moved c.watch_else-in-Second.ensures.kept
    c.watch_else-in-Second.ensures.linked
