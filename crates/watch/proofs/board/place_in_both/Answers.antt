use Rattle.std.proofs.Common.{◌≡◌, ◌<◌, ◌∙◌, true, length, set, None, Some, arith}
use Rattle.rows.specs.Arena.{with_links}
use Rattle.watch.specs.Links.{is_attached, owner}
use Rattle.watch.proofs.Boards.{attached_apart, linked_apart, moved_here, owner_apart, zero_six, zero_three}
use Rattle.watch.proofs.Settling.{both_first, both_kept, both_ones, both_second, both_twos, settled_board, settled_kept, settled_ones, settled_twos}
use Rattle.watch.proofs.board.place_in_both.Goals as goal

pub returns-clause-board : goal.returns-clause-board
returns-clause-board g c =
    let pivot = g.S.Side.PIVOT in
    let old = c.args.rows.now in
    let a0 = c.take_out.new.rows in
    let id = c.args.id in
    let one = c.args.one in
    let two = c.args.two in
    let next_one = c.swap_first-next_one.result in
    let next_two = c.swap_first-next_two.result in
    let a1 = with_links a0 id 0 (Some one, None, next_one) in
    let kept = c.take_out.ensures.kept in
    let twos = linked_apart pivot 0 3 old a0 kept zero_six zero_three c.args.second.now c.requires.board.twos in
    let attached : is_attached pivot a0 id ≡ true = attached_apart pivot 0 3 old a0 kept zero_six zero_three id
    ∙ c.requires.waits.attached in
    let out_one = moved_here pivot 0 old a0 id None c.take_out.ensures.moved in
    let out_two : owner pivot a0 3 id ≡ None = owner_apart pivot 0 3 old a0 kept zero_six zero_three id
    ∙ c.requires.board.alone id c.requires.waits.waits_now in
    let one_in : one < length c.take_out.new.lists = omega (arith, c.requires.one, c.take_out.ensures.size) in
    let ones = both_ones pivot c.take_out.new.lists c.args.second.now a0 a1 c.set_six.new.self c.write.new.rows
    c.write-2.new.rows id one
    two next_one next_two c.take_out.ensures.linked twos attached out_one out_two one_in c.requires.two
    c.swap_first-next_one.ensures.was c.swap_first-next_two.ensures.was c.set_six.ensures.first
    c.set_six.ensures.second c.set_six.ensures.next c.write.ensures c.write-2.ensures in
    let seconds = both_twos pivot c.take_out.new.lists c.args.second.now a0 a1 c.set_six.new.self c.write.new.rows
    c.write-2.new.rows id one
    two next_one next_two c.take_out.ensures.linked twos attached out_one out_two one_in c.requires.two
    c.swap_first-next_one.ensures.was c.swap_first-next_two.ensures.was c.set_six.ensures.first
    c.set_six.ensures.second c.set_six.ensures.next c.write.ensures c.write-2.ensures in
    let rest = both_kept pivot c.take_out.new.lists c.args.second.now a0 a1 c.set_six.new.self c.write.new.rows
    c.write-2.new.rows id one
    two next_one next_two c.take_out.ensures.linked twos attached out_one out_two one_in c.requires.two
    c.swap_first-next_one.ensures.was c.swap_first-next_two.ensures.was c.set_six.ensures.first
    c.set_six.ensures.second c.set_six.ensures.next c.write.ensures c.write-2.ensures in
    rw (c.swap_first-next_one.ensures.now, c.swap_first-next_two.ensures.now) (
    settled_board pivot c.args.first.now (set c.take_out.new.lists one (Some id)) c.args.second.now
    (set c.args.second.now two (Some id)) old a0 c.write-2.new.rows id one two c.requires.board
    c.take_out.ensures.moved kept ones seconds rest c.requires.apart
    (both_first pivot c.take_out.new.lists c.args.second.now a0 a1 c.set_six.new.self c.write.new.rows
    c.write-2.new.rows id one
    two next_one next_two c.take_out.ensures.linked twos attached out_one out_two one_in c.requires.two
    c.swap_first-next_one.ensures.was c.swap_first-next_two.ensures.was c.set_six.ensures.first
    c.set_six.ensures.second c.set_six.ensures.next c.write.ensures c.write-2.ensures)
    (both_second pivot c.take_out.new.lists c.args.second.now a0 a1 c.set_six.new.self c.write.new.rows
    c.write-2.new.rows id one
    two next_one next_two c.take_out.ensures.linked twos attached out_one out_two one_in c.requires.two
    c.swap_first-next_one.ensures.was c.swap_first-next_two.ensures.was c.set_six.ensures.first
    c.set_six.ensures.second c.set_six.ensures.next c.write.ensures c.write-2.ensures))

pub returns-clause-ones : goal.returns-clause-ones
returns-clause-ones g c =
    let pivot = g.S.Side.PIVOT in
    let old = c.args.rows.now in
    let a0 = c.take_out.new.rows in
    let id = c.args.id in
    let one = c.args.one in
    let two = c.args.two in
    let next_one = c.swap_first-next_one.result in
    let next_two = c.swap_first-next_two.result in
    let a1 = with_links a0 id 0 (Some one, None, next_one) in
    let kept = c.take_out.ensures.kept in
    let twos = linked_apart pivot 0 3 old a0 kept zero_six zero_three c.args.second.now c.requires.board.twos in
    let attached : is_attached pivot a0 id ≡ true = attached_apart pivot 0 3 old a0 kept zero_six zero_three id
    ∙ c.requires.waits.attached in
    let out_one = moved_here pivot 0 old a0 id None c.take_out.ensures.moved in
    let out_two : owner pivot a0 3 id ≡ None = owner_apart pivot 0 3 old a0 kept zero_six zero_three id
    ∙ c.requires.board.alone id c.requires.waits.waits_now in
    let one_in : one < length c.take_out.new.lists = omega (arith, c.requires.one, c.take_out.ensures.size) in
    let ones = both_ones pivot c.take_out.new.lists c.args.second.now a0 a1 c.set_six.new.self c.write.new.rows
    c.write-2.new.rows id one
    two next_one next_two c.take_out.ensures.linked twos attached out_one out_two one_in c.requires.two
    c.swap_first-next_one.ensures.was c.swap_first-next_two.ensures.was c.set_six.ensures.first
    c.set_six.ensures.second c.set_six.ensures.next c.write.ensures c.write-2.ensures in
    let seconds = both_twos pivot c.take_out.new.lists c.args.second.now a0 a1 c.set_six.new.self c.write.new.rows
    c.write-2.new.rows id one
    two next_one next_two c.take_out.ensures.linked twos attached out_one out_two one_in c.requires.two
    c.swap_first-next_one.ensures.was c.swap_first-next_two.ensures.was c.set_six.ensures.first
    c.set_six.ensures.second c.set_six.ensures.next c.write.ensures c.write-2.ensures in
    let rest = both_kept pivot c.take_out.new.lists c.args.second.now a0 a1 c.set_six.new.self c.write.new.rows
    c.write-2.new.rows id one
    two next_one next_two c.take_out.ensures.linked twos attached out_one out_two one_in c.requires.two
    c.swap_first-next_one.ensures.was c.swap_first-next_two.ensures.was c.set_six.ensures.first
    c.set_six.ensures.second c.set_six.ensures.next c.write.ensures c.write-2.ensures in
    settled_ones pivot c.args.first.now (set c.take_out.new.lists one (Some id)) c.args.second.now
    (set c.args.second.now two (Some id)) old a0 c.write-2.new.rows id one two c.requires.board
    c.take_out.ensures.moved kept ones seconds rest

pub returns-clause-twos : goal.returns-clause-twos
returns-clause-twos g c =
    let pivot = g.S.Side.PIVOT in
    let old = c.args.rows.now in
    let a0 = c.take_out.new.rows in
    let id = c.args.id in
    let one = c.args.one in
    let two = c.args.two in
    let next_one = c.swap_first-next_one.result in
    let next_two = c.swap_first-next_two.result in
    let a1 = with_links a0 id 0 (Some one, None, next_one) in
    let kept = c.take_out.ensures.kept in
    let twos = linked_apart pivot 0 3 old a0 kept zero_six zero_three c.args.second.now c.requires.board.twos in
    let attached : is_attached pivot a0 id ≡ true = attached_apart pivot 0 3 old a0 kept zero_six zero_three id
    ∙ c.requires.waits.attached in
    let out_one = moved_here pivot 0 old a0 id None c.take_out.ensures.moved in
    let out_two : owner pivot a0 3 id ≡ None = owner_apart pivot 0 3 old a0 kept zero_six zero_three id
    ∙ c.requires.board.alone id c.requires.waits.waits_now in
    let one_in : one < length c.take_out.new.lists = omega (arith, c.requires.one, c.take_out.ensures.size) in
    let ones = both_ones pivot c.take_out.new.lists c.args.second.now a0 a1 c.set_six.new.self c.write.new.rows
    c.write-2.new.rows id one
    two next_one next_two c.take_out.ensures.linked twos attached out_one out_two one_in c.requires.two
    c.swap_first-next_one.ensures.was c.swap_first-next_two.ensures.was c.set_six.ensures.first
    c.set_six.ensures.second c.set_six.ensures.next c.write.ensures c.write-2.ensures in
    let seconds = both_twos pivot c.take_out.new.lists c.args.second.now a0 a1 c.set_six.new.self c.write.new.rows
    c.write-2.new.rows id one
    two next_one next_two c.take_out.ensures.linked twos attached out_one out_two one_in c.requires.two
    c.swap_first-next_one.ensures.was c.swap_first-next_two.ensures.was c.set_six.ensures.first
    c.set_six.ensures.second c.set_six.ensures.next c.write.ensures c.write-2.ensures in
    let rest = both_kept pivot c.take_out.new.lists c.args.second.now a0 a1 c.set_six.new.self c.write.new.rows
    c.write-2.new.rows id one
    two next_one next_two c.take_out.ensures.linked twos attached out_one out_two one_in c.requires.two
    c.swap_first-next_one.ensures.was c.swap_first-next_two.ensures.was c.set_six.ensures.first
    c.set_six.ensures.second c.set_six.ensures.next c.write.ensures c.write-2.ensures in
    settled_twos pivot c.args.first.now (set c.take_out.new.lists one (Some id)) c.args.second.now
    (set c.args.second.now two (Some id)) old a0 c.write-2.new.rows id one two c.requires.board
    c.take_out.ensures.moved kept ones seconds rest

pub returns-clause-kept : goal.returns-clause-kept
returns-clause-kept g c =
    let pivot = g.S.Side.PIVOT in
    let old = c.args.rows.now in
    let a0 = c.take_out.new.rows in
    let id = c.args.id in
    let one = c.args.one in
    let two = c.args.two in
    let next_one = c.swap_first-next_one.result in
    let next_two = c.swap_first-next_two.result in
    let a1 = with_links a0 id 0 (Some one, None, next_one) in
    let kept = c.take_out.ensures.kept in
    let twos = linked_apart pivot 0 3 old a0 kept zero_six zero_three c.args.second.now c.requires.board.twos in
    let attached : is_attached pivot a0 id ≡ true = attached_apart pivot 0 3 old a0 kept zero_six zero_three id
    ∙ c.requires.waits.attached in
    let out_one = moved_here pivot 0 old a0 id None c.take_out.ensures.moved in
    let out_two : owner pivot a0 3 id ≡ None = owner_apart pivot 0 3 old a0 kept zero_six zero_three id
    ∙ c.requires.board.alone id c.requires.waits.waits_now in
    let one_in : one < length c.take_out.new.lists = omega (arith, c.requires.one, c.take_out.ensures.size) in
    let ones = both_ones pivot c.take_out.new.lists c.args.second.now a0 a1 c.set_six.new.self c.write.new.rows
    c.write-2.new.rows id one
    two next_one next_two c.take_out.ensures.linked twos attached out_one out_two one_in c.requires.two
    c.swap_first-next_one.ensures.was c.swap_first-next_two.ensures.was c.set_six.ensures.first
    c.set_six.ensures.second c.set_six.ensures.next c.write.ensures c.write-2.ensures in
    let seconds = both_twos pivot c.take_out.new.lists c.args.second.now a0 a1 c.set_six.new.self c.write.new.rows
    c.write-2.new.rows id one
    two next_one next_two c.take_out.ensures.linked twos attached out_one out_two one_in c.requires.two
    c.swap_first-next_one.ensures.was c.swap_first-next_two.ensures.was c.set_six.ensures.first
    c.set_six.ensures.second c.set_six.ensures.next c.write.ensures c.write-2.ensures in
    let rest = both_kept pivot c.take_out.new.lists c.args.second.now a0 a1 c.set_six.new.self c.write.new.rows
    c.write-2.new.rows id one
    two next_one next_two c.take_out.ensures.linked twos attached out_one out_two one_in c.requires.two
    c.swap_first-next_one.ensures.was c.swap_first-next_two.ensures.was c.set_six.ensures.first
    c.set_six.ensures.second c.set_six.ensures.next c.write.ensures c.write-2.ensures in
    settled_kept pivot c.args.first.now (set c.take_out.new.lists one (Some id)) c.args.second.now
    (set c.args.second.now two (Some id)) old a0 c.write-2.new.rows id one two c.requires.board
    c.take_out.ensures.moved kept ones seconds rest
