use Rattle.std.proofs.Common.{◌*◌, ◌+◌, ◌%◌, ◌≤◌, length, None, sym, arith}
use Rattle.watch.proofs.Laying.{head_read, past_none}
use Rattle.watch.proofs.lists.entry.Goals as goal

pub returns-then-at-len : goal.returns-then-at-len
returns-then-at-len c = head_read c.args.entries.now.items c.args.slots.now.items c.args.place c.index.result.now
    c.get.result c.requires c.index.ensures c.get.ensures

pub returns : goal.returns
returns c =
    let at = 4 * c.index.result.now + c.args.place % 4 in
    let past : length c.args.entries.now.items ≤ at = omega arith in
    head_read c.args.entries.now.items c.args.slots.now.items c.args.place c.index.result.now None
    c.requires c.index.ensures (sym (past_none c.args.entries.now.items at past))
