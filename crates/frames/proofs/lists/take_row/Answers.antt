use Rattle.std.proofs.Common.{◌≡◌, ◌+◌, ◌≤◌, ◌∙◌, ℕ, length, ap, arith}
use Rattle.frames.proofs.Holding.{counted_taken, taken_room}
use Rattle.frames.proofs.lists.take_row.Goals as goal

pub take-requires-clause-some : goal.take-requires-clause-some
take-requires-clause-some c =
    (taken_room c.args.total.now c.args.rows.now.items c.last_row.new.rows.items c.args.groups.now
    c.last_row.new.groups c.in-Some.row c.in-Some.ensures.last_row c.in-Some.ensures.last c.last_row.ensures.order
    c.requires.counted).0

pub take-requires-clause-fits : goal.take-requires-clause-fits
take-requires-clause-fits c =
    let same : length c.lits.result.now ≡ length c.in-Some.row = ap length c.lits.ensures in
    let room : length c.in-Some.row ≤ c.args.total.now.literals =
    (taken_room c.args.total.now c.args.rows.now.items c.last_row.new.rows.items c.args.groups.now
    c.last_row.new.groups c.in-Some.row c.in-Some.ensures.last_row c.in-Some.ensures.last c.last_row.ensures.order
    c.requires.counted).1 in
    omega (arith, same, room)

pub returns-clause-counted : goal.returns-clause-counted
returns-clause-counted c =
    counted_taken c.args.total.now c.take.new.self c.args.rows.now.items c.last_row.new.rows.items
    c.args.groups.now c.last_row.new.groups c.in-Some.row c.in-Some.ensures.last_row c.in-Some.ensures.last
    c.last_row.ensures.order c.take.ensures.clauses
    (c.take.ensures.literals ∙ ap (λ (k : ℕ). c.take.new.self.literals + k) (ap length c.lits.ensures))
    c.requires.counted
