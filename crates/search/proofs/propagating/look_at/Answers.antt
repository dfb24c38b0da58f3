use Rattle.search.proofs.Assigning.{held_look}
use Rattle.search.proofs.propagating.look_at.Goals as goal

pub next-requires-clause-holds : goal.next-requires-clause-holds
next-requires-clause-holds c = c.requires.searching.1.paused.intact.watching.holds c.args.side

pub next-requires-clause-front : goal.next-requires-clause-front
next-requires-clause-front c = c.requires.searching.1.paused.intact.watching.front c.args.side

pub next-requires-clause-room : goal.next-requires-clause-room
next-requires-clause-room c = c.requires.searching.1.paused.intact.watching.room c.args.side

pub returns-clause-looks : goal.returns-clause-looks
returns-clause-looks c s searching =
    held_look c.args.prefix.now c.args.side s c.args.watches.now c.next.new.self c.args.trail.now c.args.rows.now
    c.next.new.rows c.next.ensures.same c.next.ensures.agrees c.next.ensures.others c.next.ensures.holds
    c.next.ensures.looked c.next.ensures.room c.next.ensures.marks searching
