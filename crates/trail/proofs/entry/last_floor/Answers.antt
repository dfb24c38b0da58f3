use Rattle.std.proofs.Common.{sym}
use Rattle.trail.proofs.Tallies.{last_floor_at}
use Rattle.trail.proofs.entry.last_floor.Goals as goal

pub returns-in-Some : goal.returns-in-Some
returns-in-Some c = last_floor_at c.args.entries.now c.in-Some.entry.now (sym c.in-Some.ensures.value) c.requires
