use Rattle.std.proofs.Common.{◌/◌, ◌%◌, arith}
use Rattle.pages.proofs.Joining.{ends_in}
use Rattle.pages.proofs.pages.Pages.push.Goals as goal

pub push_place-requires-clause-last : goal.push_place-requires-clause-last
push_place-requires-clause-last g c = ends_in c.self.inside.pages.items c.self.invariant.0 (c.self.inside.len / 64)
    (c.self.inside.len % 64)
    (omega (arith, c.self.invariant.1)) (omega arith)
