use Rattle.std.proofs.Common.{◌≡◌, ◌≤◌, length, subst, sym}
use Rattle.step_core.specs.Cores.{RestsOnNumber, step_numbered}
use Rattle.step_core.proofs.Numbering.{line_step}
use Rattle.step_core.proofs.listing.Core.step.Goals as goal

pub returns-clause-earlier : goal.returns-clause-earlier
returns-clause-earlier c k rests =
    let last : c.args.i ≤ length c.self.inside.lines.items = rw (← c.self.view_is) at c.requires.last in
    let step : step_numbered c.self.inside.lines.items c.args.i ≡ c.index.result.now.step =
    line_step c.self.inside.lines.items c.args.i c.index.result.now c.requires.first last c.index.ensures in
    c.self.invariant.earlier c.args.i k c.requires.first last (subst (λ s. RestsOnNumber s k) (sym step) rests)
