use Rattle.std.proofs.Common.{◌≡◌, ap, ◌∙◌}
use Rattle.calculus.specs.Rows.{without}
use Rattle.frames.specs.Kept.{literals_of}
use Rattle.frames.proofs.Assuming.{entry_removed, without_ascends}
use Rattle.frames.proofs.assumptions.Assumptions.remove.Goals as goal

pub invariant_of-self : goal.invariant_of-self
invariant_of-self c =
    let is : literals_of c.remove.new.self.entries ≡ without c.args.v (literals_of c.self.inside.signs.entries) =
    ap literals_of c.remove.ensures.entries ∙ entry_removed c.self.inside.signs.entries c.args.v c.self.invariant in
    rw is (without_ascends c.args.v (literals_of c.self.inside.signs.entries) c.self.invariant)

pub returns : goal.returns
returns c =
    ap literals_of c.remove.ensures.entries ∙ entry_removed c.self.inside.signs.entries c.args.v c.self.invariant
    ∙ ap (without c.args.v) c.self.view_is
