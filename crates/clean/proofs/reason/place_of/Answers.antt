use Rattle.std.proofs.Common.{◌∙◌, ap₂, unwrap_or, refl}
use Rattle.calculus.specs.Search.{value_on}
use Rattle.clean.proofs.Fronts.{end_at}
use Rattle.clean.proofs.reason.place_of.Goals as goal

pub returns-clause-place : goal.returns-clause-place
returns-clause-place c =
    let trail = c.args.trail.now.placed in
    c.unwrap_or.ensures ∙ (ap₂ unwrap_or c.place.ensures.value c.len.ensures
    ∙ end_at trail c.args.v (value_on trail c.args.v) refl)
