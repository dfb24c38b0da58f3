use Rattle.std.proofs.Common.{[], refl}
use Rattle.calculus.proofs.Reasons.{opposes, on_trail, units_after}
use Rattle.calculus.proofs.trail.reasons_oppose.Goals as goal

pub returns : goal.returns
returns c = record {
  placed = opposes;
  on_trail = on_trail;
  give_reasons = λ scopes steps trail ordered clauses cubes. units_after scopes steps trail clauses cubes [] trail refl
      ordered;
}
