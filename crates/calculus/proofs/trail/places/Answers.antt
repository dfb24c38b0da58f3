use Rattle.calculus.proofs.Fronts.{place_some, place_none, place_take, before_parts, before_take, before_open}
use Rattle.calculus.proofs.trail.places.Goals as goal

pub returns : goal.returns
returns c = record {
  assigned = place_some;
  unassigned = place_none;
  before = before_parts;
  before_taken = before_take;
  before_open = before_open;
  taken = place_take;
}
