use Rattle.search.proofs.WorkingStops.{stops}
use Rattle.search.proofs.worked.worked_stops.Goals as goal

pub returns : goal.returns
returns c = stops
