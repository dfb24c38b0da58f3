use Rattle.std.proofs.Common.{None}
use Rattle.calculus.specs.Search.{value_on}
use Rattle.calculus.proofs.Searching.{bad_assigned}
use Rattle.calculus.proofs.Turns.{none_open, as_pending, turn_no_clash, result_row, analysed_clean, analysed_before}
use Rattle.calculus.proofs.TrailLaws.{reason_from}
use Rattle.calculus.proofs.search.lasts_resolve.Goals as goal

pub returns : goal.returns
returns c pivot scopes trail row reason e may clean last =
    let assigned = bad_assigned pivot (value_on trail e.variable) e (clean e last.stands) in
    let is_reason = reason_from pivot trail e reason assigned may.clean in
    let opens = none_open pivot scopes trail row reason e may.row_is may.reason_is clean is_reason in
    let pending = as_pending pivot scopes trail row reason e may.row_is may.reason_is clean is_reason in
    record {
      no_clash = turn_no_clash pivot scopes trail None opens row reason e may.row_is may.reason_is pending is_reason;
      is_row = result_row pivot scopes trail None opens row reason e may.row_is may.reason_is pending is_reason;
      clean = analysed_clean pivot scopes trail row reason e may.row_is may.reason_is clean is_reason;
      earlier = analysed_before pivot scopes trail row reason e may.row_is may.reason_is clean is_reason assigned
          last.last;
    }
