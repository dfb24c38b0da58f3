use Rattle.std.proofs.Common.{ap, ◌∙◌}
use Rattle.calculus.specs.Search.{value_on, place_on, is_bad_if}
use Rattle.calculus.proofs.Searching.{bad_assigned, bad_not_open, blocker_bad}
use Rattle.calculus.proofs.Turns.{turn_no_clash, result_row, result_pending, result_blockers, result_keeps}
use Rattle.calculus.proofs.TrailLaws.{reason_from}
use Rattle.calculus.proofs.search.blockers_resolve.Goals as goal

pub returns : goal.returns
returns c pivot scopes trail kept row reason f kept_open may pending last =
    let bad = blocker_bad pivot scopes (value_on trail) (place_on trail) kept kept_open row pending f last.blocked
    last.blocks in
    let assigned = bad_assigned pivot (value_on trail f.variable) f bad in
    let is_reason = reason_from pivot trail f reason assigned may.clean in
    record {
      no_clash = turn_no_clash pivot scopes trail kept kept_open row reason f may.row_is may.reason_is pending
          is_reason;
      is_row = result_row pivot scopes trail kept kept_open row reason f may.row_is may.reason_is pending is_reason;
      pending = result_pending pivot scopes trail kept kept_open row reason f may.row_is may.reason_is pending
          is_reason;
      earlier = result_blockers pivot scopes trail kept kept_open row reason f may.row_is may.reason_is pending
          is_reason assigned last.last;
      keeps = λ k e i p. result_keeps pivot scopes trail kept kept_open row reason f may.row_is may.reason_is pending
          is_reason k i p
          (λ same. bad_not_open pivot (value_on trail k.variable) f (ap (λ x. is_bad_if pivot (value_on trail x) f) same
          ∙ bad) (kept_open k e));
    }
