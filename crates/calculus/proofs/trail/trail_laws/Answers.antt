use Rattle.std.proofs.Common.{[]}
use Rattle.calculus.proofs.Fronts.{has_cause, cause_new, cause_front, cut_cause, ordered_front}
use Rattle.calculus.proofs.TrailLaws.{placed_value, value_literal, cut_value_from, cut_ordered}
use Rattle.calculus.proofs.TrailMoves.{ordered_more, value_new, value_front, place_front}
use Rattle.calculus.proofs.trail.trail_laws.Goals as goal

pub returns : goal.returns
returns c = record {
  literal_value = λ scopes trail ordered p i. placed_value scopes [] trail ordered p i;
  value_literal = value_literal;
  has_cause = has_cause;
  push_new = λ trail p fresh. let r = value_new trail p fresh in (r.0, cause_new trail p [] fresh, r.1);
  front_stays = λ front back x known. (
    value_front front back x known,
    cause_front front back x known,
    (place_front front back x known).0,
  );
  cut_value = λ trail b x. cut_value_from 0 b trail x;
  cut_cause = cut_cause;
  cut_order = λ scopes trail b ordered. cut_ordered scopes [] 0 b trail ordered;
  front_order = λ scopes front back ordered. ordered_front scopes [] front back ordered;
  push_order = λ scopes trail p ordered i fresh may. ordered_more scopes [] trail p ordered i fresh may;
}
