use Rattle.std.proofs.Common.{[], refl}
use Rattle.calculus.proofs.Lists.{contains_nil}
use Rattle.calculus.proofs.Assuming.{given, push, cut, assumed_level, ordered_from}
use Rattle.calculus.proofs.trail.assumption_moves.Goals as goal

pub returns : goal.returns
returns c = record {
  given = given;
  given_order = λ scopes literals outer distinct. ordered_from scopes [] literals outer distinct (λ l i. refl)
      (λ p i. absurd (contains_nil p i));
  push = push;
  cut = cut;
  hold = λ trail assumptions has. record { entries = has.entries; values = λ x b e. (has.stand x b e).0 };
  level = λ scopes trail x ordered e. assumed_level scopes [] trail 0 ordered x e;
}
