use Rattle.calculus.proofs.Lowering.{lower_unit, must_unit, must_least, must_below}
use Rattle.calculus.proofs.search.lower_levels_make_unit.Goals as goal

pub returns : goal.returns
returns c = record {
  makes = lower_unit;
  must = λ pivot scopes trail row e b is_row clean stands p low bound. must_unit pivot scopes row e trail b is_row clean
      stands p low bound;
  least = λ pivot scopes trail row e b makes. must_least pivot scopes row e trail b makes;
  decided = λ pivot scopes trail row e ordered is_row clean last decided. must_below pivot scopes row e trail ordered
      is_row clean last decided;
}
