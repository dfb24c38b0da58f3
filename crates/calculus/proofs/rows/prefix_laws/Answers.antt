use Rattle.calculus.proofs.Levels.{depth_at_least, one_quantifier, level_in_prefix, has_level, has_quantifier}
use Rattle.calculus.proofs.rows.prefix_laws.Goals as goal

pub returns : goal.returns
returns c = record {
  positive = depth_at_least;
  one_quantifier = one_quantifier;
  in_prefix = level_in_prefix;
  has_level = has_level;
  has_quantifier = has_quantifier;
}
