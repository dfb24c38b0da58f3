use Rattle.std.proofs.Common.{arith}
use Rattle.prefix.specs.Scopes.{all_variables}
use Rattle.qbf_c.proofs.Numbers.{greatest_within}
use Rattle.qbf_c.proofs.formulas.header_of.Goals as goal

pub overflow_cast-result : goal.overflow_cast-result
overflow_cast-result c =
    let small = greatest_within (all_variables c.args.prefix.now) c.scopes-valid.ensures.valid.in_range in
    let is = c.greatest_variable-vars.ensures in
    omega (arith, small, is)
