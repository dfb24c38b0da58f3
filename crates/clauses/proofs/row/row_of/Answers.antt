use Rattle.clauses.proofs.Codes.{are_positive, codes_in_range}
use Rattle.clauses.proofs.row.row_of.Goals as goal

pub row_of_codes-requires : goal.row_of_codes-requires
row_of_codes-requires c = rw c.in_ok-codes.ensures (codes_in_range c.args.numbers.now c.requires)

pub returns : goal.returns
returns c = c.in_ok-row.ensures c.args.numbers.now (are_positive c.args.numbers.now c.requires) c.in_ok-codes.ensures
