use Rattle.std.proofs.Common.{rules}
use Rattle.std.proofs.lemmas.List.Sorted.{IsPartitionPoint-from_clause}
use Rattle.engine.proofs.Looking.{is_before, partitioned}
use Rattle.engine.proofs.lookup.place_of.Goals as goal

pub returns-clause-place : goal.returns-clause-place
returns-clause-place c = IsPartitionPoint-from_clause (is_before c.args.v) c.args.row.now c.partition_point.result
    c.partition_point.ensures.partitioned (partitioned c.args.row.now c.args.v c.requires)
    (λ a r f called. search rules)
