use Rattle.std.proofs.Common.{◌≡◌, ◌+◌, ◌-◌, ◌^◌, length, min, take}
use Rattle.std.specs.List.{flat_map}
use Rattle.qbf_c.proofs.formulas.count_more.Given as goal

-- the clauses of the lists so far
abbrev pub invariant-loop-part : goal.invariant-loop-part
invariant-loop-part l =
    l.count ≡ min (l.first + length (flat_map (λ part. part.now) (take l.part-index l.more))) (2 ^ 64 - 1)
