use Rattle.std.proofs.Common.{◌≡◌, ◌++◌, take}
use Rattle.std.specs.List.{flat_map}
use Rattle.qbf_c.proofs.copied.put_parts.Given as goal

-- the copies so far
abbrev pub invariant-loop-part : goal.invariant-loop-part
invariant-loop-part l =
    l.rows.items ≡ l.initial.rows.items ++ flat_map (λ part. part.now) (take l.part-index l.more)
