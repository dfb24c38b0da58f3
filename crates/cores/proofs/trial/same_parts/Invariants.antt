use Rattle.std.proofs.Common.{◌≡◌, ◌++◌, drop}
use Rattle.std.specs.List.{flat_map}
use Rattle.cores.proofs.trial.same_parts.Given as goal

-- with the parts behind it is the same
abbrev pub invariant-loop-part : goal.invariant-loop-part
invariant-loop-part l = l.matrix ++ flat_map (λ part. part.now) (drop l.part-index l.part-items) ≡ l.kept
