use Rattle.std.proofs.Common.{◌≡◌, false, take, nat_abs}
use Rattle.std.specs.Prelude.{◌==◌}
use Rattle.std.specs.List.{list_any}
use Rattle.clauses.proofs.scan.is_repeated.Given as goal

-- no literal so far has the variable
abbrev pub invariant-loop-m : goal.invariant-loop-m
invariant-loop-m l = list_any (λ m. nat_abs m == l.v) (take l.m-index l.m-items) ≡ false
