use Rattle.std.proofs.Common.{◌≡◌, false, take}
use Rattle.std.specs.Prelude.{neg_ℤ}
use Rattle.std.specs.List.{list_any}
use Rattle.clauses.specs.Clause.{has_literal}
use Rattle.clauses.proofs.scan.is_tautology.Given as goal

-- no literal so far stands beside its negation
abbrev pub invariant-loop-n : goal.invariant-loop-n
invariant-loop-n l = list_any (λ m. has_literal (neg_ℤ m) l.numbers) (take l.n-index l.numbers) ≡ false
