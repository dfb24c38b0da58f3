-- Numbers of variables.
use Rattle.std.proofs.Common.{ℕ, ◌≤◌, List, [], ◌∷◌, arith}
use Rattle.std.specs.List.{AllByRecursion}
use Rattle.std.proofs.Math.Nat.{max-le}
use Rattle.qrp_trace.specs.Texts.{greatest}

-- the greatest of some is within their range
pub greatest_within : (xs : List ℕ) → AllByRecursion (λ v. (1 ≤ v) × (v ≤ 1048576)) xs → greatest xs ≤ 1048576
greatest_within [] all = omega arith
greatest_within (x ∷ xs) all = max-le all.0.1 (greatest_within xs all.1)
