use Rattle.std.proofs.Common.{◌≡◌, Contains, Some, take}
use Rattle.prefix.specs.Literal.{Literal}
use Rattle.prefix.specs.Scopes.{level_of}
use Rattle.test_engine.proofs.extract_tests.are_outer.Given as goal

abbrev pub invariant-loop-lit : goal.invariant-loop-lit
invariant-loop-lit l = (m : Literal) → Contains (take l.lit-index l.assumptions) m
    → level_of l.prefix m.variable ≡ Some 1
