use Rattle.std.proofs.Common.{◌≡◌, drop}
use Rattle.truth.specs.Truth.{assumed_value}
use Rattle.test_engine.proofs.extract_tests.assumed.Given as goal

abbrev pub invariant-loop-lit : goal.invariant-loop-lit
invariant-loop-lit l = assumed_value (drop l.lit-index l.assumptions) l.v ≡ assumed_value l.assumptions l.v
