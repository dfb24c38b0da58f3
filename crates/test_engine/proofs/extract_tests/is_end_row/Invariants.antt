use Rattle.std.proofs.Common.{Contains, take}
use Rattle.prefix.specs.Literal.{Literal}
use Rattle.test_engine.proofs.Ending.{MayEnd}
use Rattle.test_engine.proofs.extract_tests.is_end_row.Given as goal

abbrev pub invariant-loop-lit : goal.invariant-loop-lit
invariant-loop-lit l = (m : Literal) → Contains (take l.lit-index l.row) m → MayEnd l.side l.prefix l.assumptions m
