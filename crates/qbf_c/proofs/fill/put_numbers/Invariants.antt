use Rattle.std.proofs.Common.{◌≡◌, ◌++◌, drop, map, take}
use Rattle.prefix.specs.Literal.{signed_number}
use Rattle.qbf_c.proofs.fill.put_numbers.Given as goal

-- the numbers so far, and what stood behind them
abbrev pub invariant-loop-i : goal.invariant-loop-i
invariant-loop-i l = l.buffer ≡ map signed_number (take l.i l.lits) ++ drop l.i l.initial.buffer
