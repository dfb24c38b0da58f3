use Rattle.std.proofs.Common.{◌≡◌, Some, drop, length, take}
use Rattle.std.specs.Prelude.{flat_map}
use Rattle.prefix.specs.Scopes.{quantifier_at, variables_at}
use Rattle.engine.specs.Refusals.{winner_of}
use Rattle.engine.specs.State.{VerdictState}
use Rattle.blocks.specs.Held.{PassesOn}
use Rattle.files.proofs.Outermost.{value_at}
use Rattle.files.proofs.file.put_values.Given as goal

-- the values of the variables so far are written, and the other variables follow
abbrev pub invariant-loop-var : goal.invariant-loop-var
invariant-loop-var g l = ((v : VerdictState) → l.engine.verdict ≡ Some v
    → quantifier_at l.engine.formula.scopes 1 ≡ Some (winner_of v.truth)
    → PassesOn g.S.Sink.written g.S.Sink.flushed g.S.Sink.faults g.S.Sink.has_room l.initial.sink l.initial.block
    l.sink l.block
    (flat_map (value_at l.engine.formula v) (take (length l.yielded) (variables_at l.engine.formula.scopes 1))))
    × (l.var-iterator ≡ drop (length l.yielded) (variables_at l.engine.formula.scopes 1))
