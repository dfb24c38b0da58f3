use Rattle.std.specs.Fmt.{decimal}
use Rattle.blocks.specs.Lines.{spaced}
use Rattle.qdimacs_out.proofs.GoneOver.{PutBefore}
use Rattle.qdimacs_out.proofs.write.put_variables.Given as goal

-- the numbers so far are put, and the others follow
abbrev pub invariant-loop-v : goal.invariant-loop-v
invariant-loop-v g l =
    PutBefore g.S.Sink.written g.S.Sink.flushed g.S.Sink.faults g.S.Sink.has_room (λ v. spaced (decimal v))
    l.vars.keys l.v-iterator l.initial.sink l.initial.block l.sink l.block
