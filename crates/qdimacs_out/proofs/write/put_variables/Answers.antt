use Rattle.std.specs.Fmt.{decimal}
use Rattle.blocks.specs.Lines.{spaced}
use Rattle.qdimacs_out.proofs.GoneOver.{put_next, put_none, put_stops}
use Rattle.qdimacs_out.proofs.write.put_variables.Goals as goal

pub loop-v-init : goal.loop-v-init
loop-v-init g c =
    put_none g.S.Sink.written g.S.Sink.flushed g.S.Sink.faults g.S.Sink.has_room (λ v. spaced (decimal v))
    c.args.vars.now.keys c.args.sink.now c.args.block.now c.into_iter-v-iterator.result
    c.into_iter-v-iterator.ensures.into_iter_gives.0

pub loop-v-preserved : goal.loop-v-preserved
loop-v-preserved g c =
    put_next g.S.Sink.written g.S.Sink.flushed g.S.Sink.faults g.S.Sink.has_room (λ v. spaced (decimal v))
    c.args.vars.now.keys c.args.sink.now c.args.block.now c.loop-v.v-iterator c.next.new.self c.in-Some.v.now
    c.loop-v.sink c.loop-v.block c.put_line.new.sink c.put_line.new.self c.variable.result c.in-Some.ensures.steps
    c.variable.ensures c.loop-v.invariant c.in_ok-put_line.ensures

pub returns-in_err-put_line : goal.returns-in_err-put_line
returns-in_err-put_line g c =
    put_stops g.S.Sink.written g.S.Sink.flushed g.S.Sink.faults g.S.Sink.has_room (λ v. spaced (decimal v))
    c.args.vars.now.keys c.args.sink.now c.args.block.now _ c.from_residual.result c.loop-v.v-iterator
    c.next.new.self c.in-Some.v.now c.loop-v.sink c.loop-v.block c.put_line.new.sink c.put_line.new.self
    c.variable.result c.in-Some.ensures.steps c.variable.ensures c.loop-v.invariant c.in_err-put_line.ensures
    c.from_residual.ensures.1
