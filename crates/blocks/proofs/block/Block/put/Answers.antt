use Rattle.std.proofs.Common.{[], take, drop, take-append-drop, arith}
use Rattle.std.proofs.Math.Seq.{take-add}
use Rattle.std.proofs.lemmas.List.{append-nil, length-drop, take_rest}
use Rattle.blocks.proofs.Putting.{held_more, nothing, part_more, part_then, puts_err, whole_then}
use Rattle.blocks.proofs.block.Block.put.Goals as goal

pub loop-done-init : goal.loop-done-init
loop-done-init g c = record {
  within = omega arith;
  passed = nothing g.S.Sink.written g.S.Sink.flushed g.S.Sink.faults g.S.Sink.has_room c.args.sink.now c.args.self.now;
}

pub loop-done-preserved : goal.loop-done-preserved
loop-done-preserved g c =
    let bytes = c.args.bytes.now in
    let done = c.loop-done.done in
    let n = c.take_front-done.result in
    let rest = take_rest bytes done in
    let some = rw (rest, length-drop) at c.take_front-done.ensures.count in
    let front = rw rest at c.take_front-done.ensures.taken in
    record {
      within = omega (arith, some);
      passed = rw (take-add done n bytes)
          (whole_then g.S.Sink.written g.S.Sink.flushed g.S.Sink.faults g.S.Sink.has_room c.args.sink.now
          c.args.self.now c.make_room.new.sink c.make_room.new.self c.make_room.new.sink c.take_front-done.new.self
          (take done bytes) (take n (drop done bytes))
          (rw (append-nil (take done bytes)) at
          (whole_then g.S.Sink.written g.S.Sink.flushed g.S.Sink.faults g.S.Sink.has_room c.args.sink.now
          c.args.self.now c.loop-done.sink c.loop-done.self c.make_room.new.sink c.make_room.new.self
          (take done bytes) [] c.loop-done.invariant.passed c.in_ok-make_room.ensures.puts))
          (held_more g.S.Sink.written g.S.Sink.flushed g.S.Sink.faults g.S.Sink.has_room c.make_room.new.sink
          c.make_room.new.self c.take_front-done.new.self (take n (drop done bytes)) front));
    }

pub returns-in_err-make_room : goal.returns-in_err-make_room
returns-in_err-make_room g c =
    let bytes = c.args.bytes.now in
    let done = c.loop-done.done in
    puts_err g.S.Sink.written g.S.Sink.flushed g.S.Sink.faults g.S.Sink.has_room _ c.from_residual.result
    c.args.sink.now c.args.self.now c.make_room.new.sink c.make_room.new.self bytes c.from_residual.ensures.1
    (rw (take-append-drop done bytes) at
    (part_then g.S.Sink.written g.S.Sink.flushed g.S.Sink.faults g.S.Sink.has_room c.args.sink.now c.args.self.now
    c.loop-done.sink c.loop-done.self c.make_room.new.sink c.make_room.new.self (take done bytes) (drop done bytes)
    c.loop-done.invariant.passed
    (part_more g.S.Sink.written g.S.Sink.flushed g.S.Sink.faults g.S.Sink.has_room c.loop-done.sink c.loop-done.self
    c.make_room.new.sink c.make_room.new.self [] (drop done bytes) c.in_err-make_room.ensures.puts)))
