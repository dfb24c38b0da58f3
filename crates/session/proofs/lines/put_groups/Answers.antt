use Rattle.std.proofs.Common.{◌++◌, codes}
use Rattle.std.specs.List.{flat_map}
use Rattle.blocks.proofs.Putting.{part_more, part_then, puts_err, puts_then}
use Rattle.qrp_trace.specs.Texts.{number_word}
use Rattle.session.proofs.lines.put_groups.Goals as goal

pub returns-in_err-put : goal.returns-in_err-put
returns-in_err-put g c =
    let written = g.S.Sink.written in
    let flushed = g.S.Sink.flushed in
    let faults = g.S.Sink.faults in
    let has_room = g.S.Sink.has_room in
    puts_err written flushed faults has_room _ c.from_residual.result c.args.sink.now c.args.block.now c.put.new.sink
    c.put.new.self _ c.from_residual.ensures.1
    (part_more written flushed faults has_room c.args.sink.now c.args.block.now c.put.new.sink c.put.new.self (codes
    "core ") (flat_map number_word c.args.groups.now ++ codes "0\n") c.in_err-put.ensures)

pub returns-in_err-put_numbers : goal.returns-in_err-put_numbers
returns-in_err-put_numbers g c =
    let written = g.S.Sink.written in
    let flushed = g.S.Sink.flushed in
    let faults = g.S.Sink.faults in
    let has_room = g.S.Sink.has_room in
    puts_err written flushed faults has_room _ c.from_residual-in_err-put_numbers.result c.args.sink.now
    c.args.block.now c.put_numbers.new.sink c.put_numbers.new.block _ c.from_residual-in_err-put_numbers.ensures.1
    (part_then written flushed faults has_room c.args.sink.now c.args.block.now c.put.new.sink c.put.new.self
    c.put_numbers.new.sink c.put_numbers.new.block
    (codes "core ") (flat_map number_word c.args.groups.now ++ codes "0\n") c.in_ok-put.ensures
    (part_more written flushed faults has_room c.put.new.sink c.put.new.self c.put_numbers.new.sink
    c.put_numbers.new.block (flat_map number_word c.args.groups.now) (codes "0\n") c.in_err-put_numbers.ensures))

pub returns : goal.returns
returns g c =
    let written = g.S.Sink.written in
    let flushed = g.S.Sink.flushed in
    let faults = g.S.Sink.faults in
    let has_room = g.S.Sink.has_room in
    puts_then written flushed faults has_room c.put-2.result c.args.sink.now c.args.block.now c.put.new.sink
    c.put.new.self c.put-2.new.sink c.put-2.new.self
    (codes "core ") (flat_map number_word c.args.groups.now ++ codes "0\n") c.in_ok-put.ensures
    (puts_then written flushed faults has_room c.put-2.result c.put.new.sink c.put.new.self c.put_numbers.new.sink
    c.put_numbers.new.block
    c.put-2.new.sink c.put-2.new.self (flat_map number_word c.args.groups.now) (codes "0\n") c.in_ok-put_numbers.ensures
    c.put-2.ensures)
