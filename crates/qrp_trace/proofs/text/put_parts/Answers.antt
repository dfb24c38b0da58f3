use Rattle.std.proofs.Common.{◌++◌, length}
use Rattle.std.specs.List.{flat_map, range_with_len}
use Rattle.blocks.proofs.Putting.{part_more, part_then, puts_err, puts_then}
use Rattle.prefix.specs.Scopes.{all_variables}
use Rattle.qrp_trace.specs.Texts.{greatest, header_line, scope_line, step_line, verdict_line}
use Rattle.qrp_trace.proofs.text.put_parts.Goals as goal

pub returns-in_err-put_header : goal.returns-in_err-put_header
returns-in_err-put_header g c =
    puts_err g.S.Sink.written g.S.Sink.flushed g.S.Sink.faults g.S.Sink.has_room _ c.from_residual.result
    c.args.sink.now c.args.block.now c.put_header.new.sink c.put_header.new.block _ c.from_residual.ensures.1
    (part_more g.S.Sink.written g.S.Sink.flushed g.S.Sink.faults g.S.Sink.has_room c.args.sink.now c.args.block.now
    c.put_header.new.sink c.put_header.new.block (header_line (greatest (all_variables c.args.prefix.now)) (length
    c.args.core.now.lines))
    (flat_map scope_line c.args.prefix.now
    ++ (flat_map (step_line c.args.core.now.lines) (range_with_len 1 (length c.args.core.now.lines))
    ++ verdict_line c.args.core.now.winner)) c.in_err-put_header.ensures)

pub returns-in_err-put_scopes : goal.returns-in_err-put_scopes
returns-in_err-put_scopes g c =
    puts_err g.S.Sink.written g.S.Sink.flushed g.S.Sink.faults g.S.Sink.has_room _
    c.from_residual-in_err-put_scopes.result c.args.sink.now c.args.block.now c.put_scopes.new.sink
    c.put_scopes.new.block _
    c.from_residual-in_err-put_scopes.ensures.1
    (part_then g.S.Sink.written g.S.Sink.flushed g.S.Sink.faults g.S.Sink.has_room c.args.sink.now c.args.block.now
    c.put_header.new.sink c.put_header.new.block c.put_scopes.new.sink c.put_scopes.new.block
    (header_line (greatest (all_variables c.args.prefix.now)) (length c.args.core.now.lines))
    (flat_map scope_line c.args.prefix.now
    ++ (flat_map (step_line c.args.core.now.lines) (range_with_len 1 (length c.args.core.now.lines))
    ++ verdict_line c.args.core.now.winner)) c.in_ok-put_header.ensures
    (part_more g.S.Sink.written g.S.Sink.flushed g.S.Sink.faults g.S.Sink.has_room c.put_header.new.sink
    c.put_header.new.block
    c.put_scopes.new.sink c.put_scopes.new.block (flat_map scope_line c.args.prefix.now)
    (flat_map (step_line c.args.core.now.lines) (range_with_len 1 (length c.args.core.now.lines))
    ++ verdict_line c.args.core.now.winner) c.in_err-put_scopes.ensures))

pub returns-in_err-put_steps : goal.returns-in_err-put_steps
returns-in_err-put_steps g c =
    puts_err g.S.Sink.written g.S.Sink.flushed g.S.Sink.faults g.S.Sink.has_room _
    c.from_residual-in_err-put_steps.result c.args.sink.now c.args.block.now c.put_steps.new.sink c.put_steps.new.block
    _
    c.from_residual-in_err-put_steps.ensures.1
    (part_then g.S.Sink.written g.S.Sink.flushed g.S.Sink.faults g.S.Sink.has_room c.args.sink.now c.args.block.now
    c.put_header.new.sink c.put_header.new.block c.put_steps.new.sink c.put_steps.new.block
    (header_line (greatest (all_variables c.args.prefix.now)) (length c.args.core.now.lines))
    (flat_map scope_line c.args.prefix.now
    ++ (flat_map (step_line c.args.core.now.lines) (range_with_len 1 (length c.args.core.now.lines))
    ++ verdict_line c.args.core.now.winner)) c.in_ok-put_header.ensures
    (part_then g.S.Sink.written g.S.Sink.flushed g.S.Sink.faults g.S.Sink.has_room c.put_header.new.sink
    c.put_header.new.block
    c.put_scopes.new.sink c.put_scopes.new.block c.put_steps.new.sink c.put_steps.new.block (flat_map scope_line
    c.args.prefix.now)
    (flat_map (step_line c.args.core.now.lines) (range_with_len 1 (length c.args.core.now.lines))
    ++ verdict_line c.args.core.now.winner) c.in_ok-put_scopes.ensures
    (part_more g.S.Sink.written g.S.Sink.flushed g.S.Sink.faults g.S.Sink.has_room c.put_scopes.new.sink
    c.put_scopes.new.block
    c.put_steps.new.sink c.put_steps.new.block (flat_map (step_line c.args.core.now.lines)
    (range_with_len 1 (length c.args.core.now.lines)))
    (verdict_line c.args.core.now.winner) c.in_err-put_steps.ensures)))

pub returns : goal.returns
returns g c =
    puts_then g.S.Sink.written g.S.Sink.flushed g.S.Sink.faults g.S.Sink.has_room c.put_verdict.result
    c.args.sink.now c.args.block.now c.put_header.new.sink c.put_header.new.block c.put_verdict.new.sink
    c.put_verdict.new.block
    (header_line (greatest (all_variables c.args.prefix.now)) (length c.args.core.now.lines))
    (flat_map scope_line c.args.prefix.now
    ++ (flat_map (step_line c.args.core.now.lines) (range_with_len 1 (length c.args.core.now.lines))
    ++ verdict_line c.args.core.now.winner)) c.in_ok-put_header.ensures
    (puts_then g.S.Sink.written g.S.Sink.flushed g.S.Sink.faults g.S.Sink.has_room c.put_verdict.result
    c.put_header.new.sink c.put_header.new.block c.put_scopes.new.sink c.put_scopes.new.block c.put_verdict.new.sink
    c.put_verdict.new.block (flat_map scope_line c.args.prefix.now)
    (flat_map (step_line c.args.core.now.lines) (range_with_len 1 (length c.args.core.now.lines))
    ++ verdict_line c.args.core.now.winner) c.in_ok-put_scopes.ensures
    (puts_then g.S.Sink.written g.S.Sink.flushed g.S.Sink.faults g.S.Sink.has_room c.put_verdict.result
    c.put_scopes.new.sink c.put_scopes.new.block c.put_steps.new.sink c.put_steps.new.block c.put_verdict.new.sink
    c.put_verdict.new.block
    (flat_map (step_line c.args.core.now.lines) (range_with_len 1 (length c.args.core.now.lines)))
    (verdict_line c.args.core.now.winner) c.in_ok-put_steps.ensures ((rw c.winner.ensures at c.put_verdict.ensures))))
