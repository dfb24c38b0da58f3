use Rattle.std.proofs.Common.{◌≡◌, ◌≤◌, ◌+◌, ◌-◌, ◌++◌, suc, take, drop, get_or, length, arith, ap}
use Rattle.std.specs.List.{flat_map}
use Rattle.ports.proofs.Pieces.{flat_more, flat_split}
use Rattle.blocks.proofs.Putting.{nothing, part_more, part_then, puts_err, whole_then}
use Rattle.std.proofs.Common.{[]}
use Rattle.prefix.specs.declared.quant.Quant.TheVariants.{Exists}
use Rattle.qrp_trace.specs.Texts.{scope_line, scope_numbered}
use Rattle.qrp_trace.proofs.text.put_scopes.Goals as goal

pub loop-s-init : goal.loop-s-init
loop-s-init g c = nothing g.S.Sink.written g.S.Sink.flushed g.S.Sink.faults g.S.Sink.has_room c.args.sink.now
    c.args.block.now

pub loop-s-preserved : goal.loop-s-preserved
loop-s-preserved g c =
    let xs = c.args.prefix.now in
    let f = scope_line in
    let here : f (get_or xs c.loop-s.s (record { quantifier = Exists; variables = [] })) ≡ scope_line
    (scope_numbered c.args.prefix.now (c.loop-s.s + 1)) =
    ap (λ k. scope_line (get_or c.args.prefix.now k (record { quantifier = Exists; variables = [] })))
    (let e : c.loop-s.s ≡ c.loop-s.s + 1 - 1 = omega arith in e) in
    let below : suc c.loop-s.s ≤ length xs = (omega arith) in
    rw (flat_more f xs c.loop-s.s (record { quantifier = Exists; variables = [] }) below, here)
    (whole_then g.S.Sink.written g.S.Sink.flushed g.S.Sink.faults g.S.Sink.has_room c.args.sink.now c.args.block.now
    c.loop-s.sink c.loop-s.block
    c.put_scope.new.sink c.put_scope.new.block (flat_map f (take c.loop-s.s xs))
    (scope_line (scope_numbered c.args.prefix.now (c.loop-s.s + 1))) c.loop-s.invariant c.in_ok-put_scope.ensures)

pub returns-in_err-put_scope : goal.returns-in_err-put_scope
returns-in_err-put_scope g c =
    let xs = c.args.prefix.now in
    let f = scope_line in
    let here : f (get_or xs c.loop-s.s (record { quantifier = Exists; variables = [] })) ≡ scope_line
    (scope_numbered c.args.prefix.now (c.loop-s.s + 1)) =
    ap (λ k. scope_line (get_or c.args.prefix.now k (record { quantifier = Exists; variables = [] })))
    (let e : c.loop-s.s ≡ c.loop-s.s + 1 - 1 = omega arith in e) in
    let below : suc c.loop-s.s ≤ length xs = (omega arith) in
    rw (flat_split f xs c.loop-s.s (record { quantifier = Exists; variables = [] }) below, here)
    (puts_err g.S.Sink.written g.S.Sink.flushed g.S.Sink.faults g.S.Sink.has_room _ c.from_residual.result
    c.args.sink.now c.args.block.now c.put_scope.new.sink c.put_scope.new.block _ c.from_residual.ensures.1
    (part_then g.S.Sink.written g.S.Sink.flushed g.S.Sink.faults g.S.Sink.has_room c.args.sink.now c.args.block.now
    c.loop-s.sink c.loop-s.block
    c.put_scope.new.sink c.put_scope.new.block (flat_map f (take c.loop-s.s xs))
    (scope_line (scope_numbered c.args.prefix.now (c.loop-s.s + 1)) ++ flat_map f (drop (c.loop-s.s + 1) xs))
    c.loop-s.invariant (part_more g.S.Sink.written g.S.Sink.flushed g.S.Sink.faults g.S.Sink.has_room
    c.loop-s.sink c.loop-s.block c.put_scope.new.sink c.put_scope.new.block (scope_line (scope_numbered
    c.args.prefix.now (c.loop-s.s + 1)))
    (flat_map f (drop (c.loop-s.s + 1) xs)) c.in_err-put_scope.ensures)))
