use Rattle.std.proofs.Common.{◌≤◌, suc, length, arith, ap}
use Rattle.prefix.specs.Scopes.{Scope}
use Rattle.qdimacs_out.specs.Pieces.{scope_text}
use Rattle.qdimacs_out.proofs.Numbered.{scope_found}
use Rattle.blocks.proofs.Putting.{nothing, each_more, each_stops}
use Rattle.qdimacs_out.proofs.write.put_scopes.Goals as goal

pub loop-s-init : goal.loop-s-init
loop-s-init g c =
    nothing g.S.Sink.written g.S.Sink.flushed g.S.Sink.faults g.S.Sink.has_room c.args.sink.now
    c.args.block.now

pub loop-s-preserved : goal.loop-s-preserved
loop-s-preserved g c =
    let ss = c.args.prefix.now in
    let here : Scope = record { quantifier = c.unwrap.result; variables = c.vars_of.result.now.keys } in
    let below : suc c.loop-s.s ≤ length ss = omega arith in
    each_more g.S.Sink.written g.S.Sink.flushed g.S.Sink.faults g.S.Sink.has_room scope_text ss c.loop-s.s here
    c.args.sink.now c.args.block.now c.loop-s.sink c.loop-s.block c.put_scope.new.sink c.put_scope.new.block
    (scope_text here) below
    (ap scope_text (scope_found ss c.loop-s.s here c.unwrap.result c.scope_quant.result c.vars_of.result.now.keys below
    c.scope_quant.ensures.value c.unwrap.ensures c.vars_of.ensures)) c.loop-s.invariant c.in_ok-put_scope.ensures

pub returns-in_err-put_scope : goal.returns-in_err-put_scope
returns-in_err-put_scope g c =
    let ss = c.args.prefix.now in
    let here : Scope = record { quantifier = c.unwrap.result; variables = c.vars_of.result.now.keys } in
    let below : suc c.loop-s.s ≤ length ss = omega arith in
    each_stops g.S.Sink.written g.S.Sink.flushed g.S.Sink.faults g.S.Sink.has_room scope_text ss c.loop-s.s here
    c.args.sink.now c.args.block.now c.loop-s.sink c.loop-s.block c.put_scope.new.sink c.put_scope.new.block
    (scope_text here) _ c.from_residual.result below
    (ap scope_text (scope_found ss c.loop-s.s here c.unwrap.result c.scope_quant.result c.vars_of.result.now.keys below
    c.scope_quant.ensures.value c.unwrap.ensures c.vars_of.ensures)) c.loop-s.invariant c.in_err-put_scope.ensures
    c.from_residual.ensures.1
