use Rattle.std.proofs.Common.{◌++◌}
use Rattle.std.specs.Fmt.{decimal}
use Rattle.std.specs.List.{flat_map}
use Rattle.qdimacs_out.specs.Pieces.{closing}
use Rattle.blocks.specs.Lines.{spaced}
use Rattle.qdimacs_out.specs.Texts.{quantifier_word}
use Rattle.qdimacs_out.proofs.Lines.{scope_is}
use Rattle.blocks.proofs.Putting.{part_more, part_then, puts_err, puts_then}
use Rattle.qdimacs_out.proofs.write.put_scope.Goals as goal

pub returns-in_err-put_quantifier : goal.returns-in_err-put_quantifier
returns-in_err-put_quantifier g c =
    let letter = spaced (quantifier_word c.args.quant) in
    let vars = flat_map (λ v. spaced (decimal v)) c.args.vars.now.keys in
    rw (scope_is c.args.quant c.args.vars.now.keys)
    (puts_err g.S.Sink.written g.S.Sink.flushed g.S.Sink.faults g.S.Sink.has_room _ c.from_residual.result
    c.args.sink.now c.args.block.now c.put_quantifier.new.sink c.put_quantifier.new.block (letter ++ (vars ++ closing))
    c.from_residual.ensures.1
    (part_more g.S.Sink.written g.S.Sink.flushed g.S.Sink.faults g.S.Sink.has_room c.args.sink.now c.args.block.now
    c.put_quantifier.new.sink c.put_quantifier.new.block letter (vars ++ closing) c.in_err-put_quantifier.ensures))

pub returns-in_err-put_variables : goal.returns-in_err-put_variables
returns-in_err-put_variables g c =
    let letter = spaced (quantifier_word c.args.quant) in
    let vars = flat_map (λ v. spaced (decimal v)) c.args.vars.now.keys in
    rw (scope_is c.args.quant c.args.vars.now.keys)
    (puts_err g.S.Sink.written g.S.Sink.flushed g.S.Sink.faults g.S.Sink.has_room _
    c.from_residual-in_err-put_variables.result c.args.sink.now c.args.block.now c.put_variables.new.sink
    c.put_variables.new.block
    (letter ++ (vars ++ closing)) c.from_residual-in_err-put_variables.ensures.1
    (part_then g.S.Sink.written g.S.Sink.flushed g.S.Sink.faults g.S.Sink.has_room c.args.sink.now c.args.block.now
    c.put_quantifier.new.sink c.put_quantifier.new.block c.put_variables.new.sink c.put_variables.new.block letter
    (vars ++ closing)
    c.in_ok-put_quantifier.ensures
    (part_more g.S.Sink.written g.S.Sink.flushed g.S.Sink.faults g.S.Sink.has_room c.put_quantifier.new.sink
    c.put_quantifier.new.block
    c.put_variables.new.sink c.put_variables.new.block vars closing c.in_err-put_variables.ensures)))

pub returns : goal.returns
returns g c =
    let letter = spaced (quantifier_word c.args.quant) in
    let vars = flat_map (λ v. spaced (decimal v)) c.args.vars.now.keys in
    rw (scope_is c.args.quant c.args.vars.now.keys)
    (puts_then g.S.Sink.written g.S.Sink.flushed g.S.Sink.faults g.S.Sink.has_room c.put_end.result c.args.sink.now
    c.args.block.now
    c.put_quantifier.new.sink c.put_quantifier.new.block c.put_end.new.sink c.put_end.new.block letter (vars ++ closing)
    c.in_ok-put_quantifier.ensures
    (puts_then g.S.Sink.written g.S.Sink.flushed g.S.Sink.faults g.S.Sink.has_room c.put_end.result
    c.put_quantifier.new.sink c.put_quantifier.new.block c.put_variables.new.sink c.put_variables.new.block
    c.put_end.new.sink c.put_end.new.block vars closing
    c.in_ok-put_variables.ensures c.put_end.ensures))
