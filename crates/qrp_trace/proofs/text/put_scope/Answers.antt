use Rattle.std.proofs.Common.{◌++◌, codes, ◌∙◌}
use Rattle.std.specs.List.{flat_map}
use Rattle.blocks.proofs.Putting.{part_more, part_then, puts_err, puts_then}
use Rattle.qrp_trace.specs.Texts.{number_word, quantifier_word, scope_numbered}
use Rattle.qrp_trace.proofs.Scoping.{line_some, quantifier_found, some_by, variables_is}
use Rattle.qrp_trace.proofs.text.put_scope.Goals as goal

pub returns-in_err-put_quantifier : goal.returns-in_err-put_quantifier
returns-in_err-put_quantifier g c =
    let scope = scope_numbered c.args.prefix.now c.args.s in
    let vars = c.vars_of-vars.ensures ∙ variables_is c.args.prefix.now c.args.s c.requires.first c.requires.last in
    let quantifier = quantifier_found c.args.prefix.now c.args.s c.scope_quant.result c.unwrap.result c.requires.first
    c.requires.last c.scope_quant.ensures.value c.unwrap.ensures in
    let line = line_some scope c.vars_of-vars.result.now.keys c.unwrap.result vars quantifier
    (some_by _ _ c.is_empty.ensures c.if-is_empty.false) in
    rw line (puts_err g.S.Sink.written g.S.Sink.flushed g.S.Sink.faults g.S.Sink.has_room _ c.from_residual.result
    c.args.sink.now c.args.block.now c.put_quantifier.new.sink c.put_quantifier.new.block _ c.from_residual.ensures.1
    (part_more g.S.Sink.written g.S.Sink.flushed g.S.Sink.faults g.S.Sink.has_room c.args.sink.now c.args.block.now
    c.put_quantifier.new.sink c.put_quantifier.new.block (quantifier_word c.unwrap.result)
    (flat_map number_word c.vars_of-vars.result.now.keys ++ codes "0\n") c.in_err-put_quantifier.ensures))

pub returns-in_err-put_variables : goal.returns-in_err-put_variables
returns-in_err-put_variables g c =
    let scope = scope_numbered c.args.prefix.now c.args.s in
    let vars = c.vars_of-vars.ensures ∙ variables_is c.args.prefix.now c.args.s c.requires.first c.requires.last in
    let quantifier = quantifier_found c.args.prefix.now c.args.s c.scope_quant.result c.unwrap.result c.requires.first
    c.requires.last c.scope_quant.ensures.value c.unwrap.ensures in
    let line = line_some scope c.vars_of-vars.result.now.keys c.unwrap.result vars quantifier
    (some_by _ _ c.is_empty.ensures c.if-is_empty.false) in
    rw line (puts_err g.S.Sink.written g.S.Sink.flushed g.S.Sink.faults g.S.Sink.has_room _
    c.from_residual-in_err-put_variables.result c.args.sink.now c.args.block.now c.put_variables.new.sink
    c.put_variables.new.block _
    c.from_residual-in_err-put_variables.ensures.1
    (part_then g.S.Sink.written g.S.Sink.flushed g.S.Sink.faults g.S.Sink.has_room c.args.sink.now c.args.block.now
    c.put_quantifier.new.sink c.put_quantifier.new.block c.put_variables.new.sink c.put_variables.new.block
    (quantifier_word c.unwrap.result)
    (flat_map number_word c.vars_of-vars.result.now.keys ++ codes "0\n") c.in_ok-put_quantifier.ensures
    (part_more g.S.Sink.written g.S.Sink.flushed g.S.Sink.faults g.S.Sink.has_room c.put_quantifier.new.sink
    c.put_quantifier.new.block
    c.put_variables.new.sink c.put_variables.new.block (flat_map number_word c.vars_of-vars.result.now.keys)
    (codes "0\n") c.in_err-put_variables.ensures)))

pub returns : goal.returns
returns g c =
    let scope = scope_numbered c.args.prefix.now c.args.s in
    let vars = c.vars_of-vars.ensures ∙ variables_is c.args.prefix.now c.args.s c.requires.first c.requires.last in
    let quantifier = quantifier_found c.args.prefix.now c.args.s c.scope_quant.result c.unwrap.result c.requires.first
    c.requires.last c.scope_quant.ensures.value c.unwrap.ensures in
    let line = line_some scope c.vars_of-vars.result.now.keys c.unwrap.result vars quantifier
    (some_by _ _ c.is_empty.ensures c.if-is_empty.false) in
    rw line (puts_then g.S.Sink.written g.S.Sink.flushed g.S.Sink.faults g.S.Sink.has_room c.put.result
    c.args.sink.now c.args.block.now c.put_quantifier.new.sink c.put_quantifier.new.block c.put.new.sink c.put.new.self
    (quantifier_word c.unwrap.result)
    (flat_map number_word c.vars_of-vars.result.now.keys ++ codes "0\n") c.in_ok-put_quantifier.ensures
    (puts_then g.S.Sink.written g.S.Sink.flushed g.S.Sink.faults g.S.Sink.has_room c.put.result
    c.put_quantifier.new.sink c.put_quantifier.new.block c.put_variables.new.sink c.put_variables.new.block
    c.put.new.sink c.put.new.self (flat_map number_word c.vars_of-vars.result.now.keys)
    (codes "0\n") c.in_ok-put_variables.ensures (c.put.ensures)))
