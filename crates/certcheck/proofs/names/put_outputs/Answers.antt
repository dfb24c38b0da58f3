use Rattle.std.proofs.Common.{◌≡◌, ◌<◌, cond, Some, None, length, get_or, nat_eq, sym, ap, ◌∙◌, arith}
use Rattle.std.specs.Option.{option_or}
use Rattle.std.proofs.lemmas.List.{get_or_default}
use Rattle.aig.specs.Circuits.{edge_number}
use Rattle.aig.specs.declared.strategy.Output.{Output}
use Rattle.certcheck.specs.Tables.{entry_of}
use Rattle.certcheck.proofs.Named.{output_small, output_step}
use Rattle.certcheck.proofs.names.put_outputs.Goals as goal

pub overflow_cast-number : goal.overflow_cast-number
overflow_cast-number c =
    let number : c.number.result ≡ edge_number c.inputs-inputs.result c.index-outputs-i-in-loop-i.result.edge =
    c.number.ensures ∙ ap (λ (p : Output). edge_number c.inputs-inputs.result p.edge)
    (sym c.index-outputs-i-in-loop-i.is) in
    let small : c.number.result < 2097154 =
    output_small c.args.s.now c.outputs-outputs.result.now c.loop-i.i c.inputs-inputs.result c.number.result
    c.index-outputs-i-in-loop-i.result
    c.requires.strategy c.requires.small c.outputs-outputs.ensures
    (omega arith) c.index-outputs-i-in-loop-i.is c.inputs-inputs.ensures number in
    omega (arith, small)

pub loop-i-preserved : goal.loop-i-preserved
loop-i-preserved c = λ w.
    let outputs = c.outputs-outputs.result.now in
    let below : c.loop-i.i < length outputs = omega arith in
    let o = get_or outputs c.loop-i.i c.index-outputs-i.result in
    output_step c.inputs-inputs.result outputs c.loop-i.i o (entry_of c.args.table.now.items w)
    (entry_of c.loop-i.table.items w) (entry_of c.put_entry.new.table.items w) w
    below (get_or_default outputs c.loop-i.i c.index-outputs-i.result o below) (c.loop-i.invariant w)
    (c.in_ok-put_entry.ensures w
    ∙ ap (λ k. option_or (entry_of c.loop-i.table.items w) (cond (nat_eq o.var w) (Some k) None))
    (c.number.ensures ∙ ap (λ (p : Output). edge_number c.inputs-inputs.result p.edge)
    (get_or_default outputs c.loop-i.i c.index-outputs-i-in-loop-i.result c.index-outputs-i.result below)))
