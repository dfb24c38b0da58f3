use Rattle.std.proofs.Common.{◌≤◌, ℕ, List, [], suc, length, get_or, arith}
use Rattle.aig.specs.Circuits.{zero}
use Rattle.aig.specs.declared.edge.And.{And}
use Rattle.aiger_out.specs.Written.{circuit_bytes, gate_bytes}
use Rattle.blocks.proofs.Putting.{nothing, each_done, each_more, each_stops}
use Rattle.aiger_out.proofs.Lines.{form_here, length_each}
use Rattle.aiger_out.proofs.write.put_gates.Goals as goal

pub loop-place-init : goal.loop-place-init
loop-place-init g c =
    nothing g.S.Sink.written g.S.Sink.flushed g.S.Sink.faults g.S.Sink.has_room c.args.sink.now
    c.args.block.now

pub loop-place-preserved : goal.loop-place-preserved
loop-place-preserved g c =
    let circuit = c.args.aig.now in
    let place = c.loop-place.place in
    let any : And = record { left = zero; right = zero } in
    let count = length_each (gate_bytes circuit.inputs) 0 circuit.gates in
    let within : suc place ≤ length circuit.gates = omega (arith, c.gates-place-end.ensures.count) in
    let below : suc place ≤ length (circuit_bytes circuit) = omega (arith, count, within) in
    each_more g.S.Sink.written g.S.Sink.flushed g.S.Sink.faults g.S.Sink.has_room (λ (bytes : List ℕ). bytes)
    (circuit_bytes circuit) place [] c.args.sink.now c.args.block.now c.loop-place.sink c.loop-place.block
    c.put_gate.new.sink c.put_gate.new.block
    (gate_bytes circuit.inputs place (get_or circuit.gates place any)) below
    (form_here (gate_bytes circuit.inputs) circuit.gates place [] any within) c.loop-place.invariant
    (c.in_ok-put_gate.ensures any)

pub returns-in_err-put_gate : goal.returns-in_err-put_gate
returns-in_err-put_gate g c =
    let circuit = c.args.aig.now in
    let place = c.loop-place.place in
    let any : And = record { left = zero; right = zero } in
    let count = length_each (gate_bytes circuit.inputs) 0 circuit.gates in
    let within : suc place ≤ length circuit.gates = omega (arith, c.gates-place-end.ensures.count) in
    let below : suc place ≤ length (circuit_bytes circuit) = omega (arith, count, within) in
    each_stops g.S.Sink.written g.S.Sink.flushed g.S.Sink.faults g.S.Sink.has_room (λ (bytes : List ℕ). bytes)
    (circuit_bytes circuit) place [] c.args.sink.now c.args.block.now c.loop-place.sink c.loop-place.block
    c.put_gate.new.sink c.put_gate.new.block
    (gate_bytes circuit.inputs place (get_or circuit.gates place any)) _ c.from_residual.result below
    (form_here (gate_bytes circuit.inputs) circuit.gates place [] any within) c.loop-place.invariant
    (c.in_err-put_gate.ensures any) c.from_residual.ensures.1

pub returns : goal.returns
returns g c =
    let circuit = c.args.aig.now in
    let count = length_each (gate_bytes circuit.inputs) 0 circuit.gates in
    let all : length (circuit_bytes circuit) ≤ c.loop-place.place =
    omega (arith, count, c.gates-place-end.ensures.count) in
    each_done g.S.Sink.written g.S.Sink.flushed g.S.Sink.faults g.S.Sink.has_room (λ (bytes : List ℕ). bytes)
    (circuit_bytes circuit) c.loop-place.place c.args.sink.now c.args.block.now c.loop-place.sink c.loop-place.block
    all c.loop-place.invariant
