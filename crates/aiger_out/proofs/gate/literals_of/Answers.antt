use Rattle.std.proofs.Common.{◌≡◌, ◌<◌, get_or, arith}
use Rattle.aig.specs.Circuits.{zero}
use Rattle.aig.specs.declared.edge.And.{And}
use Rattle.aiger_out.specs.Written.{gate_literal, greater_literal}
use Rattle.aiger_out.proofs.Texts.{greater_below}
use Rattle.aiger_out.proofs.gate.literals_of.Goals as goal

pub returns-clause-later : goal.returns-clause-later
returns-clause-later c =
    let circuit = c.args.aig.now in
    let any : And = record { left = zero; right = zero } in
    let gate = get_or circuit.gates c.args.place any in
    let edges = c.gate.ensures.edges any in
    let greatest : c.max.result ≡ greater_literal circuit.inputs gate = cc in
    let below : greater_literal circuit.inputs gate < gate_literal circuit.inputs c.args.place =
    greater_below circuit.inputs c.args.place gate (c.gate.ensures.proper any) in
    omega (arith, greatest, below, c.inputs-inputs.ensures)
