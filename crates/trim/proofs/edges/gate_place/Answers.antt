use Rattle.std.proofs.Common.{ℕ, ap, ◌∙◌}
use Rattle.aig.specs.Circuits.{edge_number}
use Rattle.trim.proofs.Moves.{place_some}
use Rattle.trim.proofs.edges.gate_place.Goals as goal

pub returns : goal.returns
returns c =
    place_some c.args.aig.now c.args.e c.inputs-inputs.result c.number-variable.result c.inputs-inputs.ensures
    (c.number-variable.ensures ∙ ap (λ (n : ℕ). edge_number n c.args.e) c.inputs.ensures) c.requires
    c.if-variable-inputs.false
