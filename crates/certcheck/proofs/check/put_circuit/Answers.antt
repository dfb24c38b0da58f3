use Rattle.std.proofs.Common.{◌≡◌, List, ℕ, ap, subst, ◌∙◌}
use Rattle.std.proofs.lemmas.Result.{on_ok_weaker}
use Rattle.certcheck.specs.Check.{gate_clauses, given, named_inputs, units}
use Rattle.builder.specs.Building.{Adds}
use Rattle.builder.proofs.Adding.{adds_more}
use Rattle.certcheck.proofs.check.put_circuit.Goals as goal

pub returns-clause-adds : goal.returns-clause-adds
returns-clause-adds c =
    let s = c.args.s.now in
    on_ok_weaker c.put_gates.result
    (λ gates assumptions table.
    let items : c.deref.result.now ≡ given assumptions (named_inputs 0 s.inputs) =
    c.deref.ensures.value ∙ c.in_ok-inputs.ensures.value assumptions table
    ∙ ap (λ (xs : List ℕ). given assumptions (named_inputs 0 xs)) c.vars.ensures in
    adds_more c.args.build.now c.put_units.new.build c.put_gates.new.build
    (units (given assumptions (named_inputs 0 s.inputs))) (gate_clauses s.aig.inputs 0 s.aig.gates)
    (subst (λ (l : List ℕ). Adds c.args.build.now c.put_units.new.build (units l)) items
    c.in_ok-put_units.ensures.adds) gates)
    c.put_gates.ensures.adds
