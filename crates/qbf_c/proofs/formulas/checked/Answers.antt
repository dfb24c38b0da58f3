use Rattle.std.proofs.Common.{◌∙◌}
use Rattle.qbf_c.proofs.Checking.{circuit_is_for, is_checked}
use Rattle.qbf_c.proofs.formulas.checked.Goals as goal

pub check_circuit-requires : goal.check_circuit-requires
check_circuit-requires c =
    let e = c.args.engine.now in
    circuit_is_for c.args.trimmed e e.verdict c.in_ok-circuit.circuit c.prefix.result.now c.deref.result.now
    c.in-Ok.assumed.now c.in-Ok.assumed c.in-Ok.ensures.refused c.in-Ok.ensures.value c.in-Ok.ensures.verdict
    c.in_ok-circuit.ensures.told c.in-Ok-open_clauses.ensures.rows c.prefix.ensures.value
    (c.deref.ensures.value ∙ c.in-Ok-copied.ensures ∙ c.in-Ok-open_clauses.ensures.value)

pub returns-in-Ok-check_circuit-clause-formula : goal.returns-in-Ok-check_circuit-clause-formula
returns-in-Ok-check_circuit-clause-formula c =
    let e = c.args.engine.now in
    is_checked c.args.trimmed e e.verdict c.in_ok-circuit.circuit c.prefix.result.now c.deref.result.now
    c.in-Ok.assumed.now c.in-Ok-check_circuit.f c.in-Ok.ensures.value c.in_ok-circuit.ensures.told
    c.prefix.ensures.value (c.deref.ensures.value ∙ c.in-Ok-copied.ensures ∙ c.in-Ok-open_clauses.ensures.value)
    c.in-Ok-check_circuit.ensures.answer c.in-Ok-check_circuit.ensures.formed c.in-Ok-check_circuit.ensures.decides
