use Rattle.std.proofs.Common.{◌≡◌, ◌-◌, ◌++◌, List, ℕ, length, take, ap, ap₂, ◌∙◌}
use Rattle.std.proofs.lemmas.Result.{IfOk-weaker}
use Rattle.prefix.specs.declared.quant.Quant.TheVariants.{Exists}
use Rattle.prefix.specs.Scopes.{Scope, variables_at}
use Rattle.clauses.specs.Clause.{ascending}
use Rattle.qcir.specs.Truth.{gate_names}
use Rattle.qcir.specs.Translation.{scopes_with}
use Rattle.qcir.proofs.Scoping.{and_scope}
use Rattle.qcir.proofs.Placed.{joined_fits, joined_from}
use Rattle.qcir.proofs.scopes.joined.Goals.{In_ok-put_names}
use Rattle.qcir.proofs.scopes.joined.Goals as goal

-- the variables of the last scope and the gates
vars_are : (c : In_ok-put_names) → c.put_names.new.vars.items
    ≡ variables_at c.args.circuit.now.prefix (length c.args.circuit.now.prefix) ++ gate_names c.args.circuit.now.gates
vars_are c =
    c.in_ok-put_names.ensures
    ∙ ap₂ (λ (vs names : List ℕ). vs ++ names)
    (c.in_ok-put_vars.ensures
    ∙ ap₂ (λ (us vs : List ℕ). us ++ vs) c.new-vars.ensures.items
    (c.vars_of.ensures ∙ ap (variables_at c.args.circuit.now.prefix) c.scopes-count.ensures.value))
    (ap gate_names c.gates.ensures)

pub with_last-requires-clause-new : goal.with_last-requires-clause-new
with_last-requires-clause-new c =
    joined_fits c.args.circuit.now c.requires.circuit c.put_names.new.vars.items c.scopes-count.result
    c.requires.last c.scopes-count.ensures.value (vars_are c)

pub returns-clause-scopes : goal.returns-clause-scopes
returns-clause-scopes c =
    let ss = c.args.circuit.now.prefix in
    let names = gate_names c.args.circuit.now.gates in
    IfOk-weaker c.with_last.result
    (λ (p : List Scope).
    p ≡ and_scope (take (c.scopes-count.result - 1) ss) Exists (ascending c.put_names.new.vars.items))
    (λ (p : List Scope). p ≡ scopes_with ss names)
    (λ p e.
    e ∙ joined_from ss names c.put_names.new.vars.items c.scopes-count.result c.requires.last
    c.scopes-count.ensures.value (vars_are (goal.at.returns-clause-scopes c).In_ok-put_names))
    c.with_last.ensures.scopes
