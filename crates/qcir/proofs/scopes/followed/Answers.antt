use Rattle.std.proofs.Common.{◌≡◌, ◌++◌, false, List, ℕ, length, sym, take, ap, ◌∙◌}
use Rattle.std.specs.Prelude.{◌==◌}
use Rattle.std.proofs.lemmas.Result.{IfOk-weaker}
use Rattle.prefix.specs.declared.quant.Quant.TheVariants.{Exists}
use Rattle.prefix.specs.Scopes.{Scope}
use Rattle.clauses.specs.Clause.{ascending}
use Rattle.qcir.specs.declared.circuit.Gate.{Gate}
use Rattle.qcir.specs.Truth.{gate_names}
use Rattle.qcir.specs.Translation.{scopes_with}
use Rattle.qcir.proofs.Scoping.{and_scope}
use Rattle.qcir.proofs.Placed.{followed_fits, none_followed, room_left, some_followed}
use Rattle.qcir.proofs.scopes.followed.Goals.{In_ok-put_names}
use Rattle.qcir.proofs.scopes.followed.Goals as goal

-- there is a gate
some : (c : In_ok-put_names) → (length c.args.circuit.now.gates == 0) ≡ false
some c =
    ap (λ (gs : List Gate). length gs == 0) (sym c.gates-gates.ensures) ∙ sym c.is_empty.ensures ∙ c.if-is_empty.false

-- the gates' variables
vars_are : (c : In_ok-put_names) → c.put_names.new.vars.items ≡ gate_names c.args.circuit.now.gates
vars_are c =
    c.in_ok-put_names.ensures
    ∙ ap (λ (vs : List ℕ). vs ++ gate_names c.gates-gates.result.now) c.new-vars.ensures.items
    ∙ ap gate_names c.gates-gates.ensures

pub returns-then-is_empty-clause-scopes : goal.returns-then-is_empty-clause-scopes
returns-then-is_empty-clause-scopes c =
    let circuit = c.args.circuit.now in
    IfOk-weaker c.first_scopes.result (λ (p : List Scope). p ≡ take c.scopes-count.result circuit.prefix)
    (λ (p : List Scope). p ≡ scopes_with circuit.prefix (gate_names circuit.gates))
    (λ p e.
    e ∙ none_followed circuit.prefix circuit.gates c.scopes-count.result c.requires.last c.scopes-count.ensures.value
    (ap (λ (gs : List Gate). length gs == 0) (sym c.gates-gates.ensures) ∙ sym c.is_empty.ensures ∙ c.if-is_empty.true))
    c.first_scopes.ensures.scopes

pub with_last-requires-clause-room : goal.with_last-requires-clause-room
with_last-requires-clause-room c =
    room_left c.args.circuit.now.prefix c.args.circuit.now.gates c.scopes-count.result c.requires.last
    c.scopes-count.ensures.value (some c) c.requires.small

pub with_last-requires-clause-new : goal.with_last-requires-clause-new
with_last-requires-clause-new c =
    followed_fits c.args.circuit.now c.requires.circuit c.put_names.new.vars.items c.scopes-count.result
    c.scopes-count.ensures.value (vars_are c)

pub returns-clause-scopes : goal.returns-clause-scopes
returns-clause-scopes c =
    let circuit = c.args.circuit.now in
    let before = (goal.at.returns-clause-scopes c).In_ok-put_names in
    IfOk-weaker c.with_last.result
    (λ (p : List Scope).
    p ≡ and_scope (take c.scopes-count.result circuit.prefix) Exists (ascending c.put_names.new.vars.items))
    (λ (p : List Scope). p ≡ scopes_with circuit.prefix (gate_names circuit.gates))
    (λ p e.
    e ∙ some_followed circuit.prefix circuit.gates c.scopes-count.result c.requires.last c.scopes-count.ensures.value
    c.put_names.new.vars.items (some before) (vars_are before))
    c.with_last.ensures.scopes
