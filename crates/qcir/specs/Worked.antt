-- Worked values: circuits, their truth, and their formulas.
use Rattle.std.specs.Prelude.{◌≡◌, ℕ, true, false, List, [], ◌∷◌}
use Rattle.prefix.specs.declared.quant.Quant.{Quant}
use Rattle.prefix.specs.declared.quant.Quant.TheVariants.{Exists, Forall}
use Rattle.prefix.specs.Literal.{Literal}
use Rattle.prefix.specs.Scopes.{Scope}
use Rattle.truth.specs.Truth.{truth}
use Rattle.qcir.specs.declared.circuit.Circuit.{Circuit}
use Rattle.qcir.specs.declared.circuit.Gate.{Gate}
use Rattle.qcir.specs.declared.circuit.GateKind.{GateKind}
use Rattle.qcir.specs.declared.circuit.GateKind.TheVariants.{And, Or}
use Rattle.qcir.specs.Truth.{circuit_truth}
use Rattle.qcir.specs.Translation.{IsCircuit, clause_count, scopes_with, translated}

abbrev pub yes_ : ℕ → Literal
yes_ v = record { variable = v; positive = true }

abbrev pub no_ : ℕ → Literal
no_ v = record { variable = v; positive = false }

abbrev pub scope : Quant → List ℕ → Scope
scope q vs = record { quantifier = q; variables = vs }

abbrev pub gate : ℕ → GateKind → List Literal → Gate
gate v kind inputs = record { var = v; kind = kind; inputs = inputs }

abbrev pub circuit : List Scope → List Gate → Literal → Circuit
circuit scopes gates output = record { prefix = scopes; gates = gates; output = output }

-- 9: whether 7 and 3 are the same
abbrev pub alike : List Gate
alike =
    gate 12 And (yes_ 7 ∷ yes_ 3 ∷ [])
    ∷ gate 5 And (no_ 7 ∷ no_ 3 ∷ [])
    ∷ gate 9 Or (yes_ 12 ∷ yes_ 5 ∷ [])
    ∷ []

-- for each 7 there is such a 3
abbrev pub same_after : Circuit
same_after = circuit (scope Forall (7 ∷ []) ∷ scope Exists (3 ∷ []) ∷ []) alike (yes_ 9)

-- there is a 3 that is the same as each 7
abbrev pub same_before : Circuit
same_before = circuit (scope Exists (3 ∷ []) ∷ scope Forall (7 ∷ []) ∷ []) alike (yes_ 9)

-- Gates with an input twice and with opposite inputs: 11 is false, so 10 is 2 or the negation of 4.
abbrev pub doubled : List Gate
doubled =
    gate 8 Or (yes_ 2 ∷ yes_ 2 ∷ no_ 4 ∷ [])
    ∷ gate 11 And (yes_ 6 ∷ no_ 6 ∷ [])
    ∷ gate 10 And (yes_ 8 ∷ no_ 11 ∷ [])
    ∷ []

abbrev pub over_doubled : Literal → Circuit
over_doubled output = circuit (scope Exists (4 ∷ []) ∷ scope Forall (2 ∷ 6 ∷ []) ∷ []) doubled output

-- gates without inputs: 7 is true and 5 false, and so 9 is true
abbrev pub constant : List Gate
constant = gate 7 And [] ∷ gate 5 Or [] ∷ gate 9 And (yes_ 7 ∷ no_ 5 ∷ []) ∷ []

abbrev pub over_constant : Circuit
over_constant = circuit (scope Forall (3 ∷ []) ∷ []) constant (yes_ 9)

-- an empty disjunction, without a scope
abbrev pub nothing : Circuit
nothing = circuit [] (gate 2 Or [] ∷ []) (yes_ 2)

-- the negation of a variable, without a gate
abbrev pub alone : Quant → Circuit
alone q = circuit (scope q (3 ∷ []) ∷ []) [] (no_ 3)

pub record WorkedTruths : Type 0 where
  pub after_all : circuit_truth same_after ≡ true
  pub before_all : circuit_truth same_before ≡ false
  pub of_doubled : circuit_truth (over_doubled (yes_ 10)) ≡ true
  pub of_negation : circuit_truth (over_doubled (no_ 10)) ≡ false
  pub of_constant : circuit_truth over_constant ≡ true
  pub of_nothing : circuit_truth nothing ≡ false
  pub there_is : circuit_truth (alone Exists) ≡ true
  pub for_each : circuit_truth (alone Forall) ≡ false
  -- these are circuits, and a gate over itself, a gate twice and an output that nothing defines are none
  pub after_is : IsCircuit same_after
  pub before_is : IsCircuit same_before
  pub doubled_is : IsCircuit (over_doubled (yes_ 10))
  pub constant_is : IsCircuit over_constant
  pub nothing_is : IsCircuit nothing
  pub of_itself : IsCircuit (circuit [] (gate 2 And (yes_ 2 ∷ []) ∷ []) (yes_ 2)) → ⊥
  pub twice : IsCircuit (circuit [] (gate 2 And [] ∷ gate 2 Or [] ∷ []) (yes_ 2)) → ⊥
  pub unknown : IsCircuit (circuit [] (gate 2 And [] ∷ []) (yes_ 3)) → ⊥

pub record WorkedFormulas : Type 0 where
  -- the gates join an existential scope
  pub joined : translated same_after ≡ record {
    prefix = scope Forall (7 ∷ []) ∷ scope Exists (3 ∷ 5 ∷ 9 ∷ 12 ∷ []) ∷ [];
    clauses =
        (yes_ 7 ∷ no_ 12 ∷ []) ∷ (yes_ 3 ∷ no_ 12 ∷ []) ∷ (no_ 3 ∷ no_ 7 ∷ yes_ 12 ∷ [])
        ∷ (no_ 5 ∷ no_ 7 ∷ []) ∷ (no_ 3 ∷ no_ 5 ∷ []) ∷ (yes_ 3 ∷ yes_ 5 ∷ yes_ 7 ∷ [])
        ∷ (yes_ 9 ∷ no_ 12 ∷ []) ∷ (no_ 5 ∷ yes_ 9 ∷ []) ∷ (yes_ 5 ∷ no_ 9 ∷ yes_ 12 ∷ [])
        ∷ (yes_ 9 ∷ [])
        ∷ [];
    declared_vars = 12;
    declared_clauses = 10;
  }
  pub count : clause_count alike ≡ 10
  -- and stand behind a universal one
  pub behind : scopes_with same_before.prefix (12 ∷ 5 ∷ 9 ∷ [])
      ≡ scope Exists (3 ∷ []) ∷ scope Forall (7 ∷ []) ∷ scope Exists (5 ∷ 9 ∷ 12 ∷ []) ∷ []
  pub true_after : truth (translated same_after).prefix (translated same_after).clauses ≡ true
  -- an input twice counts once, and the clause that has opposite literals is left out
  pub of_doubled : translated (over_doubled (yes_ 10)) ≡ record {
    prefix = scope Exists (4 ∷ []) ∷ scope Forall (2 ∷ 6 ∷ []) ∷ scope Exists (8 ∷ 10 ∷ 11 ∷ []) ∷ [];
    clauses =
        (no_ 2 ∷ yes_ 8 ∷ []) ∷ (no_ 2 ∷ yes_ 8 ∷ []) ∷ (yes_ 4 ∷ yes_ 8 ∷ []) ∷ (yes_ 2 ∷ no_ 4 ∷ no_ 8 ∷ [])
        ∷ (yes_ 6 ∷ no_ 11 ∷ []) ∷ (no_ 6 ∷ no_ 11 ∷ [])
        ∷ (yes_ 8 ∷ no_ 10 ∷ []) ∷ (no_ 10 ∷ no_ 11 ∷ []) ∷ (no_ 8 ∷ yes_ 10 ∷ yes_ 11 ∷ [])
        ∷ (yes_ 10 ∷ [])
        ∷ [];
    declared_vars = 11;
    declared_clauses = 10;
  }
  pub one_more : clause_count doubled ≡ 11
  -- a gate without inputs is a clause of its own
  pub of_constant : translated over_constant ≡ record {
    prefix = scope Forall (3 ∷ []) ∷ scope Exists (5 ∷ 7 ∷ 9 ∷ []) ∷ [];
    clauses =
        (yes_ 7 ∷ []) ∷ (no_ 5 ∷ [])
        ∷ (yes_ 7 ∷ no_ 9 ∷ []) ∷ (no_ 5 ∷ no_ 9 ∷ []) ∷ (yes_ 5 ∷ no_ 7 ∷ yes_ 9 ∷ [])
        ∷ (yes_ 9 ∷ [])
        ∷ [];
    declared_vars = 9;
    declared_clauses = 6;
  }
  -- the gate alone in a scope
  pub of_nothing : translated nothing ≡ record {
    prefix = scope Exists (2 ∷ []) ∷ [];
    clauses = (no_ 2 ∷ []) ∷ (yes_ 2 ∷ []) ∷ [];
    declared_vars = 2;
    declared_clauses = 2;
  }
  -- no scope without a gate
  pub of_none : translated (alone Forall) ≡ record {
    prefix = scope Forall (3 ∷ []) ∷ [];
    clauses = (no_ 3 ∷ []) ∷ [];
    declared_vars = 3;
    declared_clauses = 1;
  }
