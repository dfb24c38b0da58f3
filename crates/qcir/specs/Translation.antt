-- The formula of a quantified circuit (Tseitin): the gates are innermost existential variables, and clauses say what
-- they are. The formula is in the form of QDIMACS 1.1.
use Rattle.std.specs.Prelude.{◌≡◌, ℕ, ◌+◌, ◌≤◌, max, true, false, not, ℤ, List, [], ◌∷◌, ◌++◌, length, map, filter}
use Rattle.std.specs.List.{AllByRecursion, flat_map, list_all}
use Rattle.prefix.specs.declared.quant.Quant.{Quant}
use Rattle.prefix.specs.declared.quant.Quant.TheVariants.{Exists, Forall}
use Rattle.prefix.specs.Literal.{Literal, negation, signed_number}
use Rattle.prefix.specs.Scopes.{Scope, all_variables, is_among, IsPrefix}
use Rattle.truth.specs.declared.formula.Formula.{Formula}
use Rattle.truth.specs.Truth.{truth}
use Rattle.clauses.specs.Clause.{ascending, as_row, is_tautology}
use Rattle.qcir.specs.declared.circuit.Circuit.{Circuit}
use Rattle.qcir.specs.declared.circuit.Gate.{Gate}
use Rattle.qcir.specs.declared.circuit.GateKind.{GateKind}
use Rattle.qcir.specs.declared.circuit.GateKind.TheVariants.{And, Or}
use Rattle.qcir.specs.Truth.{circuit_truth, gate_names}

-- the variable of a gate
abbrev pub gate_literal : Gate → Literal
gate_literal g = record { variable = g.var; positive = true }

-- g is the conjunction of its inputs: it implies each of them, and all of them imply it
abbrev pub all_of : Literal → List Literal → List (List Literal)
all_of g inputs = map (λ x. negation g ∷ x ∷ []) inputs ++ (g ∷ map negation inputs) ∷ []

-- g is their disjunction: each of them implies it, and it implies that one of them is true
abbrev pub any_of : Literal → List Literal → List (List Literal)
any_of g inputs = map (λ x. g ∷ negation x ∷ []) inputs ++ (negation g ∷ inputs) ∷ []

abbrev pub defining : GateKind → Literal → List Literal → List (List Literal)
defining And g inputs = all_of g inputs
defining Or g inputs = any_of g inputs

-- the clauses of a gate
abbrev pub gate_clauses : Gate → List (List Literal)
gate_clauses g = defining g.kind (gate_literal g) g.inputs

-- the clauses of a circuit: those of each gate, and the output
abbrev pub circuit_clauses : List Gate → Literal → List (List Literal)
circuit_clauses gates output = flat_map gate_clauses gates ++ (output ∷ []) ∷ []

-- how many they are: one for each input of a gate, one for each gate, and the output's
abbrev pub clause_count : List Gate → ℕ
clause_count gates = length (flat_map (λ (g : Gate). g.inputs) gates) + length gates + 1

-- a clause as QDIMACS 1.1 writes it
abbrev pub written : List Literal → List ℤ
written clause = map signed_number clause

-- the rows of clauses: tautologies are left out, literals count once and ascend by variable
abbrev pub rows_of : List (List Literal) → List (List Literal)
rows_of clauses = map as_row (filter (λ c. not (is_tautology c)) (map written clauses))

-- the gates alone in a scope
abbrev pub own_scope : List ℕ → List Scope
own_scope [] = []
own_scope (n ∷ ns) = record { quantifier = Exists; variables = ascending (n ∷ ns) } ∷ []

-- the gates in an existential scope, or behind a universal one
abbrev pub joined_last : Quant → List ℕ → List ℕ → List Scope
joined_last Exists vs names = record { quantifier = Exists; variables = ascending (vs ++ names) } ∷ []
joined_last Forall vs names = record { quantifier = Forall; variables = vs } ∷ own_scope names

-- the gates join the last scope where that is existential, and are a new last one else
abbrev pub scopes_with : List Scope → List ℕ → List Scope
scopes_with [] names = own_scope names
scopes_with (s ∷ []) names = joined_last s.quantifier s.variables names
scopes_with (s ∷ t ∷ rest) names = s ∷ scopes_with (t ∷ rest) names

-- the greatest of numbers, 0 without one
abbrev pub greatest_of : List ℕ → ℕ
greatest_of [] = 0
greatest_of (n ∷ ns) = max n (greatest_of ns)

-- the formula of scopes and rows, which declares their greatest variable and their number
abbrev pub formula_of : List Scope → List (List Literal) → Formula
formula_of scopes rows = record {
  prefix = scopes;
  clauses = rows;
  declared_vars = greatest_of (all_variables scopes);
  declared_clauses = length rows;
}

-- the formula of a circuit
abbrev pub translated : Circuit → Formula
translated c = formula_of (scopes_with c.prefix (gate_names c.gates)) (rows_of (circuit_clauses c.gates c.output))

-- each gate is new, and over what is known before it
abbrev pub AreEarlier : List ℕ → List Gate → Type 0
AreEarlier known [] = Unit {0}
AreEarlier known (g ∷ gates) = (list_all (λ (l : Literal). is_among l.variable known) g.inputs ≡ true)
    × (is_among g.var known ≡ false) × AreEarlier (g.var ∷ known) gates

-- what is known behind gates
abbrev pub known_after : List ℕ → List Gate → List ℕ
known_after known [] = known
known_after known (g ∷ gates) = known_after (g.var ∷ known) gates

-- A closed circuit in which each gate is defined once, before it is an input (QCIR-14, gate-stmt).
pub record IsCircuit (c : Circuit) : Type 0 where
  pub valid : IsPrefix c.prefix
  pub gates : AreEarlier (all_variables c.prefix) c.gates
  pub in_range : AllByRecursion (λ v. (1 ≤ v) × (v ≤ 1048576)) (gate_names c.gates)
  pub output : is_among c.output.variable (known_after (all_variables c.prefix) c.gates) ≡ true

-- The formula of a circuit is true exactly where the circuit is.
abbrev pub Translates : Type 0
Translates = (c : Circuit) → IsCircuit c → truth (translated c).prefix (translated c).clauses ≡ circuit_truth c
