-- The formula of a circuit is as one that was read: clauses over the prefix, within the limits.
use Rattle.std.proofs.Common.{◌≡◌, ℕ, suc, ◌+◌, ◌*◌, ◌^◌, ◌≤◌, nat_abs, Bool, true, false, not, cond, List, [], ◌∷◌, ◌++◌, length, map, filter, Contains, refl, sym, ap, ap₂, subst, ◌∙◌, arith, length-append, append-nil, nat_eq}
use Rattle.std.specs.List.{AllByRecursion, flat_map}
use Rattle.std.proofs.lemmas.Bool.{eq-eqb, or_left, or_right}
use Rattle.std.proofs.lemmas.List.{length-map}
use Rattle.std.proofs.lemmas.List.Concat.{flat_map-append}
use Rattle.prefix.specs.Literal.{Literal, negation, signed_number}
use Rattle.prefix.specs.Scopes.{Scope, IsAscending, all_variables, is_among}
use Rattle.calculus.proofs.Lists.{contains_head, contains_tail}
use Rattle.clauses.specs.Clause.{as_row, ascending, is_tautology}
use Rattle.clauses.proofs.Ascending.{ascending_among, ascending_is, ascending_short}
use Rattle.truth.specs.Formed.{IsClauseOver, IsFormed}
use Rattle.qcir.specs.declared.circuit.Circuit.{Circuit}
use Rattle.qcir.specs.declared.circuit.Gate.{Gate}
use Rattle.qcir.specs.declared.circuit.GateKind.{GateKind}
use Rattle.qcir.specs.declared.circuit.GateKind.TheVariants.{And, Or}
use Rattle.qcir.specs.Truth.{gate_names}
use Rattle.qcir.specs.Translation.{IsCircuit, circuit_clauses, clause_count, defining, formula_of, gate_clauses, gate_literal, greatest_of, rows_of, scopes_with, translated, written}
use Rattle.qcir.proofs.TrueRows.{ArePositive, literal_in, names_at}
use Rattle.qcir.proofs.Known.{all_known, all_positive, known_cases}
use Rattle.qcir.proofs.Places.{with_among}

-- Rows over the prefix.

variables_back : (clause : List Literal) (vs : List ℕ)
    → map (λ (l : Literal). l.variable) (map (literal_in clause) vs) ≡ vs
variables_back clause [] = refl
variables_back clause (v ∷ vs) = ap (λ us. v ∷ us) (variables_back clause vs)

literals_over : (scopes : List Scope) (clause : List Literal) (vs : List ℕ)
    → ((v : ℕ) → is_among v vs ≡ true → is_among v (all_variables scopes) ≡ true)
    → AllByRecursion (λ (l : Literal). is_among l.variable (all_variables scopes) ≡ true) (map (literal_in clause) vs)
literals_over scopes clause [] f = tt
literals_over scopes clause (v ∷ vs) f = (
  f v (or_left (nat_eq v v) (is_among v vs) (eq-eqb v v refl)),
  literals_over scopes clause vs (λ u h. f u (or_right (nat_eq v u) (is_among u vs) h)),
)

-- every variable of a clause is in the scopes
abbrev pub IsOver : List Scope → List Literal → Type 0
IsOver scopes clause = (l : Literal) → Contains clause l → is_among l.variable (all_variables scopes) ≡ true

row_over : (scopes : List Scope) (clause : List Literal) → ArePositive clause → IsOver scopes clause
    → IsClauseOver scopes (as_row (written clause))
row_over scopes clause all over =
    let names : List ℕ = map nat_abs (written clause) in (
      subst IsAscending (sym (variables_back clause (ascending names))) (ascending_is names),
      literals_over scopes clause (ascending names) (λ v h.
          let l = names_at clause all v (sym (ascending_among v names) ∙ h) in
          subst (λ u. is_among u (all_variables scopes) ≡ true) l.2 (over l.0 l.1)),
    )

rows_over : (scopes : List Scope) (clauses : List (List Literal))
    → ((c : List Literal) → Contains clauses c → ArePositive c)
    → ((c : List Literal) → Contains clauses c → IsOver scopes c)
    → AllByRecursion (IsClauseOver scopes) (rows_of clauses)
rows_over scopes [] all over = tt
rows_over scopes (c ∷ cs) all over =
    by (is_tautology (written c)) (row_over scopes c (all c (contains_head c cs)) (over c (contains_head c cs)))
    (rows_over scopes cs (λ d i. all d (contains_tail c cs d i)) (λ d i. over d (contains_tail c cs d i)))
  where
    by : (t : Bool) → IsClauseOver scopes (as_row (written c)) → AllByRecursion (IsClauseOver scopes) (rows_of cs)
        → AllByRecursion (IsClauseOver scopes)
        (map as_row (cond (not t) (written c ∷ filter (λ d. not (is_tautology d)) (map written cs))
        (filter (λ d. not (is_tautology d)) (map written cs))))
    by true one rest = rest
    by false one rest = (one, rest)

-- How many rows and literals.

-- how many literals clauses have
abbrev pub amount_in : List (List Literal) → ℕ
amount_in clauses = length (flat_map (λ c. c) clauses)

rows_few : (clauses : List (List Literal)) → length (rows_of clauses) ≤ length clauses
rows_few [] = omega arith
rows_few (c ∷ cs) = by (is_tautology (written c)) (rows_few cs)
  where
    by : (t : Bool) → length (rows_of cs) ≤ length cs
        → length (map as_row (cond (not t) (written c ∷ filter (λ d. not (is_tautology d)) (map written cs))
        (filter (λ d. not (is_tautology d)) (map written cs)))) ≤ suc (length cs)
    by true h = omega (arith, h)
    by false h = omega (arith, h)

row_short : (clause : List Literal) → length (as_row (written clause)) ≤ length clause
row_short clause =
    let names : List ℕ = map nat_abs (written clause) in
    omega (
      arith,
      length-map (ascending names) (literal_in clause),
      ascending_short names,
      length-map (written clause) nat_abs,
      length-map clause signed_number,
    )

rows_amount : (clauses : List (List Literal)) → amount_in (rows_of clauses) ≤ amount_in clauses
rows_amount [] = omega arith
rows_amount (c ∷ cs) = by (is_tautology (written c)) (rows_amount cs)
  where
    both : amount_in (c ∷ cs) ≡ length c + amount_in cs
    both = length-append c (flat_map (λ d. d) cs)

    by : (t : Bool) → amount_in (rows_of cs) ≤ amount_in cs
        → amount_in (map as_row (cond (not t) (written c ∷ filter (λ d. not (is_tautology d)) (map written cs))
        (filter (λ d. not (is_tautology d)) (map written cs)))) ≤ amount_in (c ∷ cs)
    by true h = omega (arith, h, both)
    by false h = omega (
      arith,
      h,
      both,
      row_short c,
      length-append (as_row (written c)) (flat_map (λ d. d) (rows_of cs)),
    )

amount_both : (xs ys : List (List Literal)) → amount_in (xs ++ ys) ≡ amount_in xs + amount_in ys
amount_both xs ys =
    ap length (flat_map-append (λ c. c) xs ys) ∙ length-append (flat_map (λ c. c) xs) (flat_map (λ c. c) ys)

amount_one : (c : List Literal) → amount_in (c ∷ []) ≡ length c
amount_one c = ap length (append-nil c)

amount_pairs : (f : Literal → List Literal) (xs : List Literal) → ((x : Literal) → length (f x) ≡ 2)
    → amount_in (map f xs) ≡ 2 * length xs
amount_pairs f [] two = refl
amount_pairs f (x ∷ xs) two =
    omega (arith, length-append (f x) (flat_map (λ c. c) (map f xs)), two x, amount_pairs f xs two)

-- the clauses of a gate, and their literals
gate_counted : (kind : GateKind) (g : Literal) (inputs : List Literal)
    → length (defining kind g inputs) ≡ length inputs + 1
gate_counted And g inputs =
    length-append (map (λ x. negation g ∷ x ∷ []) inputs) ((g ∷ map negation inputs) ∷ [])
    ∙ ap (λ n. n + 1) (length-map inputs (λ x. negation g ∷ x ∷ []))
gate_counted Or g inputs =
    length-append (map (λ x. g ∷ negation x ∷ []) inputs) ((negation g ∷ inputs) ∷ [])
    ∙ ap (λ n. n + 1) (length-map inputs (λ x. g ∷ negation x ∷ []))

gate_amount : (kind : GateKind) (g : Literal) (inputs : List Literal)
    → amount_in (defining kind g inputs) ≡ 3 * length inputs + 1
gate_amount And g inputs =
    omega (
      arith,
      amount_both (map (λ x. negation g ∷ x ∷ []) inputs) ((g ∷ map negation inputs) ∷ []),
      amount_pairs (λ x. negation g ∷ x ∷ []) inputs (λ x. refl),
      amount_one (g ∷ map negation inputs),
      length-map inputs negation,
    )
gate_amount Or g inputs =
    omega (
      arith,
      amount_both (map (λ x. g ∷ negation x ∷ []) inputs) ((negation g ∷ inputs) ∷ []),
      amount_pairs (λ x. g ∷ negation x ∷ []) inputs (λ x. refl),
      amount_one (negation g ∷ inputs),
    )

-- the inputs of gates
abbrev pub inputs_of : List Gate → List Literal
inputs_of gates = flat_map (λ (g : Gate). g.inputs) gates

gates_counted : (gates : List Gate) → length (flat_map gate_clauses gates) ≡ length (inputs_of gates) + length gates
gates_counted [] = refl
gates_counted (g ∷ gates) =
    omega (
      arith,
      length-append (gate_clauses g) (flat_map gate_clauses gates),
      gate_counted g.kind (gate_literal g) g.inputs,
      length-append g.inputs (inputs_of gates),
      gates_counted gates,
    )

gates_amount : (gates : List Gate)
    → amount_in (flat_map gate_clauses gates) ≡ 3 * length (inputs_of gates) + length gates
gates_amount [] = refl
gates_amount (g ∷ gates) =
    omega (
      arith,
      amount_both (gate_clauses g) (flat_map gate_clauses gates),
      gate_amount g.kind (gate_literal g) g.inputs,
      length-append g.inputs (inputs_of gates),
      gates_amount gates,
    )

pub rows_within : (c : Circuit) → length (rows_of (circuit_clauses c.gates c.output)) ≤ clause_count c.gates
rows_within c =
    omega (
      arith,
      rows_few (circuit_clauses c.gates c.output),
      length-append (flat_map gate_clauses c.gates) ((c.output ∷ []) ∷ []),
      gates_counted c.gates,
    )

amount_within : (c : Circuit)
    → amount_in (rows_of (circuit_clauses c.gates c.output)) ≤ 3 * clause_count c.gates
amount_within c =
    omega (
      arith,
      rows_amount (circuit_clauses c.gates c.output),
      amount_both (flat_map gate_clauses c.gates) ((c.output ∷ []) ∷ []),
      gates_amount c.gates,
    )

pub translated_formed : (c : Circuit) → IsCircuit c → clause_count c.gates ≤ 2 ^ 24 → IsFormed (translated c)
translated_formed c is few =
    let names : List ℕ = gate_names c.gates in
    let count = rows_within c in
    let amount = amount_within c in
    record {
      rows = rows_over (scopes_with c.prefix names) (circuit_clauses c.gates c.output) (all_positive c is)
          (λ d i l j.
          with_among c.prefix names l.variable ∙ sym (known_cases c is l.variable) ∙ all_known c is d i l j);
      count = omega (arith, count, few);
      amount = omega (arith, amount, few);
    }

-- a formula by its parts
pub formula_is : (scopes prefix : List Scope) (rows clauses : List (List Literal)) (vars count : ℕ)
    → prefix ≡ scopes → clauses ≡ rows → vars ≡ greatest_of (all_variables prefix) → count ≡ length clauses
    → record { prefix = prefix; clauses = clauses; declared_vars = vars; declared_clauses = count }
    ≡ formula_of scopes rows
formula_is scopes prefix rows clauses vars count p r v n =
    ap₂
    (λ (w m : ℕ). record { prefix = prefix; clauses = clauses; declared_vars = w; declared_clauses = m })
    v n
    ∙ ap (λ (ss : List Scope). formula_of ss clauses) p
    ∙ ap (formula_of scopes) r
