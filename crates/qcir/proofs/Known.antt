-- The variables of a circuit's clauses: quantified variables and gates.
use Rattle.std.proofs.Common.{◌≡◌, ℕ, ◌≤◌, true, ◌||◌, List, [], ◌∷◌, ◌++◌, map, Contains, ⊎_elim, refl, sym, ◌∙◌, nat_eq, subst}
use Rattle.std.proofs.lemmas.Bool.{eq-eqb, or_cases, or_left, or_right}
use Rattle.std.proofs.lemmas.List.Elements.{Contains-append_cases}
use Rattle.prefix.specs.Literal.{Literal, negation}
use Rattle.prefix.specs.Scopes.{AreDistinct, all_variables, is_among}
use Rattle.calculus.proofs.Lists.{contains_cons, contains_nil, contains_map}
use Rattle.qdimacs.proofs.Fitting.{distinct_append}
use Rattle.qcir.specs.declared.circuit.Circuit.{Circuit}
use Rattle.qcir.specs.declared.circuit.Gate.{Gate}
use Rattle.qcir.specs.declared.circuit.GateKind.{GateKind}
use Rattle.qcir.specs.declared.circuit.GateKind.TheVariants.{And, Or}
use Rattle.qcir.specs.Truth.{gate_names}
use Rattle.qcir.specs.Translation.{AreEarlier, IsCircuit, circuit_clauses, defining, gate_clauses, gate_literal, known_after}
use Rattle.qcir.proofs.Scoping.{all_among}
use Rattle.qcir.proofs.TrueRows.{ArePositive}
use Rattle.qcir.proofs.Defined.{definitions, gates_new, inside, known_is}

-- a literal over a known variable
abbrev pub IsKnown : List ℕ → Literal → Type 0
IsKnown known l = is_among l.variable known ≡ true

-- every variable of a clause is known, and of each clause
abbrev pub IsKnownClause : List ℕ → List Literal → Type 0
IsKnownClause known c = (l : Literal) → Contains c l → IsKnown known l

abbrev pub AreKnown : List ℕ → List (List Literal) → Type 0
AreKnown known cs = (c : List Literal) → Contains cs c → IsKnownClause known c

known_cons : (known : List ℕ) (x : Literal) (xs : List Literal) → IsKnown known x → IsKnownClause known xs
    → IsKnownClause known (x ∷ xs)
known_cons known x xs h hs l i =
    ⊎_elim (λ (e : x ≡ l). subst (λ (k : Literal). IsKnown known k) e h) (λ j. hs l j) (contains_cons x xs l i)

known_nil : (known : List ℕ) → IsKnownClause known []
known_nil known l i = absurd (contains_nil l i)

known_one : (known : List ℕ) (x : Literal) → IsKnown known x → IsKnownClause known (x ∷ [])
known_one known x h = known_cons known x [] h (known_nil known)

known_negations : (known : List ℕ) (xs : List Literal) → IsKnownClause known xs → IsKnownClause known (map negation xs)
known_negations known xs h l i =
    let r = contains_map negation xs l i in
    subst (λ (k : Literal). IsKnown known k) r.2 (h r.0 r.1)

known_map : (known : List ℕ) (f : Literal → List Literal) (xs : List Literal)
    → ((x : Literal) → Contains xs x → IsKnownClause known (f x)) → AreKnown known (map f xs)
known_map known f xs h c i =
    let r = contains_map f xs c i in
    subst (λ (d : List Literal). IsKnownClause known d) r.2 (h r.0 r.1)

known_single : (known : List ℕ) (c : List Literal) → IsKnownClause known c → AreKnown known (c ∷ [])
known_single known c h d i =
    ⊎_elim (λ (e : c ≡ d). subst (λ (b : List Literal). IsKnownClause known b) e h) (λ j. absurd (contains_nil d j))
    (contains_cons c [] d i)

known_both : (known : List ℕ) (xs ys : List (List Literal)) → AreKnown known xs → AreKnown known ys
    → AreKnown known (xs ++ ys)
known_both known xs ys h k c i = ⊎_elim (λ j. h c j) (λ j. k c j) (Contains-append_cases xs ys c i)

defining_known : (known : List ℕ) (kind : GateKind) (g : Literal) (inputs : List Literal) → IsKnown known g
    → IsKnownClause known inputs → AreKnown known (defining kind g inputs)
defining_known known And g inputs own h =
    known_both known (map (λ x. negation g ∷ x ∷ []) inputs) ((g ∷ map negation inputs) ∷ [])
    (known_map known (λ x. negation g ∷ x ∷ []) inputs
    (λ x i. known_cons known (negation g) (x ∷ []) own (known_one known x (h x i))))
    (known_single known (g ∷ map negation inputs)
    (known_cons known g (map negation inputs) own (known_negations known inputs h)))
defining_known known Or g inputs own h =
    known_both known (map (λ x. g ∷ negation x ∷ []) inputs) ((negation g ∷ inputs) ∷ [])
    (known_map known (λ x. g ∷ negation x ∷ []) inputs
    (λ x i. known_cons known g (negation x ∷ []) own (known_one known (negation x) (h x i))))
    (known_single known (negation g ∷ inputs) (known_cons known (negation g) inputs own h))

-- what is known stays known
known_later : (gates : List Gate) (known : List ℕ) (v : ℕ) → is_among v known ≡ true
    → is_among v (known_after known gates) ≡ true
known_later gates known v i = known_is gates known v ∙ or_left (is_among v known) (is_among v (gate_names gates)) i

definitions_known : (gates : List Gate) (known : List ℕ) → AreEarlier known gates
    → AreKnown (known_after known gates) (definitions gates)
definitions_known [] known are c i = absurd (contains_nil c i)
definitions_known (g ∷ gates) known are c i =
    known_both (known_after (g.var ∷ known) gates) (gate_clauses g) (definitions gates)
    (defining_known (known_after (g.var ∷ known) gates) g.kind (gate_literal g) g.inputs
    (known_later gates (g.var ∷ known) g.var
    (or_left (nat_eq g.var g.var) (is_among g.var known) (eq-eqb g.var g.var refl)))
    (λ m n. known_later gates (g.var ∷ known) m.variable
    (or_right (nat_eq g.var m.variable) (is_among m.variable known) (inside known g.inputs are.0 m n))))
    (definitions_known gates (g.var ∷ known) are.2) c i

names_distinct : (gates : List Gate) (known : List ℕ) → AreEarlier known gates → AreDistinct (gate_names gates)
names_distinct [] known are = tt
names_distinct (g ∷ gates) known are = (
  gates_new gates (g.var ∷ known) are.2 g.var
      (or_left (nat_eq g.var g.var) (is_among g.var known) (eq-eqb g.var g.var refl)),
  names_distinct gates (g.var ∷ known) are.2,
)

module _ (c : Circuit) (is : IsCircuit c) where
  pub all_known : AreKnown (known_after (all_variables c.prefix) c.gates) (circuit_clauses c.gates c.output)
  all_known =
      known_both (known_after (all_variables c.prefix) c.gates) (definitions c.gates) ((c.output ∷ []) ∷ [])
      (definitions_known c.gates (all_variables c.prefix) is.gates)
      (known_single (known_after (all_variables c.prefix) c.gates) (c.output ∷ [])
      (known_one (known_after (all_variables c.prefix) c.gates) c.output is.output))

  -- a known variable is a quantified one or a gate
  pub known_cases : (v : ℕ) → is_among v (known_after (all_variables c.prefix) c.gates)
      ≡ (is_among v (all_variables c.prefix) || is_among v (gate_names c.gates))
  known_cases v = known_is c.gates (all_variables c.prefix) v

  pub in_range : (v : ℕ) → (is_among v (all_variables c.prefix) || is_among v (gate_names c.gates)) ≡ true
      → (1 ≤ v) × (v ≤ 1048576)
  in_range v h =
      ⊎_elim
      (λ t. all_among (λ u. (1 ≤ u) × (u ≤ 1048576)) (all_variables c.prefix) is.valid.in_range v t)
      (λ t. all_among (λ u. (1 ≤ u) × (u ≤ 1048576)) (gate_names c.gates) is.in_range v t)
      (or_cases (is_among v (all_variables c.prefix)) (is_among v (gate_names c.gates)) h)

  pub all_positive : (d : List Literal) → Contains (circuit_clauses c.gates c.output) d → ArePositive d
  all_positive d i l j = (in_range l.variable (sym (known_cases l.variable) ∙ all_known d i l j)).0

  -- no variable is quantified twice, or a gate twice, or both
  pub all_distinct : AreDistinct (all_variables c.prefix ++ gate_names c.gates)
  all_distinct =
      distinct_append (all_variables c.prefix) (gate_names c.gates) is.valid.distinct
      (names_distinct c.gates (all_variables c.prefix) is.gates)
      (λ v h. gates_new c.gates (all_variables c.prefix) is.gates v h)
