-- The check formula of a circuit is unsatisfiable exactly where the circuit wins.
use Rattle.std.proofs.Common.{◌≡◌, ◌≢◌, ◌↔◌, ℕ, zero, suc, ◌+◌, ◌*◌, ◌<◌, ◌⊎◌, inl, inr, ⊎_elim, Bool, true, false, not, ◌&&◌, cond, List, [], ◌∷◌, ◌++◌, length, map, filter, get_or, Contains, Option, Some, None, refl, sym, ap, ap₂, ◌∙◌, subst, arith, append_assoc, append-nil, length-append, nat_eq, get_or-append-add}
use Rattle.std.specs.List.{list_any, list_all}
use Rattle.std.proofs.lemmas.Bool.{cond-true, cond-false, and_parts, and_from, or_from, or_parts, eq-eqb, ne_eqb, true≢false, false_from_ne_true}
use Rattle.std.proofs.lemmas.List.{get_or_append_left, get_or-map, length-map}
use Rattle.std.proofs.lemmas.List.Elements.{Contains-append_cases, Contains-append_left, Contains-append_right, Contains-get_or, All-contains}
use Rattle.std.proofs.lemmas.List.Folds.{list_all-append, list_any-append}
use Rattle.prefix.specs.declared.quant.Quant.{Quant}
use Rattle.prefix.specs.declared.quant.Quant.TheVariants.{Exists, Forall}
use Rattle.prefix.specs.Literal.{Literal}
use Rattle.prefix.specs.Scopes.{Scope, all_variables, quantifier_of, is_among, AreDistinct}
use Rattle.prefix.specs.Sides.{bad_of, opposite}
use Rattle.truth.specs.Matrix.{clause_true, matrix_true}
use Rattle.truth.specs.Truth.{assumed_value, truth}
use Rattle.calculus.specs.Rows.{Row, Assignment, is_of}
use Rattle.calculus.specs.Plays.{total, IsAllowed, Wins}
use Rattle.calculus.proofs.Lists.{contains_cons, contains_nil, filter_at, filter_from, among_at, among_from, contains_map_of, contains_map}
use Rattle.calculus.proofs.Levels.{outer_level, has_quantifier}
use Rattle.calculus.proofs.RowLemmas.{same_true, same_from, some_from}
use Rattle.aig.specs.Circuits.{IsEdge, IsNode, AreGates, value_of, edge_value, edge_number, gate_values}
use Rattle.aig.specs.Strategies.{output_of, output_vars, value_or, values_of}
use Rattle.aig.specs.declared.edge.Edge.{Edge}
use Rattle.aig.specs.declared.strategy.Output.{Output}
use Rattle.aig.specs.declared.strategy.Strategy.{Strategy}
use Rattle.builder.specs.Rows.{rows_of}
use Rattle.certcheck.specs.Check.{Named, named_inputs, named_output, named_outputs, names, number_in, numbered, given, given_outputs, units, gate_clauses, falsified, lost, lost_count, selectors, all_selectors, greatest, variable_count, check_clauses, scopes_to}
use Rattle.certcheck.specs.Theorems.{IsFor, ChecksWinning}
use Rattle.certcheck.proofs.Numbers.{value_suc, number_true, even_true, holds, all_hold, units_hold, unit_holds}
use Rattle.certcheck.proofs.Rows.{rows_hold}
use Rattle.certcheck.proofs.Gates.{Carries, edge_true, gates_give, listed, listed_length, listed_at, value_is, values_many, carried_gates}
use Rattle.certcheck.proofs.Naming.{AreFaithful, IsNamed, numbered_are, numbered_hold, given_gives, given_from, given_agree}
use Rattle.certcheck.proofs.Losing.{Selects, selects_from, falsified_gives, falsified_from, unselected_hold, count_of, lost_gives, lost_values, lost_from, unselected_won}
use Rattle.certcheck.proofs.Deciding.{satisfied_true, unsatisfied_false, rows_over}
use Rattle.certcheck.proofs.Bounds.{check_below}

-- five groups of clauses

five : (σ : Assignment) (a b c d : List (List ℕ)) (e : List ℕ)
    → all_hold σ (a ++ (b ++ (c ++ (d ++ e ∷ [])))) ≡
    (all_hold σ a && (all_hold σ b && (all_hold σ c && (all_hold σ d && (holds σ e && true)))))
five σ a b c d e =
    list_all-append (holds σ) a (b ++ (c ++ (d ++ e ∷ [])))
    ∙ ap (λ r. all_hold σ a && r) (list_all-append (holds σ) b (c ++ (d ++ e ∷ []))
    ∙ ap (λ r. all_hold σ b && r) (list_all-append (holds σ) c (d ++ e ∷ [])
    ∙ ap (λ r. all_hold σ c && r) (list_all-append (holds σ) d (e ∷ []))))

record Five (a b c d e : Bool) : Type 0 where
  pub first : a ≡ true
  pub second : b ≡ true
  pub third : c ≡ true
  pub fourth : d ≡ true
  pub fifth : e ≡ true

five_parts : (a b c d e : Bool) → (a && (b && (c && (d && (e && true))))) ≡ true → Five a b c d e
five_parts a b c d e h =
    let p = and_parts a (b && (c && (d && (e && true)))) h in
    let q = and_parts b (c && (d && (e && true))) p.1 in
    let r = and_parts c (d && (e && true)) q.1 in
    let s = and_parts d (e && true) r.1 in
    record { first = p.0; second = q.0; third = r.0; fourth = s.0; fifth = (and_parts e true s.1).0 }

last_false : (a b c d e : Bool) → a ≡ true → b ≡ true → c ≡ true → d ≡ true
    → (a && (b && (c && (d && (e && true))))) ≡ false → e ≡ false
last_false a b c d e p q r s h =
    false_from_ne_true e
    (λ t. true≢false
    (sym (and_from a _ p (and_from b _ q (and_from c _ r (and_from d _ s (and_from e true t refl))))) ∙ h))

-- numbers of lists of names

named_variables : (place : ℕ) (xs : List ℕ) → map (λ (n : Named). n.variable) (named_inputs place xs) ≡ xs
named_variables place [] = refl
named_variables place (x ∷ xs) = ap (λ r. x ∷ r) (named_variables (suc place) xs)

named_at : (place : ℕ) (xs : List ℕ) (i d : ℕ) → AreDistinct xs → i < length xs
    → number_in (named_inputs place xs) (get_or xs i d) ≡ 2 * suc (place + i)
named_at place [] i d distinct below = absurd (omega arith)
named_at place (x ∷ xs) zero d distinct below =
    let e : 2 * suc place ≡ 2 * suc (place + 0) = omega arith in
    cond-true (nat_eq x x) (2 * suc place) (number_in (named_inputs (suc place) xs) x) (eq-eqb x x refl) ∙ e
named_at place (x ∷ xs) (suc i) d distinct below =
    let lower : i < length xs = omega (arith, below) in
    let y = get_or xs i d in
    let other : x ≡ y
    → ⊥ = λ e.
    true≢false
    (sym (among_from xs y (Contains-get_or xs i d lower)) ∙ (ap (λ z. is_among z xs) (sym e) ∙ distinct.0)) in
    let next : 2 * suc (suc place + i) ≡ 2 * suc (place + suc i) = omega arith in
    cond-false (nat_eq x y) (2 * suc place) (number_in (named_inputs (suc place) xs) y) (ne_eqb x y other)
    ∙ named_at (suc place) xs i d distinct.1 lower ∙ next

-- inputs that have the values of their places
inputs_true : (σ values : Assignment) (place : ℕ) (xs : List ℕ)
    → ((i : ℕ) → i < length xs → σ (suc (place + i)) ≡ values (get_or xs i 0))
    → AreFaithful σ values (named_inputs place xs)
inputs_true σ values place [] h n i = absurd (contains_nil n i)
inputs_true σ values place (x ∷ xs) h n i =
    ⊎_elim
    (λ (e : record { variable = x; number = 2 * suc place } ≡ n).
    let here : place ≡ place + 0 = omega arith in
    subst (λ (k : Named). number_true σ k.number ≡ values k.variable) e
    (even_true σ (2 * suc place) (suc place) refl ∙ value_suc σ place ∙ ap (λ k. σ (suc k)) here
    ∙ h zero (omega arith)))
    (λ j. inputs_true σ values (suc place) xs (λ k below.
    let next : suc place + k ≡ place + suc k = omega arith in
    ap (λ m. σ (suc m)) next ∙ h (suc k) (omega (arith, below))) n j)
    (contains_cons (record { variable = x; number = 2 * suc place }) (named_inputs (suc place) xs) n i)

-- outputs
output_none : (os : List Output) (x : ℕ) → is_among x (output_vars os) ≡ false → output_of os x ≡ None
output_none [] x h = refl
output_none (o ∷ os) x h =
    let parts = or_parts (nat_eq o.var x) (is_among x (output_vars os)) h in
    cond-false (nat_eq o.var x) (Some o.edge) (output_of os x) parts.0 ∙ output_none os x parts.1

output_some : (os : List Output) (o : Output) → AreDistinct (output_vars os) → Contains os o
    → output_of os o.var ≡ Some o.edge
output_some [] o distinct i = absurd (contains_nil o i)
output_some (p ∷ os) o distinct i =
    ⊎_elim
    (λ (e : p ≡ o).
    subst (λ (q : Output). cond (nat_eq p.var q.var) (Some p.edge) (output_of os q.var) ≡ Some q.edge) e
    (cond-true (nat_eq p.var p.var) (Some p.edge) (output_of os p.var) (eq-eqb p.var p.var refl)))
    (λ j.
    let among : is_among o.var (output_vars os) ≡ true = among_from (output_vars os) o.var
    (contains_map_of (λ (q : Output). q.var) os o j) in
    let other : p.var ≡ o.var
    → ⊥ = λ e. true≢false (sym among ∙ (ap (λ z. is_among z (output_vars os)) (sym e) ∙ distinct.0)) in
    cond-false (nat_eq p.var o.var) (Some p.edge) (output_of os o.var) (ne_eqb p.var o.var other)
    ∙ output_some os o distinct.1 j)
    (contains_cons p os o i)

-- filters of distinct lists
filter_apart : (p : ℕ → Bool) (x : ℕ) (xs : List ℕ) → is_among x xs ≡ false → is_among x (filter p xs) ≡ false
filter_apart p x xs h = false_from_ne_true (is_among x (filter p xs))
    (λ t. true≢false (sym (among_from xs x (filter_at p xs x (among_at (filter p xs) x t)).0) ∙ h))

filter_distinct : (p : ℕ → Bool) (xs : List ℕ) → AreDistinct xs → AreDistinct (filter p xs)
filter_distinct p [] d = tt
filter_distinct p (x ∷ xs) d = by (p x) (filter_distinct p xs d.1)
  where
    by : (b : Bool) → AreDistinct (filter p xs) → AreDistinct (cond b (x ∷ filter p xs) (filter p xs))
    by true rest = (filter_apart p x xs d.0, rest)
    by false rest = rest

-- a variable is of one side alone
one_side : (o : Option Quant) (q : Quant) → is_of o q ≡ true → is_of o (opposite q) ≡ true → ⊥
one_side None q a b = cc
one_side (Some Exists) Exists a b = cc
one_side (Some Exists) Forall a b = cc
one_side (Some Forall) Exists a b = cc
one_side (Some Forall) Forall a b = cc

some_side : (o : Option Quant) (q : Quant) (r : Quant) → o ≡ Some r
    → (is_of o q ≡ true) ⊎ (is_of o (opposite q) ≡ true)
some_side None q r e = cc
some_side (Some Exists) Exists r e = inl refl
some_side (Some Exists) Forall r e = inr refl
some_side (Some Forall) Exists r e = inr refl
some_side (Some Forall) Forall r e = inl refl

-- values read off a list
looked_up : List Bool → ℕ → Bool
looked_up xs zero = false
looked_up xs (suc i) = get_or xs i false

looked_suc : (xs : List Bool) (i : ℕ) → looked_up xs (suc i) ≡ get_or xs i false
unfolding looked_up
looked_suc xs i = refl

looked_carries : (ins vs more : List Bool) → Carries (looked_up (ins ++ (vs ++ more))) ins vs
looked_carries ins vs more = record {
  of_inputs = λ i below. looked_suc (ins ++ (vs ++ more)) i ∙ get_or_append_left ins (vs ++ more) false i below;
  of_gates = λ j below. looked_suc (ins ++ (vs ++ more)) (length ins + j)
      ∙ get_or-append-add ins (vs ++ more) j false ∙ get_or_append_left vs more false j below;
}

looked_selects : (front mid back : List Bool) (first : ℕ) → first ≡ suc (length front)
    → Selects (looked_up (front ++ (mid ++ back))) first mid
looked_selects front mid back first e =
    selects_from (looked_up (front ++ (mid ++ back))) first mid (λ i below.
    let at : first + i ≡ suc (length front + i) = omega (arith, e) in
    even_true (looked_up (front ++ (mid ++ back))) (2 * (first + i)) (suc (length front + i)) (ap (λ k. 2 * k) at)
    ∙ value_suc (looked_up (front ++ (mid ++ back))) (length front + i)
    ∙ looked_suc (front ++ (mid ++ back)) (length front + i) ∙ get_or-append-add front (mid ++ back) i false
    ∙ get_or_append_left mid back false i below)

module _ (scopes : List Scope) (clauses : List Row) (assumptions : List Literal) (s : Strategy)
    (apart : AreDistinct (all_variables scopes)) (proper : AreGates s.aig.inputs s.aig.gates)
    (is : IsFor scopes clauses assumptions s) where
  abbrev pivot : Quant
  pivot = opposite s.winner

  abbrev ins_of : Assignment → List Bool
  ins_of values = map values s.inputs

  ins_many : (values : Assignment) → s.aig.inputs ≡ length (ins_of values)
  ins_many values = is.strategy.inputs ∙ sym (length-map s.inputs values)

  gates_are : (values : Assignment) → AreGates (length (ins_of values)) s.aig.gates
  gates_are values = subst (λ k. AreGates k s.aig.gates) (ins_many values) proper

  of_input : (x : ℕ) → Contains s.inputs x → Contains (all_variables scopes) x
      × (is_of (quantifier_of scopes x) pivot ≡ true)
  of_input x i = filter_at (λ v. is_of (quantifier_of scopes v) pivot) (all_variables scopes) x
      (subst (λ xs. Contains xs x) is.inputs i)

  of_output : (x : ℕ) → Contains (output_vars s.outputs) x → Contains (all_variables scopes) x
      × (is_of (quantifier_of scopes x) s.winner ≡ true)
  of_output x i = filter_at (λ v. is_of (quantifier_of scopes v) s.winner) (all_variables scopes) x
      (subst (λ xs. Contains xs x) is.outputs i)

  to_input : (x : ℕ) → Contains (all_variables scopes) x → is_of (quantifier_of scopes x) pivot ≡ true
      → Contains s.inputs x
  to_input x i q = subst (λ xs. Contains xs x) (sym is.inputs)
      (filter_from (λ v. is_of (quantifier_of scopes v) pivot) (all_variables scopes) x i q)

  to_output : (x : ℕ) → Contains (all_variables scopes) x → is_of (quantifier_of scopes x) s.winner ≡ true
      → Contains (output_vars s.outputs) x
  to_output x i q = subst (λ xs. Contains xs x) (sym is.outputs)
      (filter_from (λ v. is_of (quantifier_of scopes v) s.winner) (all_variables scopes) x i q)

  inputs_distinct : AreDistinct s.inputs
  inputs_distinct = subst (λ xs. AreDistinct xs) (sym is.inputs)
      (filter_distinct (λ v. is_of (quantifier_of scopes v) pivot) (all_variables scopes) apart)

  outputs_distinct : AreDistinct (output_vars s.outputs)
  outputs_distinct = subst (λ xs. AreDistinct xs) (sym is.outputs)
      (filter_distinct (λ v. is_of (quantifier_of scopes v) s.winner) (all_variables scopes) apart)

  -- a variable of the winner
  not_pivot : (x : ℕ) → is_of (quantifier_of scopes x) s.winner ≡ true → quantifier_of scopes x ≢ Some pivot
  not_pivot x t e = one_side (quantifier_of scopes x) s.winner t (same_from (quantifier_of scopes x) pivot e)

  -- an input keeps its value
  input_kept : (values : Assignment) (x : ℕ) → Contains s.inputs x → values_of s values x ≡ values x
  input_kept values x i =
      let none : is_among x (output_vars s.outputs) ≡ false = false_from_ne_true (is_among x (output_vars s.outputs))
      (λ t.
      one_side (quantifier_of scopes x) s.winner (of_output x (among_at (output_vars s.outputs) x t)).1
      (of_input x i).1) in
      ap (λ o. value_or s.aig (ins_of values) o (values x)) (output_none s.outputs x none)

  output_value : (values : Assignment) (o : Output) → Contains s.outputs o
      → values_of s values o.var ≡ value_of s.aig (ins_of values) o.edge
  output_value values o i = ap (λ e. value_or s.aig (ins_of values) e (values o.var))
      (output_some s.outputs o outputs_distinct i)

  -- every variable is named
  named : (x : ℕ) → Contains (all_variables scopes) x → IsNamed (names s) x
  named x i =
      let q = some_from (quantifier_of scopes x) (has_quantifier scopes x i) in
      let f : Named → ℕ = λ (n : Named). n.variable in
      ⊎_elim
      (λ t.
      let o = contains_map (λ (p : Output). p.var) s.outputs x (to_output x i t) in
      subst (λ y. Contains (map f (names s)) y) o.2
      (contains_map_of f (names s) (named_output s.aig.inputs o.0)
      (Contains-append_right (named_inputs 0 s.inputs) (named_outputs s.aig.inputs s.outputs)
      (named_output s.aig.inputs o.0) (contains_map_of (named_output s.aig.inputs) s.outputs o.0 o.1))))
      (λ t.
      let n = contains_map f (named_inputs 0 s.inputs) x
      (subst (λ xs. Contains xs x) (sym (named_variables 0 s.inputs)) (to_input x i t)) in
      subst (λ y. Contains (map f (names s)) y) n.2
      (contains_map_of f (names s) n.0
      (Contains-append_left (named_inputs 0 s.inputs) (named_outputs s.aig.inputs s.outputs) n.0 n.1)))
      (some_side (quantifier_of scopes x) s.winner q.0 q.1)

  -- inputs with their values, and outputs with those of their edges
  faithful_inputs : (σ values : Assignment) (vs : List Bool) → Carries σ (ins_of values) vs
      → AreFaithful σ values (named_inputs 0 s.inputs)
  faithful_inputs σ values vs carries =
      inputs_true σ values 0 s.inputs (λ i below.
      let zeroth : 0 + i ≡ i = omega arith in
      let fits : i < length (ins_of values) = let e = length-map s.inputs values in omega (arith, below, e) in
      ap (λ k. σ (suc k)) zeroth ∙ carries.of_inputs i fits ∙ get_or-map values s.inputs i 0 false below)

  faithful_outputs : (σ values : Assignment) (vs : List Bool) → Carries σ (ins_of values) vs
      → length vs ≡ length s.aig.gates
      → ((e : Edge) → IsEdge s.aig e → edge_value (ins_of values) vs e ≡ value_of s.aig (ins_of values) e)
      → AreFaithful σ (values_of s values) (named_outputs s.aig.inputs s.outputs)
  unfolding IsEdge
  faithful_outputs σ values vs carries many edges n i =
      let r = contains_map (named_output s.aig.inputs) s.outputs n i in
      let o = r.0 in
      let stands : IsEdge s.aig o.edge =
      All-contains (λ (p : Output). IsEdge s.aig p.edge) s.outputs o is.strategy.outputs r.1 in
      let fits : IsNode (length (ins_of values)) (length vs) o.edge.node =
      subst (λ k. IsNode (length (ins_of values)) k o.edge.node) (sym many)
      (subst (λ k. IsNode k (length s.aig.gates) o.edge.node) (ins_many values) stands) in
      subst (λ (k : Named). number_true σ k.number ≡ values_of s values k.variable) r.2
      (ap (λ k. number_true σ (edge_number k o.edge)) (ins_many values)
      ∙ edge_true σ (ins_of values) vs o.edge carries fits ∙ edges o.edge stands ∙ sym (output_value values o r.1))

  faithful : (σ values : Assignment) (vs : List Bool) → Carries σ (ins_of values) vs → length vs ≡ length s.aig.gates
      → ((e : Edge) → IsEdge s.aig e → edge_value (ins_of values) vs e ≡ value_of s.aig (ins_of values) e)
      → AreFaithful σ (values_of s values) (names s)
  faithful σ values vs carries many edges n i =
      ⊎_elim
      (λ j.
      let r = contains_map (λ (m : Named). m.variable) (named_inputs 0 s.inputs) n.variable
      (contains_map_of (λ (m : Named). m.variable) (named_inputs 0 s.inputs) n j) in
      let listed_there : Contains s.inputs n.variable = subst (λ xs. Contains xs n.variable)
      (named_variables 0 s.inputs) (contains_map_of (λ (m : Named). m.variable) (named_inputs 0 s.inputs) n j) in
      faithful_inputs σ values vs carries n j ∙ sym (input_kept values n.variable listed_there))
      (λ j. faithful_outputs σ values vs carries many edges n j)
      (Contains-append_cases (named_inputs 0 s.inputs) (named_outputs s.aig.inputs s.outputs) n i)

  -- an assumed variable of the loser is an input, one of the winner an output
  assumed_input : (x : ℕ) (b : Bool) → assumed_value assumptions x ≡ Some b → quantifier_of scopes x ≡ Some pivot
      → Contains s.inputs x
  assumed_input x b e q = to_input x (outer_level scopes assumptions is.outer x b e).0
      (same_from (quantifier_of scopes x) pivot q)

  assumed_output : (x : ℕ) (b : Bool) → assumed_value assumptions x ≡ Some b → quantifier_of scopes x ≢ Some pivot
      → Contains (output_vars s.outputs) x
  assumed_output x b e ne =
      let i = (outer_level scopes assumptions is.outer x b e).0 in
      let q = some_from (quantifier_of scopes x) (has_quantifier scopes x i) in
      ⊎_elim (λ t. to_output x i t) (λ t. absurd (ne (same_true (quantifier_of scopes x) pivot t)))
      (some_side (quantifier_of scopes x) s.winner q.0 q.1)

  count_same : count_of s.winner (numbered (names s) clauses) ≡ lost_count s.winner clauses
  count_same = by s.winner
    where
      by : (q : Quant) → count_of q (numbered (names s) clauses) ≡ lost_count q clauses
      by Exists = length-map clauses (map (Rattle.certcheck.specs.Check.number_of (names s)))
      by Forall = refl

  units_many : length (units (given_outputs assumptions s)) ≡ length (given_outputs assumptions s)
  units_many = length-map (given_outputs assumptions s) (λ n. n ∷ [])

  inside : (c : Row) (l : Literal) → Contains clauses c → Contains c l → IsNamed (names s) l.variable
  inside c l i j = named l.variable (is.over c l i j)

  output_named : (n : Named) → Contains (named_outputs s.aig.inputs s.outputs) n
      → Contains (output_vars s.outputs) n.variable
  output_named n i =
      let r = contains_map (named_output s.aig.inputs) s.outputs n i in
      subst (λ (k : Named). Contains (output_vars s.outputs) k.variable) r.2
      (contains_map_of (λ (p : Output). p.var) s.outputs r.0 r.1)

  -- what an assignment says of the inputs and of the gates
  read_values : Assignment → Assignment
  read_values σ x = number_true σ (number_in (named_inputs 0 s.inputs) x)

  read_at : (σ : Assignment) (i : ℕ) → i < length s.inputs → read_values σ (get_or s.inputs i 0) ≡ σ (suc i)
  unfolding read_values
  read_at σ i below =
      let zeroth : 2 * suc (0 + i) ≡ 2 * suc i = omega arith in
      ap (number_true σ) (named_at 0 s.inputs i 0 inputs_distinct below)
      ∙ even_true σ (2 * suc (0 + i)) (suc i) zeroth ∙ value_suc σ i

  read_gates : Assignment → List Bool
  read_gates σ = listed (λ j. σ (suc (length (ins_of (read_values σ)) + j))) (length s.aig.gates)

  read_many : (σ : Assignment) → length (read_gates σ) ≡ length s.aig.gates
  unfolding read_gates
  read_many σ = listed_length (λ j. σ (suc (length (ins_of (read_values σ)) + j))) (length s.aig.gates)

  read_gate : (σ : Assignment) (j : ℕ) → j < length s.aig.gates
      → get_or (read_gates σ) j false ≡ σ (suc (length (ins_of (read_values σ)) + j))
  unfolding read_gates
  read_gate σ j below = listed_at (λ k. σ (suc (length (ins_of (read_values σ)) + k))) (length s.aig.gates) j below

  read_carries : (σ : Assignment) → Carries σ (ins_of (read_values σ)) (read_gates σ)
  read_carries σ = record {
    of_inputs = λ i below.
        let many = length-map s.inputs (read_values σ) in
        let fits : i < length s.inputs = omega (arith, below, many) in
        sym (get_or-map (read_values σ) s.inputs i 0 false fits ∙ read_at σ i fits);
    of_gates = λ j below. let many = read_many σ in sym (read_gate σ j (omega (arith, below, many)));
  }

  read_edges : (σ : Assignment) → all_hold σ (gate_clauses s.aig.inputs 0 s.aig.gates) ≡ true → (e : Edge)
      → IsEdge s.aig e
      → edge_value (ins_of (read_values σ)) (read_gates σ) e ≡ value_of s.aig (ins_of (read_values σ)) e
  unfolding IsEdge value_of
  read_edges σ h e stands =
      let values = read_values σ in
      let hold : all_hold σ (gate_clauses (length (ins_of values)) 0 s.aig.gates) ≡ true =
      subst (λ k. all_hold σ (gate_clauses k 0 s.aig.gates) ≡ true) (ins_many values) h in
      sym (value_is σ (ins_of values) (read_gates σ) s.aig.gates (read_carries σ) (read_many σ) (gates_are values)
      (λ j d below.
      let zeroth : 0 + j ≡ j = omega arith in
      ap (λ k. σ (suc (length (ins_of values) + k))) (sym zeroth)
      ∙ gates_give σ (length (ins_of values)) 0 s.aig.gates hold j d below)
      e (subst (λ k. IsNode k (length s.aig.gates) e.node) (ins_many values) stands))

  -- the five groups hold
  abbrev Groups : Assignment → Type 0
  Groups σ = Five (all_hold σ (units (given assumptions (named_inputs 0 s.inputs))))
      (all_hold σ (gate_clauses s.aig.inputs 0 s.aig.gates))
      (all_hold σ (lost s.winner (greatest s + 1) (numbered (names s) clauses)))
      (all_hold σ (falsified (greatest s + 1 + lost_count s.winner clauses) (units (given_outputs assumptions s))))
      (holds σ (all_selectors clauses assumptions s))

  groups_of : (σ : Assignment) → all_hold σ (check_clauses clauses assumptions s) ≡ true → Groups σ
  groups_of σ h =
      let a = units (given assumptions (named_inputs 0 s.inputs)) in
      let b = gate_clauses s.aig.inputs 0 s.aig.gates in
      let c = lost s.winner (greatest s + 1) (numbered (names s) clauses) in
      let d = falsified (greatest s + 1 + lost_count s.winner clauses) (units (given_outputs assumptions s)) in
      let e = all_selectors clauses assumptions s in
      five_parts (all_hold σ a) (all_hold σ b) (all_hold σ c) (all_hold σ d) (holds σ e) (sym (five σ a b c d e) ∙ h)

  read_allowed : (σ : Assignment) → Groups σ → IsAllowed pivot scopes assumptions (read_values σ)
  read_allowed σ parts x b e q =
      let n = contains_map (λ (m : Named). m.variable) (named_inputs 0 s.inputs) x
      (subst (λ xs. Contains xs x) (sym (named_variables 0 s.inputs)) (assumed_input x b e q)) in
      subst (λ y. read_values σ y ≡ b) n.2
      (given_gives σ (read_values σ) assumptions (named_inputs 0 s.inputs)
      (faithful_inputs σ (read_values σ) (read_gates σ) (read_carries σ))
      (sym (units_hold σ (given assumptions (named_inputs 0 s.inputs))) ∙ parts.first) n.0 n.1 b
      (ap (assumed_value assumptions) n.2 ∙ e))

  none_first : (σ : Assignment) → Groups σ → matrix_true (total (values_of s (read_values σ))) clauses ≡ bad_of pivot
      → list_any (number_true σ) (selectors (greatest s + 1) (lost_count s.winner clauses)) ≡ false
  none_first σ parts won =
      ap (λ k. list_any (number_true σ) (selectors (greatest s + 1) k)) (sym count_same)
      ∙ lost_gives σ s.winner (greatest s + 1) (numbered (names s) clauses) parts.third
      (numbered_hold σ (values_of s (read_values σ)) (names s) clauses
      (faithful σ (read_values σ) (read_gates σ) (read_carries σ) (read_many σ) (read_edges σ parts.second)) inside
      ∙ won)

  none_second : (σ : Assignment) → Groups σ
      → ((x : ℕ) (b : Bool) → assumed_value assumptions x ≡ Some b → quantifier_of scopes x ≢ Some pivot
      → values_of s (read_values σ) x ≡ b)
      → list_any (number_true σ)
      (selectors (greatest s + 1 + lost_count s.winner clauses) (length (given_outputs assumptions s))) ≡ false
  none_second σ parts won =
      let right : list_all (number_true σ) (given_outputs assumptions s) ≡ true =
      given_from σ (values_of s (read_values σ)) assumptions (named_outputs s.aig.inputs s.outputs)
      (faithful_outputs σ (read_values σ) (read_gates σ) (read_carries σ) (read_many σ) (read_edges σ parts.second))
      (λ n i b e. won n.variable b e (not_pivot n.variable (of_output n.variable (output_named n i)).1)) in
      ap (λ k. list_any (number_true σ) (selectors (greatest s + 1 + lost_count s.winner clauses) k)) (sym units_many)
      ∙ falsified_gives σ (greatest s + 1 + lost_count s.winner clauses)
      (units (given_outputs assumptions s)) parts.fourth (units_hold σ (given_outputs assumptions s) ∙ right)

  -- values that satisfy the check formula refute the circuit
  sound : (σ : Assignment) → all_hold σ (check_clauses clauses assumptions s) ≡ true
      → Wins pivot scopes clauses assumptions (values_of s) → ⊥
  sound σ h wins =
      let parts = groups_of σ h in
      let won = wins (read_values σ) (read_allowed σ parts) in
      let k = selectors (greatest s + 1) (lost_count s.winner clauses) in
      let l = selectors (greatest s + 1 + lost_count s.winner clauses) (length (given_outputs assumptions s)) in
      true≢false (sym parts.fifth ∙ list_any-append (number_true σ) k l
      ∙ or_from (list_any (number_true σ) k) (list_any (number_true σ) l) (none_first σ parts won.0)
      (none_second σ parts won.1))

  -- the circuit's own gates
  own_gates : Assignment → List Bool
  own_gates values = gate_values (ins_of values) [] s.aig.gates

  own_many : (values : Assignment) → length (own_gates values) ≡ length s.aig.gates
  unfolding own_gates
  own_many values = values_many (ins_of values) [] s.aig.gates
      ∙ (let z : 0 + length s.aig.gates ≡ length s.aig.gates = omega arith in z)

  own_edges : (values : Assignment) (e : Edge) → IsEdge s.aig e → edge_value (ins_of values) (own_gates values) e
      ≡ value_of s.aig (ins_of values) e
  unfolding own_gates value_of
  own_edges values e stands = refl

  -- the truth of what is given, whatever the selectors are
  given_values : Assignment → List Bool
  given_values values = map (number_true (looked_up (ins_of values ++ (own_gates values ++ []))))
      (given_outputs assumptions s)

  matrix_values : Assignment → List Bool
  matrix_values values = lost_values s.winner (map (clause_true (total (values_of s values))) clauses)

  -- values of the inputs, the gates and the selectors
  witness : Assignment → Assignment
  witness values =
      looked_up (ins_of values ++ (own_gates values ++ (matrix_values values ++ map not (given_values values))))

  witness_carries : (values : Assignment) → Carries (witness values) (ins_of values) (own_gates values)
  unfolding witness
  witness_carries values = looked_carries (ins_of values) (own_gates values)
      (matrix_values values ++ map not (given_values values))

  witness_faithful : (values : Assignment) → AreFaithful (witness values) (values_of s values) (names s)
  witness_faithful values = faithful (witness values) values (own_gates values) (witness_carries values)
      (own_many values) (own_edges values)

  witness_outputs : (values : Assignment) → AreFaithful (witness values) (values_of s values)
      (named_outputs s.aig.inputs s.outputs)
  witness_outputs values = faithful_outputs (witness values) values (own_gates values) (witness_carries values)
      (own_many values) (own_edges values)

  witness_given : (values : Assignment) → map (number_true (witness values)) (given_outputs assumptions s)
      ≡ given_values values
  unfolding given_values
  witness_given values =
      let base = looked_up (ins_of values ++ (own_gates values ++ [])) in
      let plain = faithful_outputs base values (own_gates values)
      (looked_carries (ins_of values) (own_gates values) []) (own_many values) (own_edges values) in
      given_agree (witness values) base assumptions (named_outputs s.aig.inputs s.outputs)
      (λ n i. witness_outputs values n i ∙ sym (plain n i))

  front_many : (values : Assignment) → length (ins_of values ++ own_gates values) ≡ greatest s
  front_many values =
      length-append (ins_of values) (own_gates values) ∙ ap (λ k. k + length (own_gates values))
      (sym (ins_many values)) ∙ ap (λ k. s.aig.inputs + k) (own_many values)

  matrix_many : (values : Assignment) → length (matrix_values values) ≡ lost_count s.winner clauses
  unfolding matrix_values
  matrix_many values = by s.winner
    where
      by : (q : Quant) → length (lost_values q (map (clause_true (total (values_of s values))) clauses))
          ≡ lost_count q clauses
      by Exists = length-map (map (clause_true (total (values_of s values))) clauses) not
          ∙ length-map clauses (clause_true (total (values_of s values)))
      by Forall = refl

  witness_first : (values : Assignment) → Selects (witness values) (greatest s + 1)
      (lost_values s.winner (map (holds (witness values)) (numbered (names s) clauses)))
  unfolding witness matrix_values
  witness_first values =
      let next : greatest s + 1 ≡ suc (length (ins_of values ++ own_gates values)) = let e = front_many values in
      omega (arith, e) in
      subst (λ bs. Selects (witness values) (greatest s + 1) (lost_values s.winner bs))
      (sym (numbered_are (witness values) (values_of s values) (names s) clauses (witness_faithful values) inside))
      (subst (λ l. Selects (looked_up l) (greatest s + 1) (matrix_values values))
      (append_assoc (ins_of values) (own_gates values) (matrix_values values ++ map not (given_values values)))
      (looked_selects (ins_of values ++ own_gates values) (matrix_values values) (map not (given_values values))
      (greatest s + 1) next))

  holds_units : (σ : Assignment) (ns : List ℕ) → map (holds σ) (units ns) ≡ map (number_true σ) ns
  holds_units σ [] = refl
  holds_units σ (n ∷ ns) = ap₂ (λ b r. b ∷ r) (unit_holds σ n) (holds_units σ ns)

  witness_second : (values : Assignment) → Selects (witness values) (greatest s + 1 + lost_count s.winner clauses)
      (map not (map (holds (witness values)) (units (given_outputs assumptions s))))
  unfolding witness
  witness_second values =
      let m = lost_count s.winner clauses in
      let ins = ins_of values in
      let own = own_gates values in
      let mid = matrix_values values in
      let last = map not (given_values values) in
      let e = front_many values in
      let f = matrix_many values in
      let g = length-append (ins ++ own) mid in
      let next : greatest s + 1 + m ≡ suc (length ((ins ++ own) ++ mid)) = omega (arith, e, f, g) in
      let list_is : ((ins ++ own) ++ mid) ++ (last ++ []) ≡ ins ++ (own ++ (mid ++ last)) =
      ap (λ r. ((ins ++ own) ++ mid) ++ r) (append-nil last) ∙ append_assoc (ins ++ own) mid last
      ∙ append_assoc ins own (mid ++ last) in
      subst (λ bs. Selects (witness values) (greatest s + 1 + m) (map not bs))
      (sym (holds_units (witness values) (given_outputs assumptions s) ∙ witness_given values))
      (subst (λ l. Selects (looked_up l) (greatest s + 1 + m) last) list_is
      (looked_selects ((ins ++ own) ++ mid) last [] (greatest s + 1 + m) next))

  witness_gates : (values : Assignment) → all_hold (witness values) (gate_clauses s.aig.inputs 0 s.aig.gates) ≡ true
  unfolding own_gates
  witness_gates values =
      subst (λ k. all_hold (witness values) (gate_clauses k 0 s.aig.gates) ≡ true) (sym (ins_many values))
      (carried_gates (witness values) (ins_of values) s.aig.gates (gates_are values) (witness_carries values))

  inputs_right : (values : Assignment) → IsAllowed pivot scopes assumptions values
      → list_all (number_true (witness values)) (given assumptions (named_inputs 0 s.inputs)) ≡ true
  inputs_right values allowed =
      given_from (witness values) values assumptions (named_inputs 0 s.inputs)
      (faithful_inputs (witness values) values (own_gates values) (witness_carries values)) (λ n i x e.
      let there : Contains s.inputs n.variable = subst (λ xs. Contains xs n.variable) (named_variables 0 s.inputs)
      (contains_map_of (λ (m : Named). m.variable) (named_inputs 0 s.inputs) n i) in
      allowed n.variable x e (same_true (quantifier_of scopes n.variable) pivot (of_input n.variable there).1))

  -- where the check formula fails no selector is true
  unselected : (values : Assignment) → IsAllowed pivot scopes assumptions values
      → all_hold (witness values) (check_clauses clauses assumptions s) ≡ false
      → (list_any (number_true (witness values)) (selectors (greatest s + 1) (lost_count s.winner clauses)) ≡ false)
      × (list_any (number_true (witness values))
      (selectors (greatest s + 1 + lost_count s.winner clauses) (length (given_outputs assumptions s))) ≡ false)
  unselected values allowed fails =
      let σ = witness values in
      let a = units (given assumptions (named_inputs 0 s.inputs)) in
      let b = gate_clauses s.aig.inputs 0 s.aig.gates in
      let c = lost s.winner (greatest s + 1) (numbered (names s) clauses) in
      let d = falsified (greatest s + 1 + lost_count s.winner clauses) (units (given_outputs assumptions s)) in
      let k = selectors (greatest s + 1) (lost_count s.winner clauses) in
      let l = selectors (greatest s + 1 + lost_count s.winner clauses) (length (given_outputs assumptions s)) in
      let none : holds σ (k ++ l) ≡ false =
      last_false (all_hold σ a) (all_hold σ b) (all_hold σ c) (all_hold σ d) (holds σ (k ++ l))
      (units_hold σ (given assumptions (named_inputs 0 s.inputs)) ∙ inputs_right values allowed)
      (witness_gates values)
      (lost_from σ s.winner (greatest s + 1) (numbered (names s) clauses) (witness_first values))
      (falsified_from σ (greatest s + 1 + lost_count s.winner clauses) (units (given_outputs assumptions s))
      (witness_second values))
      (sym (five σ a b c d (k ++ l)) ∙ fails) in
      or_parts (list_any (number_true σ) k) (list_any (number_true σ) l)
      (sym (list_any-append (number_true σ) k l) ∙ none)

  given_right : (values : Assignment) → list_any (number_true (witness values))
      (selectors (greatest s + 1 + lost_count s.winner clauses) (length (given_outputs assumptions s))) ≡ false
      → list_all (number_true (witness values)) (given_outputs assumptions s) ≡ true
  given_right values none =
      sym (units_hold (witness values) (given_outputs assumptions s))
      ∙ unselected_hold (witness values) (greatest s + 1 + lost_count s.winner clauses)
      (units (given_outputs assumptions s)) (witness_second values)
      (ap (λ k. list_any (number_true (witness values))
      (selectors (greatest s + 1 + lost_count s.winner clauses) k)) units_many ∙ none)

  matrix_won : (values : Assignment) → list_any (number_true (witness values))
      (selectors (greatest s + 1) (lost_count s.winner clauses)) ≡ false
      → matrix_true (total (values_of s values)) clauses ≡ bad_of pivot
  matrix_won values none =
      sym (numbered_hold (witness values) (values_of s values) (names s) clauses (witness_faithful values) inside)
      ∙ unselected_won (witness values) s.winner (greatest s + 1) (numbered (names s) clauses) (witness_first values)
      (ap (λ k. list_any (number_true (witness values)) (selectors (greatest s + 1) k)) count_same ∙ none)

  outputs_won : (values : Assignment) → list_all (number_true (witness values)) (given_outputs assumptions s) ≡ true
      → (x : ℕ) (b : Bool) → assumed_value assumptions x ≡ Some b → quantifier_of scopes x ≢ Some pivot
      → values_of s values x ≡ b
  outputs_won values right x b e ne =
      let o = contains_map (λ (p : Output). p.var) s.outputs x (assumed_output x b e ne) in
      subst (λ z. values_of s values z ≡ b) o.2
      (given_gives (witness values) (values_of s values) assumptions (named_outputs s.aig.inputs s.outputs)
      (witness_outputs values) right (named_output s.aig.inputs o.0)
      (contains_map_of (named_output s.aig.inputs) s.outputs o.0 o.1) b (ap (assumed_value assumptions) o.2 ∙ e))

  -- Where nothing satisfies the check formula the circuit wins.
  complete : ((σ : Assignment) → all_hold σ (check_clauses clauses assumptions s) ≡ false)
      → Wins pivot scopes clauses assumptions (values_of s)
  complete fails values allowed =
      let both = unselected values allowed (fails (witness values)) in
      (matrix_won values both.0, outputs_won values (given_right values both.1))

  pub checks :
      (truth (scopes_to (variable_count clauses assumptions s)) (rows_of (check_clauses clauses assumptions s))
      ≡ false)
      ↔ Wins pivot scopes clauses assumptions (values_of s)
  checks =
      let k = variable_count clauses assumptions s in
      let cs = check_clauses clauses assumptions s in
      let over = rows_over k cs (check_below clauses assumptions s is.strategy proper) in (
        λ f. complete
            (λ σ. false_from_ne_true (all_hold σ cs)
            (λ t. true≢false (sym (satisfied_true k (rows_of cs) σ over (rows_hold σ cs ∙ t)) ∙ f))),
        λ wins. unsatisfied_false k (rows_of cs) over
            (λ σ. rows_hold σ cs ∙ false_from_ne_true (all_hold σ cs) (λ t. sound σ t wins)),
      )

pub checks_winning : ChecksWinning
checks_winning scopes clauses assumptions s apart proper is = checks scopes clauses assumptions s apart proper is
