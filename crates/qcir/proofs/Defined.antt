-- The clauses of gates say that the gates have their values.
use Rattle.std.proofs.Common.{◌≡◌, ℕ, Bool, true, false, not, ◌&&◌, ◌||◌, List, [], ◌∷◌, map, Contains, Option, Some, None, ◌⊎◌, inl, inr, ⊎_elim, refl, sym, ap, ap₂, ◌∙◌, nat_eq}
use Rattle.std.specs.List.{list_any, list_all, flat_map}
use Rattle.std.proofs.lemmas.Bool.{and_parts, and_from, eqb-true, eqb-false, eq-eqb, ne_eqb, or_cases, or_from, or_left, or_right, or_parts, cases_eq}
use Rattle.std.proofs.lemmas.List.Folds.{list_all-append}
use Rattle.prefix.specs.Literal.{Literal, negation}
use Rattle.prefix.specs.Scopes.{is_among}
use Rattle.truth.specs.Matrix.{Values, with_value, same, is_true_of, literal_true, clause_true, matrix_true}
use Rattle.calculus.proofs.Lists.{all_at, any_same, contains_head, contains_tail}
use Rattle.calculus.proofs.Merging.{beq_true, beq_yes, beq_refl}
use Rattle.qcir.specs.declared.circuit.Gate.{Gate}
use Rattle.qcir.specs.declared.circuit.GateKind.{GateKind}
use Rattle.qcir.specs.declared.circuit.GateKind.TheVariants.{And, Or}
use Rattle.qcir.specs.Truth.{gate_value, with_gates, gate_names}
use Rattle.qcir.specs.Translation.{gate_literal, defining, gate_clauses, AreEarlier, known_after}
use Rattle.qcir.proofs.Over.{value_here, value_there}
use Rattle.qcir.proofs.TrueRows.{IsCovered}

-- a literal and its negation
negated_bool : (o : Option Bool) (p b : Bool) → o ≡ Some b → is_true_of o (not p) ≡ not (is_true_of o p)
negated_bool None p b e = cc
negated_bool (Some true) true b e = refl
negated_bool (Some true) false b e = refl
negated_bool (Some false) true b e = refl
negated_bool (Some false) false b e = refl

negated : (τ : Values) (l : Literal) (b : Bool) → τ l.variable ≡ Some b
    → literal_true τ (negation l) ≡ not (literal_true τ l)
negated τ l b e = negated_bool (τ l.variable) l.positive b e

own_true : (τ : Values) (g : Gate) (b : Bool) → τ g.var ≡ Some b → literal_true τ (gate_literal g) ≡ b
own_true τ g b e = ap (λ o. is_true_of o true) e ∙ beq_yes b

-- the clauses of pairs
all_pairs : (τ : Values) (n : Literal) (xs : List Literal)
    → list_all (clause_true τ) (map (λ x. n ∷ x ∷ []) xs) ≡ (literal_true τ n || list_all (literal_true τ) xs)
all_pairs τ n [] = sym (or_right (literal_true τ n) true refl)
all_pairs τ n (x ∷ xs) =
    ap (λ r. (literal_true τ n || (literal_true τ x || false)) && r) (all_pairs τ n xs)
    ∙ by (literal_true τ n) (literal_true τ x) (list_all (literal_true τ) xs)
  where
    by : (a b c : Bool) → ((a || (b || false)) && (a || c)) ≡ (a || (b && c))
    by true b c = refl
    by false true c = refl
    by false false c = refl

any_pairs : (τ : Values) (n : Literal) (xs : List Literal) → IsCovered τ xs
    → list_all (clause_true τ) (map (λ x. n ∷ negation x ∷ []) xs)
    ≡ (literal_true τ n || not (list_any (literal_true τ) xs))
any_pairs τ n [] covered = sym (or_right (literal_true τ n) true refl)
any_pairs τ n (x ∷ xs) covered =
    let v = covered x (contains_head x xs) in
    ap₂ (λ b r. (literal_true τ n || (b || false)) && r) (negated τ x v.0 v.1)
    (any_pairs τ n xs (λ l i. covered l (contains_tail x xs l i)))
    ∙ by (literal_true τ n) (literal_true τ x) (list_any (literal_true τ) xs)
  where
    by : (a b c : Bool) → ((a || (not b || false)) && (a || not c)) ≡ (a || not (b || c))
    by true b c = refl
    by false true c = refl
    by false false c = refl

negations_any : (τ : Values) (xs : List Literal) → IsCovered τ xs
    → list_any (literal_true τ) (map negation xs) ≡ not (list_all (literal_true τ) xs)
negations_any τ [] covered = refl
negations_any τ (x ∷ xs) covered =
    let v = covered x (contains_head x xs) in
    ap₂ (λ a r. a || r) (negated τ x v.0 v.1) (negations_any τ xs (λ l i. covered l (contains_tail x xs l i)))
    ∙ by (literal_true τ x) (list_all (literal_true τ) xs)
  where
    by : (a b : Bool) → (not a || not b) ≡ not (a && b)
    by true b = refl
    by false b = refl

-- a gate's clauses are true exactly where its variable has its value
defining_true : (τ : Values) (g : Gate) (kind : GateKind) (b : Bool) → τ g.var ≡ Some b → IsCovered τ g.inputs
    → matrix_true τ (defining kind (gate_literal g) g.inputs) ≡ same b (gate_value kind τ g.inputs)
defining_true τ g And b e covered =
    list_all-append (clause_true τ) (map (λ x. negation (gate_literal g) ∷ x ∷ []) g.inputs)
    ((gate_literal g ∷ map negation g.inputs) ∷ [])
    ∙ ap₂ (λ p q. p && ((literal_true τ (gate_literal g) || q) && true))
    (all_pairs τ (negation (gate_literal g)) g.inputs) (negations_any τ g.inputs covered)
    ∙ ap₂
    (λ n p. (n || list_all (literal_true τ) g.inputs) && ((p || not (list_all (literal_true τ) g.inputs)) && true))
    (negated τ (gate_literal g) b e ∙ ap not (own_true τ g b e)) (own_true τ g b e)
    ∙ by b (list_all (literal_true τ) g.inputs)
  where
    by : (b a : Bool) → ((not b || a) && ((b || not a) && true)) ≡ same b a
    by true true = refl
    by true false = refl
    by false true = refl
    by false false = refl
defining_true τ g Or b e covered =
    list_all-append (clause_true τ) (map (λ x. gate_literal g ∷ negation x ∷ []) g.inputs)
    ((negation (gate_literal g) ∷ g.inputs) ∷ [])
    ∙ ap (λ p. p && ((literal_true τ (negation (gate_literal g)) || list_any (literal_true τ) g.inputs) && true))
    (any_pairs τ (gate_literal g) g.inputs covered)
    ∙ ap₂
    (λ p n. (p || not (list_any (literal_true τ) g.inputs)) && ((n || list_any (literal_true τ) g.inputs) && true))
    (own_true τ g b e) (negated τ (gate_literal g) b e ∙ ap not (own_true τ g b e))
    ∙ by b (list_any (literal_true τ) g.inputs)
  where
    by : (b a : Bool) → ((b || not a) && ((not b || a) && true)) ≡ same b a
    by true true = refl
    by true false = refl
    by false true = refl
    by false false = refl

-- inputs with the same values
same_value : (kind : GateKind) (σ τ : Values) (inputs : List Literal)
    → ((l : Literal) → Contains inputs l → σ l.variable ≡ τ l.variable)
    → gate_value kind σ inputs ≡ gate_value kind τ inputs
same_value And σ τ inputs same = all_alike inputs same
  where
    all_alike : (xs : List Literal) → ((l : Literal) → Contains xs l → σ l.variable ≡ τ l.variable)
        → list_all (literal_true σ) xs ≡ list_all (literal_true τ) xs
    all_alike [] h = refl
    all_alike (x ∷ xs) h =
        ap₂ (λ a b. a && b) (ap (λ o. is_true_of o x.positive) (h x (contains_head x xs)))
        (all_alike xs (λ l i. h l (contains_tail x xs l i)))
same_value Or σ τ inputs same =
    any_same (literal_true σ) (literal_true τ) inputs (λ l i. ap (λ o. is_true_of o l.positive) (same l i))

-- all clauses of gates
abbrev pub definitions : List Gate → List (List Literal)
definitions gates = flat_map gate_clauses gates

-- what is known has values
abbrev pub AreThere : List ℕ → Values → Type 0
AreThere known τ = (v : ℕ) → is_among v known ≡ true → (b : Bool) × (τ v ≡ Some b)

-- an input is known
pub inside : (known : List ℕ) (inputs : List Literal)
    → list_all (λ (l : Literal). is_among l.variable known) inputs ≡ true
    → (l : Literal) → Contains inputs l → is_among l.variable known ≡ true
inside known inputs h l i = all_at (λ (k : Literal). is_among k.variable known) inputs h l i

among_cons : (x v : ℕ) (xs : List ℕ) → is_among v (x ∷ xs) ≡ true → (x ≡ v) ⊎ (is_among v xs ≡ true)
among_cons x v xs t = ⊎_elim (λ e. inl (eqb-true x v e)) (λ e. inr e) (or_cases (nat_eq x v) (is_among v xs) t)

-- Values that satisfy the clauses are those that the gates make.
pub gates_forced : (gates : List Gate) (known : List ℕ) (ρ τ : Values) → AreEarlier known gates → AreThere known τ
    → AreThere (gate_names gates) τ
    → ((v : ℕ) → is_among v known ≡ true → ρ v ≡ τ v) → matrix_true τ (definitions gates) ≡ true
    → (v : ℕ) → is_among v (known_after known gates) ≡ true → with_gates gates ρ v ≡ τ v
gates_forced [] known ρ τ are there names agree h v i = agree v i
gates_forced (g ∷ gates) known ρ τ are there names agree h v i =
    let own =
    names g.var (or_left (nat_eq g.var g.var) (is_among g.var (gate_names gates)) (eq-eqb g.var g.var refl)) in
    let parts =
    and_parts (matrix_true τ (gate_clauses g)) (matrix_true τ (definitions gates))
    (sym (list_all-append (clause_true τ) (gate_clauses g) (definitions gates)) ∙ h) in
    let is : own.0 ≡ gate_value g.kind τ g.inputs =
    beq_true own.0 (gate_value g.kind τ g.inputs)
    (sym (defining_true τ g g.kind own.0 own.1 (λ l j. there l.variable (inside known g.inputs are.0 l j)))
    ∙ parts.0) in
    let value = gate_value g.kind ρ g.inputs in
    let made : value ≡ own.0 =
    same_value g.kind ρ τ g.inputs (λ l j. agree l.variable (inside known g.inputs are.0 l j)) ∙ sym is in
    gates_forced gates (g.var ∷ known) (with_value g.var value ρ) τ are.2
    (λ w j. ⊎_elim (λ e. (own.0, ap τ (sym e) ∙ own.1)) (λ k. there w k) (among_cons g.var w known j))
    (λ w j. names w (or_right (nat_eq g.var w) (is_among w (gate_names gates)) j))
    (λ w j.
    ⊎_elim
    (λ e. value_here g.var w value ρ e ∙ ap Some made ∙ sym own.1 ∙ ap τ e)
    (λ ne.
    ⊎_elim (λ e. absurd (ne e)) (λ k. value_there g.var w value ρ ne ∙ agree w k) (among_cons g.var w known j))
    (cases_eq g.var w))
    parts.1 v i

-- what the gates make of values
pub record Made (known : List ℕ) (gates : List Gate) (ρ τ : Values) : Type 0 where
  pub kept : (v : ℕ) → is_among v known ≡ true → τ v ≡ ρ v
  pub there : AreThere (known_after known gates) τ
  pub holds : matrix_true τ (definitions gates) ≡ true

pub gates_made : (gates : List Gate) (known : List ℕ) (ρ : Values) → AreEarlier known gates → AreThere known ρ
    → Made known gates ρ (with_gates gates ρ)
gates_made [] known ρ are there = record { kept = λ v i. refl; there = there; holds = refl }
gates_made (g ∷ gates) known ρ are there =
    let value = gate_value g.kind ρ g.inputs in
    let next = with_value g.var value ρ in
    let τ = with_gates gates next in
    let apart : (v : ℕ) → is_among v known ≡ true → g.var ≡ v → ⊥ =
    λ v i e. let f : true ≡ false = sym i ∙ ap (λ w. is_among w known) (sym e) ∙ are.1 in cc in
    let there_next : AreThere (g.var ∷ known) next = λ v i.
    ⊎_elim
    (λ e. (value, value_here g.var v value ρ e))
    (λ ne.
    ⊎_elim (λ e. absurd (ne e)) (λ k. let r = there v k in (r.0, value_there g.var v value ρ ne ∙ r.1))
    (among_cons g.var v known i))
    (cases_eq g.var v) in
    let rest = gates_made gates (g.var ∷ known) next are.2 there_next in
    let kept : (v : ℕ) → is_among v known ≡ true → τ v ≡ ρ v = λ v i.
    rest.kept v (or_right (nat_eq g.var v) (is_among v known) i) ∙ value_there g.var v value ρ (apart v i) in
    let own : τ g.var ≡ Some value =
    rest.kept g.var (or_left (nat_eq g.var g.var) (is_among g.var known) (eq-eqb g.var g.var refl))
    ∙ value_here g.var g.var value ρ refl in
    let covered : IsCovered τ g.inputs = λ l j.
    let k = inside known g.inputs are.0 l j in
    let r = there l.variable k in
    (r.0, kept l.variable k ∙ r.1) in
    let equal : gate_value g.kind τ g.inputs ≡ value =
    same_value g.kind τ ρ g.inputs (λ l j. kept l.variable (inside known g.inputs are.0 l j)) in
    record {
      kept = kept;
      there = rest.there;
      holds = list_all-append (clause_true τ) (gate_clauses g) (definitions gates)
          ∙ and_from (matrix_true τ (gate_clauses g)) (matrix_true τ (definitions gates))
          (defining_true τ g g.kind value own covered ∙ ap (same value) equal ∙ beq_refl value) rest.holds;
    }

-- variables that are no gates keep their values
pub gates_off : (gates : List Gate) (ρ : Values) (v : ℕ) → is_among v (gate_names gates) ≡ false
    → with_gates gates ρ v ≡ ρ v
gates_off [] ρ v h = refl
gates_off (g ∷ gates) ρ v h =
    let value = gate_value g.kind ρ g.inputs in
    let parts = or_parts (nat_eq g.var v) (is_among v (gate_names gates)) h in
    gates_off gates (with_value g.var value ρ) v parts.1
    ∙ value_there g.var v value ρ (eqb-false g.var v parts.0)

-- what is known behind gates is what was known, and the gates
pub known_is : (gates : List Gate) (known : List ℕ) (v : ℕ)
    → is_among v (known_after known gates) ≡ (is_among v known || is_among v (gate_names gates))
known_is [] known v = off (is_among v known)
  where
    off : (b : Bool) → b ≡ (b || false)
    off true = refl
    off false = refl
known_is (g ∷ gates) known v =
    known_is gates (g.var ∷ known) v ∙ by (nat_eq g.var v) (is_among v known) (is_among v (gate_names gates))
  where
    by : (a b c : Bool) → ((a || b) || c) ≡ (b || (a || c))
    by true true c = refl
    by true false c = refl
    by false b c = refl

-- no gate was known before
pub gates_new : (gates : List Gate) (known : List ℕ) → AreEarlier known gates → (v : ℕ) → is_among v known ≡ true
    → is_among v (gate_names gates) ≡ false
gates_new [] known are v i = refl
gates_new (g ∷ gates) known are v i =
    or_from (nat_eq g.var v) (is_among v (gate_names gates))
    (ne_eqb g.var v (λ e. let f : true ≡ false = sym i ∙ ap (λ w. is_among w known) (sym e) ∙ are.1 in cc))
    (gates_new gates (g.var ∷ known) are.2 v (or_right (nat_eq g.var v) (is_among v known) i))
