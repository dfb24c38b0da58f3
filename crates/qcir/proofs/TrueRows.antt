-- The rows of clauses are true where the clauses are.
use Rattle.std.proofs.Common.{◌≡◌, ℕ, zero, suc, ◌-◌, ◌≤◌, ℤ, pos, negsuc, nat_abs, Bool, true, false, not, ◌&&◌, cond, List, [], ◌∷◌, map, filter, Contains, Option, Some, None, ◌⊎◌, inl, inr, ⊎_elim, refl, sym, ap, ap₂, ◌∙◌, arith, subst}
use Rattle.std.specs.Prelude.{◌==◌, neg_ℤ, if◌then◌else◌}
use Rattle.std.specs.Ordering.{int_eq}
use Rattle.std.proofs.lemmas.Bool.{and_parts, cases_Bool, eqb-true, true≢false}
use Rattle.std.proofs.lemmas.Bool.Decides.{Decides-int_eq, nat_tests}
use Rattle.prefix.specs.Literal.{Literal, negation, signed_number}
use Rattle.prefix.specs.Scopes.{is_among}
use Rattle.truth.specs.Matrix.{Values, same, is_true_of, literal_true, clause_true, matrix_true}
use Rattle.clauses.specs.Clause.{as_row, ascending, has_literal, is_tautology}
use Rattle.clauses.proofs.Ascending.{ascending_among}
use Rattle.calculus.proofs.Lists.{any_at, any_from, among_at, among_from, contains_head, contains_tail, contains_map_of, contains_map}
use Rattle.calculus.proofs.Merging.{beq_true}
use Rattle.qcir.specs.Translation.{rows_of, written}
use Rattle.qdimacs.proofs.Codes.{number_abs}
use Rattle.builder.proofs.Lists.{same_bools}

-- Literals and their numbers.

-- no literal is over the variable 0
abbrev pub ArePositive : List Literal → Type 0
ArePositive clause = (l : Literal) → Contains clause l → 1 ≤ l.variable

-- numbers are the same where variables and signs are
number_eq : (v w : ℕ) (a b : Bool) → 1 ≤ v → 1 ≤ w
    → int_eq (signed_number (record { variable = v; positive = a }))
    (signed_number (record { variable = w; positive = b }))
    ≡ (w == v && same b a)
number_eq v w true true p q = grind (arith, nat_tests, p, q)
number_eq v w true false p q = grind (arith, nat_tests, p, q)
number_eq v w false true p q = grind (arith, nat_tests, p, q)
number_eq v w false false p q = grind (arith, nat_tests, p, q)

same_number : (k l : Literal) → 1 ≤ k.variable → 1 ≤ l.variable → int_eq (signed_number k) (signed_number l) ≡ true
    → k ≡ l
same_number k l p q e =
    let parts =
    and_parts (l.variable == k.variable) (same l.positive k.positive)
    (sym (number_eq k.variable l.variable k.positive l.positive p q) ∙ e) in
    ap₂ (λ (v : ℕ) (b : Bool). record { variable = v; positive = b })
    (sym (eqb-true l.variable k.variable parts.0)) (sym (beq_true l.positive k.positive parts.1))

pub negative_number : (v : ℕ) (b : Bool) → 1 ≤ v
    → neg_ℤ (if b then pos v else negsuc (v - 1)) ≡ (if not b then pos v else negsuc (v - 1))
negative_number zero b low = absurd (omega (arith, low))
negative_number (suc n) true low = let e : n ≡ suc n - 1 = omega arith in ap negsuc e
negative_number (suc n) false low = let e : suc (suc n - 1) ≡ suc n = omega arith in ap pos e

negation_number : (l : Literal) → 1 ≤ l.variable → neg_ℤ (signed_number l) ≡ signed_number (negation l)
negation_number l low = negative_number l.variable l.positive low

-- Literals of a clause, by their numbers.

has_from : (clause : List Literal) (l : Literal) → Contains clause l
    → has_literal (signed_number l) (written clause) ≡ true
has_from clause l i =
    any_from (int_eq (signed_number l)) (written clause) (signed_number l) (contains_map_of signed_number clause l i)
    ((Decides-int_eq (signed_number l) (signed_number l)).1 refl)

has_at : (clause : List Literal) → ArePositive clause → (l : Literal) → 1 ≤ l.variable
    → has_literal (signed_number l) (written clause) ≡ true → Contains clause l
has_at clause all l low e =
    let r = any_at (int_eq (signed_number l)) (written clause) e in
    let m = contains_map signed_number clause r.0 r.1 in
    let is : l ≡ m.0 = same_number l m.0 low (all m.0 m.1) (ap (int_eq (signed_number l)) m.2 ∙ r.2) in
    subst (λ (k : Literal). Contains clause k) (sym is) m.1

tautology_from : (clause : List Literal) (l : Literal) → 1 ≤ l.variable → Contains clause l
    → Contains clause (negation l) → is_tautology (written clause) ≡ true
tautology_from clause l low i j =
    any_from (λ n. has_literal (neg_ℤ n) (written clause)) (written clause) (signed_number l)
    (contains_map_of signed_number clause l i)
    (ap (λ n. has_literal n (written clause)) (negation_number l low) ∙ has_from clause (negation l) j)

tautology_at : (clause : List Literal) → ArePositive clause → is_tautology (written clause) ≡ true
    → (l : Literal) × Contains clause l × Contains clause (negation l)
tautology_at clause all e =
    let r = any_at (λ n. has_literal (neg_ℤ n) (written clause)) (written clause) e in
    let m = contains_map signed_number clause r.0 r.1 in
    let number : signed_number (negation m.0) ≡ neg_ℤ r.0 =
    sym (negation_number m.0 (all m.0 m.1)) ∙ ap neg_ℤ m.2 in (
      m.0,
      m.1,
      has_at clause all (negation m.0) (all m.0 m.1) (ap (λ n. has_literal n (written clause)) number ∙ r.2),
    )

-- the variables of a clause, by its numbers
pub names_at : (clause : List Literal) → ArePositive clause → (v : ℕ)
    → is_among v (map nat_abs (written clause)) ≡ true
    → (l : Literal) × Contains clause l × (l.variable ≡ v)
names_at clause all v h =
    let n = contains_map nat_abs (written clause) v (among_at (map nat_abs (written clause)) v h) in
    let l = contains_map signed_number clause n.0 n.1 in
    (l.0, l.1, sym (number_abs l.0 (all l.0 l.1)) ∙ ap nat_abs l.2 ∙ n.2)

-- a variable itself
abbrev plus : ℕ → Literal
plus v = record { variable = v; positive = true }

-- the literal of a variable in the row of a clause
abbrev pub literal_in : List Literal → ℕ → Literal
literal_in clause v = record { variable = v; positive = has_literal (pos v) (written clause) }

-- the sign of a literal tells whether its variable stands there
module _ (clause : List Literal) (all : ArePositive clause) (no_taut : is_tautology (written clause) ≡ false) where
  sign_is : (l : Literal) → Contains clause l → l.positive ≡ has_literal (pos l.variable) (written clause)
  sign_is l i = by l.positive refl
    where
      by : (b : Bool) → l.positive ≡ b → l.positive ≡ has_literal (pos l.variable) (written clause)
      by true e =
          let is : l ≡ plus l.variable = ap (λ p. record { variable = l.variable; positive = p }) e in
          e ∙ sym (has_from clause (plus l.variable) (subst (λ (k : Literal). Contains clause k) is i))
      by false e =
          let is : l ≡ negation (plus l.variable) = ap (λ p. record { variable = l.variable; positive = p }) e in
          ⊎_elim
          (λ t. absurd (true≢false (sym (tautology_from clause (plus l.variable) (all l i)
          (has_at clause all (plus l.variable) (all l i) t)
          (subst (λ (k : Literal). Contains clause k) is i)) ∙ no_taut)))
          (λ f. e ∙ sym f)
          (cases_Bool (has_literal (pos l.variable) (written clause)))

  pub row_true : (τ : Values) → clause_true τ (as_row (written clause)) ≡ clause_true τ clause
  row_true τ = same_bools (clause_true τ (as_row (written clause))) (clause_true τ clause)
      (λ t.
      let names : List ℕ = map nat_abs (written clause) in
      let r = any_at (literal_true τ) (as_row (written clause)) t in
      let m = contains_map (literal_in clause) (ascending names) r.0 r.1 in
      let l =
      names_at clause all m.0 (sym (ascending_among m.0 names) ∙ among_from (ascending names) m.0 m.1) in
      let is : l.0 ≡ r.0 =
      ap₂ (λ (v : ℕ) (b : Bool). record { variable = v; positive = b }) l.2
      (sign_is l.0 l.1 ∙ ap (λ v. has_literal (pos v) (written clause)) l.2) ∙ m.2 in
      any_from (literal_true τ) clause l.0 l.1 (ap (literal_true τ) is ∙ r.2))
      (λ t.
      let names : List ℕ = map nat_abs (written clause) in
      let r = any_at (literal_true τ) clause t in
      let v = r.0.variable in
      let in_names : Contains names v =
      subst (λ u. Contains names u) (number_abs r.0 (all r.0 r.1))
      (contains_map_of nat_abs (written clause) (signed_number r.0)
      (contains_map_of signed_number clause r.0 r.1)) in
      let there : Contains (ascending names) v =
      among_at (ascending names) v (ascending_among v names ∙ among_from names v in_names) in
      let is : literal_in clause v ≡ r.0 = ap (λ b. record { variable = v; positive = b }) (sym (sign_is r.0 r.1)) in
      any_from (literal_true τ) (as_row (written clause)) (literal_in clause v)
      (contains_map_of (literal_in clause) (ascending names) v there) (ap (literal_true τ) is ∙ r.2))

-- Tautologies.

-- a literal or its negation is true where its variable has a value
one_true : (o : Option Bool) (p b : Bool) → o ≡ Some b → (is_true_of o p ≡ true) ⊎ (is_true_of o (not p) ≡ true)
one_true None p b e = cc
one_true (Some true) true b e = inl refl
one_true (Some true) false b e = inr refl
one_true (Some false) true b e = inr refl
one_true (Some false) false b e = inl refl

-- each variable of the clause has a value
abbrev pub IsCovered : Values → List Literal → Type 0
IsCovered τ clause = (l : Literal) → Contains clause l → (b : Bool) × (τ l.variable ≡ Some b)

tautology_true : (τ : Values) (clause : List Literal) → ArePositive clause → IsCovered τ clause
    → is_tautology (written clause) ≡ true → clause_true τ clause ≡ true
tautology_true τ clause all covered t =
    let r = tautology_at clause all t in
    let v = covered r.0 r.1 in
    ⊎_elim (λ e. any_from (literal_true τ) clause r.0 r.1 e)
    (λ e. any_from (literal_true τ) clause (negation r.0) r.2 e)
    (one_true (τ r.0.variable) r.0.positive v.0 v.1)

pub rows_true : (τ : Values) (clauses : List (List Literal))
    → ((c : List Literal) → Contains clauses c → ArePositive c)
    → ((c : List Literal) → Contains clauses c → IsCovered τ c)
    → matrix_true τ (rows_of clauses) ≡ matrix_true τ clauses
rows_true τ [] all covered = refl
rows_true τ (c ∷ cs) all covered =
    let kept : List (List ℤ) = filter (λ d. not (is_tautology d)) (map written cs) in
    let later =
    rows_true τ cs (λ d i. all d (contains_tail c cs d i)) (λ d i. covered d (contains_tail c cs d i)) in
    ⊎_elim
    (λ t.
    ap (λ b. matrix_true τ (map as_row (cond (not b) (written c ∷ kept) kept))) t ∙ later
    ∙ sym (ap (λ b. b && matrix_true τ cs)
    (tautology_true τ c (all c (contains_head c cs)) (covered c (contains_head c cs)) t)))
    (λ f.
    ap (λ b. matrix_true τ (map as_row (cond (not b) (written c ∷ kept) kept))) f
    ∙ ap₂ (λ a b. a && b) (row_true c (all c (contains_head c cs)) f τ) later)
    (cases_Bool (is_tautology (written c)))
