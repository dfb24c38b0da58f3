-- Recursions over bound variables with any matrix.
use Rattle.std.proofs.Common.{◌≡◌, ℕ, Bool, true, false, ◌||◌, List, [], ◌∷◌, ◌++◌, Some, ◌⊎◌, inl, inr, ⊎_elim, refl, sym, ap, ap₂, ◌∙◌, nat_eq}
use mathlib.Core.Path.{fun_ext}
use Rattle.std.proofs.lemmas.Bool.{cases_Bool, cases_eq, cond-true, cond-false, eqb-true, eqb-false, eq-eqb, ne_eqb, or_cases, or_from, or_left, or_parts, or_right}
use Rattle.prefix.specs.declared.quant.Quant.TheVariants.{Exists}
use Rattle.prefix.specs.Literal.{Literal}
use Rattle.prefix.specs.Scopes.{BoundVariable, variables_of, is_among}
use Rattle.truth.specs.Matrix.{Values, with_value, matrix_true}
use Rattle.truth.specs.Truth.{joined, truth_from}
use Rattle.qcir.specs.declared.circuit.Gate.{Gate}
use Rattle.qcir.specs.Truth.{circuit_truth_from, output_true}

-- the recursion with a matrix
pub over : List BoundVariable → (Values → Bool) → Values → Bool
over [] leaf σ = leaf σ
over (x ∷ xs) leaf σ =
    joined x.quantifier (over xs leaf (with_value x.variable false σ)) (over xs leaf (with_value x.variable true σ))

pub truth_over : (xs : List BoundVariable) (cs : List (List Literal)) (σ : Values)
    → truth_from xs cs σ ≡ over xs (λ τ. matrix_true τ cs) σ
unfolding over
truth_over [] cs σ = refl
truth_over (x ∷ xs) cs σ =
    ap₂ (joined x.quantifier) (truth_over xs cs (with_value x.variable false σ))
    (truth_over xs cs (with_value x.variable true σ))

pub circuit_over : (xs : List BoundVariable) (gates : List Gate) (output : Literal) (σ : Values)
    → circuit_truth_from xs gates output σ ≡ over xs (output_true gates output) σ
unfolding over
circuit_over [] gates output σ = refl
circuit_over (x ∷ xs) gates output σ =
    ap₂ (joined x.quantifier) (circuit_over xs gates output (with_value x.variable false σ))
    (circuit_over xs gates output (with_value x.variable true σ))

pub over_append : (xs ys : List BoundVariable) (leaf : Values → Bool) (σ : Values)
    → over (xs ++ ys) leaf σ ≡ over xs (over ys leaf) σ
unfolding over
over_append [] ys leaf σ = refl
over_append (x ∷ xs) ys leaf σ =
    ap₂ (joined x.quantifier) (over_append xs ys leaf (with_value x.variable false σ))
    (over_append xs ys leaf (with_value x.variable true σ))

-- values of these variables are there
abbrev pub Covers : List ℕ → Values → Type 0
Covers vs σ = (v : ℕ) → is_among v vs ≡ true → (b : Bool) × (σ v ≡ Some b)

pub value_here : (v w : ℕ) (b : Bool) (σ : Values) → v ≡ w → with_value v b σ w ≡ Some b
value_here v w b σ e = cond-true (nat_eq w v) (Some b) (σ w) (eq-eqb w v (sym e))

pub value_there : (v w : ℕ) (b : Bool) (σ : Values) → (v ≡ w → ⊥) → with_value v b σ w ≡ σ w
value_there v w b σ ne = cond-false (nat_eq w v) (Some b) (σ w) (ne_eqb w v (λ e. ne (sym e)))

covers_more : (v : ℕ) (vs : List ℕ) (b : Bool) (σ : Values) → Covers vs σ → Covers (v ∷ vs) (with_value v b σ)
covers_more v vs b σ h w i =
    ⊎_elim (λ e. (b, value_here v w b σ e))
    (λ ne.
    let r =
    h w (⊎_elim (λ t. absurd (ne (eqb-true v w t))) (λ j. j) (or_cases (nat_eq v w) (is_among w vs) i)) in
    (r.0, value_there v w b σ ne ∙ r.1))
    (cases_eq v w)

-- the variables of the recursion and those before it have values
abbrev pub AllThere : List BoundVariable → List ℕ → Values → Type 0
AllThere xs done τ =
    (v : ℕ) → (is_among v (variables_of xs) ≡ true) ⊎ (is_among v done ≡ true) → (b : Bool) × (τ v ≡ Some b)

-- matrices that agree where all variables have values
pub over_same : (xs : List BoundVariable) (done : List ℕ) (leaf other : Values → Bool)
    → ((τ : Values) → AllThere xs done τ → leaf τ ≡ other τ)
    → (σ : Values) → Covers done σ → over xs leaf σ ≡ over xs other σ
unfolding over
over_same [] done leaf other same σ h =
    same σ (λ v i. ⊎_elim (λ e. absurd (let g : false ≡ true = e in cc)) (λ e. h v e) i)
over_same (x ∷ xs) done leaf other same σ h =
    let deeper : (τ : Values) → AllThere xs (x.variable ∷ done) τ → leaf τ ≡ other τ =
    λ τ all. same τ (λ v i.
    ⊎_elim
    (λ e. ⊎_elim
    (λ t. all v (inr (or_left (nat_eq x.variable v) (is_among v done) t)))
    (λ t. all v (inl t))
    (or_cases (nat_eq x.variable v) (is_among v (variables_of xs)) e))
    (λ e. all v (inr (or_right (nat_eq x.variable v) (is_among v done) e)))
    i) in
    ap₂ (joined x.quantifier)
    (over_same xs (x.variable ∷ done) leaf other deeper (with_value x.variable false σ)
    (covers_more x.variable done false σ h))
    (over_same xs (x.variable ∷ done) leaf other deeper (with_value x.variable true σ)
    (covers_more x.variable done true σ h))

-- existential variables
abbrev pub AreExistential : List BoundVariable → Type 0
AreExistential [] = Unit {0}
AreExistential (x ∷ xs) = (x.quantifier ≡ Exists) × AreExistential xs

-- values that differ on these variables alone, and are there
pub record Extends (xs : List BoundVariable) (σ τ : Values) : Type 0 where
  pub off : (v : ℕ) → is_among v (variables_of xs) ≡ false → τ v ≡ σ v
  pub on : (v : ℕ) → is_among v (variables_of xs) ≡ true → (b : Bool) × (τ v ≡ Some b)

extends_more : (x : BoundVariable) (xs : List BoundVariable) (b : Bool) (σ τ : Values)
    → Extends xs (with_value x.variable b σ) τ → Extends (x ∷ xs) σ τ
extends_more x xs b σ τ h = record {
  off = λ v f.
      let parts = or_parts (nat_eq x.variable v) (is_among v (variables_of xs)) f in
      h.off v parts.1 ∙ value_there x.variable v b σ (eqb-false x.variable v parts.0);
  on = λ v t.
      ⊎_elim (λ e. h.on v e)
      (λ f.
      let here : x.variable ≡ v =
      ⊎_elim (λ u. eqb-true x.variable v u)
      (λ u. absurd (let g : true ≡ false = sym u ∙ f in cc))
      (or_cases (nat_eq x.variable v) (is_among v (variables_of xs)) t) in
      (b, h.off v f ∙ value_here x.variable v b σ here))
      (cases_Bool (is_among v (variables_of xs)));
}

-- a true block has values that make its matrix true
pub block_gives : (xs : List BoundVariable) (leaf : Values → Bool) (σ : Values) → AreExistential xs
    → over xs leaf σ ≡ true → (τ : Values) × Extends xs σ τ × (leaf τ ≡ true)
unfolding over
block_gives [] leaf σ ex t =
    (σ, record { off = λ v f. refl; on = λ v e. absurd (let g : false ≡ true = e in cc) }, t)
block_gives (x ∷ xs) leaf σ ex t =
    let at_false = with_value x.variable false σ in
    let at_true = with_value x.variable true σ in
    let either : (over xs leaf at_false || over xs leaf at_true) ≡ true =
    sym (ap (λ q. joined q (over xs leaf at_false) (over xs leaf at_true)) ex.0) ∙ t in
    ⊎_elim
    (λ e. let r = block_gives xs leaf at_false ex.1 e in (r.0, extends_more x xs false σ r.0 r.1, r.2))
    (λ e. let r = block_gives xs leaf at_true ex.1 e in (r.0, extends_more x xs true σ r.0 r.1, r.2))
    (or_cases (over xs leaf at_false) (over xs leaf at_true) either)

extends_less : (x : BoundVariable) (xs : List BoundVariable) (b : Bool) (σ τ : Values) → Extends (x ∷ xs) σ τ
    → τ x.variable ≡ Some b → Extends xs (with_value x.variable b σ) τ
extends_less x xs b σ τ h e = record {
  off = λ v f.
      ⊎_elim (λ same. ap τ (sym same) ∙ e ∙ sym (value_here x.variable v b σ same))
      (λ ne.
      h.off v (or_from (nat_eq x.variable v) (is_among v (variables_of xs)) (ne_eqb x.variable v ne) f)
      ∙ sym (value_there x.variable v b σ ne))
      (cases_eq x.variable v);
  on = λ v t. h.on v (or_right (nat_eq x.variable v) (is_among v (variables_of xs)) t);
}

either_true : (b : Bool) (f : Bool → Bool) → f b ≡ true → (f false || f true) ≡ true
either_true true f e = or_right (f false) (f true) e
either_true false f e = or_left (f false) (f true) e

-- and such values make it true
pub block_from : (xs : List BoundVariable) (leaf : Values → Bool) (σ τ : Values) → AreExistential xs → Extends xs σ τ
    → leaf τ ≡ true → over xs leaf σ ≡ true
unfolding over
block_from [] leaf σ τ ex h t = let same : σ ≡ τ = fun_ext (λ v. sym (h.off v refl)) in ap leaf same ∙ t
block_from (x ∷ xs) leaf σ τ ex h t =
    let r =
    h.on x.variable
    (or_left (nat_eq x.variable x.variable) (is_among x.variable (variables_of xs))
    (eq-eqb x.variable x.variable refl)) in
    ap (λ q. joined q (over xs leaf (with_value x.variable false σ)) (over xs leaf (with_value x.variable true σ))) ex.0
    ∙ either_true r.0 (λ b. over xs leaf (with_value x.variable b σ))
    (block_from xs leaf (with_value x.variable r.0 σ) τ ex.1 (extends_less x xs r.0 σ τ h r.1) t)
