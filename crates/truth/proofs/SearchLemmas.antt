-- The values tried, one more and one less.
use Rattle.std.proofs.Common.{◌≡◌, ℕ, zero, suc, ◌<◌, Bool, true, false, cond, List, [], ◌∷◌, ◌++◌, length, take, get_or, set, Option, Some, None, refl, sym, ap, ◌∙◌, ⊎_elim, arith}
use Rattle.std.specs.Prelude.{◌==◌, ◌||◌}
use Rattle.std.specs.List.{AllByRecursion}
use Rattle.std.proofs.lemmas.Bool.{cond-true, cond-false, eq-eqb, ne_eqb, cases_eq, or_parts, eqb-true, eqb-false}
use Rattle.std.proofs.lemmas.List.{get_or-set_same, get_or-set_other, length-set, length-map, length_push, take-map, get_or-map}
use Rattle.prefix.specs.Scopes.{is_among, AreDistinct, BoundVariable, variables_of}
use Rattle.truth.specs.Matrix.{Values, no_values, with_value}
use Rattle.truth.specs.Search.{assigned, values_of, IsSearch}

-- one value more
pub assigned-push : (xs : List BoundVariable) (ts : List Bool) (t : Bool) (d : BoundVariable) (σ : Values)
    → length ts < length xs → assigned xs (ts ++ t ∷ []) σ ≡ with_value (get_or xs (length ts) d).variable t
    (assigned xs ts σ)
assigned-push [] ts t d σ h = absurd (omega arith)
assigned-push (x ∷ xs) [] t d σ h = assigned_none xs (with_value x.variable t σ)
  where
    assigned_none : (ys : List BoundVariable) (τ : Values) → assigned ys [] τ ≡ τ
    assigned_none ys τ = refl
assigned-push (x ∷ xs) (s ∷ ts) t d σ h = assigned-push xs ts t d (with_value x.variable s σ) (omega arith)

-- a variable that isn't among the first has its value from before
assigned_other : (xs : List BoundVariable) (ts : List Bool) (v : ℕ) (σ : Values)
    → is_among v (variables_of (take (length ts) xs)) ≡ false → assigned xs ts σ v ≡ σ v
assigned_other xs [] v σ h = refl
assigned_other [] (t ∷ ts) v σ h = refl
assigned_other (x ∷ xs) (t ∷ ts) v σ h =
    let parts = or_parts _ _ h in
    assigned_other xs ts v (with_value x.variable t σ) parts.1 ∙ cond-false (v == x.variable) (Some t) (σ v)
    (ne_eqb v x.variable (λ e. eqb-false x.variable v parts.0 (sym e)))

-- in a list without repeats an element isn't among those before it
distinct_before : (xs : List ℕ) (n : ℕ) → n < length xs → AreDistinct xs → is_among (get_or xs n 0) (take n xs) ≡ false
distinct_before [] n h a = absurd (omega arith)
distinct_before (x ∷ xs) zero h a = refl
distinct_before (x ∷ xs) (suc n) h a = apart (has_at xs x n (omega arith) a.0) (distinct_before xs n (omega arith) a.1)
  where
    has_at : (ys : List ℕ) (y m : ℕ) → m < length ys → is_among y ys ≡ false → (y ≡ get_or ys m 0) → ⊥
    has_at [] y m l e = absurd (omega arith)
    has_at (z ∷ ys) y zero l e = λ f. eqb-false z y (or_parts _ _ e).0 (sym f)
    has_at (z ∷ ys) y (suc m) l e = has_at ys y m (omega arith) (or_parts _ _ e).1

    apart : ((x ≡ get_or xs n 0) → ⊥) → is_among (get_or xs n 0) (take n xs) ≡ false
        → (x == get_or xs n 0 || is_among (get_or xs n 0) (take n xs)) ≡ false
    apart f e = rw (ne_eqb x (get_or xs n 0) f) e

-- the table with one value written
values_of-set : (table : List (Option Bool)) (v : ℕ) (o : Option Bool) (w : ℕ) → v < length table
    → values_of (set table v o) w ≡ cond (w == v) o (values_of table w)
values_of-set table v o w h = ⊎_elim same other (cases_eq w v)
  where
    same : w ≡ v → values_of (set table v o) w ≡ cond (w == v) o (values_of table w)
    same e = rw e (get_or-set_same table v o None h ∙ sym (cond-true (v == v) o (values_of table v) (eq-eqb v v refl)))

    other : (w ≡ v → ⊥) → values_of (set table v o) w ≡ cond (w == v) o (values_of table w)
    other n = get_or-set_other table v w o None n ∙ sym (cond-false (w == v) o (values_of table w) (ne_eqb w v n))

pub covers_at : (P : BoundVariable → Type 0) (xs : List BoundVariable) (n : ℕ) (d : BoundVariable) → n < length xs
    → AllByRecursion P xs → P (get_or xs n d)
covers_at P [] n d h a = absurd (omega arith)
covers_at P (x ∷ xs) zero d h a = a.0
covers_at P (x ∷ xs) (suc n) d h a = covers_at P xs n d (omega arith) a.1

forgotten : (b : Bool) (o p : Option Bool) (t : Bool) → (b ≡ true → p ≡ None) → o ≡ cond b (Some t) p
    → cond b None o ≡ p
forgotten true o p t h e = sym (h refl)
forgotten false o p t h e = e

module _ (xs : List BoundVariable) (ts : List Bool) (table : List (Option Bool)) (d : BoundVariable)
    (within : length ts < length xs) where
  pub search_chosen : IsSearch xs ts table → (t : Bool) → IsSearch xs (ts ++ t ∷ [])
      (set table (get_or xs (length ts) d).variable (Some t))
  search_chosen s t =
      record {
        depth = rw length_push (omega arith);
        table_is = λ w. values_of-set table _ (Some t) w
            (covers_at (λ (x : BoundVariable). x.variable < length table) xs (length ts) d within s.covers)
            ∙ ap (λ o. cond (w == (get_or xs (length ts) d).variable) (Some t) o) (s.table_is w)
            ∙ ap (λ (σ : Values). σ w) (sym (assigned-push xs ts t d no_values within));
        covers = rw length-set s.covers;
        distinct = s.distinct;
      }

  pub search_taken_back : (t : Bool) → IsSearch xs (ts ++ t ∷ []) table
      → IsSearch xs ts (set table (get_or xs (length ts) d).variable None)
  search_taken_back t s =
      record {
        depth = omega arith;
        table_is = λ w. values_of-set table _ None w (covers_at (λ (x : BoundVariable). x.variable < length table) xs
            (length ts) d within s.covers)
            ∙ without w t (s.table_is w ∙ ap (λ (σ : Values). σ w) (assigned-push xs ts t d no_values within));
        covers = rw length-set s.covers;
        distinct = s.distinct;
      }
    where
      v : ℕ
      v = (get_or xs (length ts) d).variable

      fresh : is_among v (variables_of (take (length ts) xs)) ≡ false
      fresh = rw (
        ← take-map (λ (x : BoundVariable). x.variable) (length ts) xs,
        ← get_or-map
            (λ (x : BoundVariable). x.variable) xs (length ts) d 0 within,
      )
          (distinct_before (variables_of xs) (length ts) (rw length-map within) s.distinct)

      without : (w : ℕ) (u : Bool) → values_of table w ≡ cond (w == v) (Some u) (assigned xs ts no_values w)
          → cond (w == v) None (values_of table w) ≡ assigned xs ts no_values w
      without w u e = forgotten (w == v) (values_of table w) (assigned xs ts no_values w) u
          (λ b. rw (eqb-true w v b) (assigned_other xs ts v no_values fresh)) e
