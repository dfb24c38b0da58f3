-- The free variables, found from marks.
use Rattle.std.proofs.Common.{◌≡◌, ℕ, ◌+◌, Bool, true, false, ◌&&◌, ◌||◌, List, [], ◌∷◌, ◌++◌, refl, sym, ap, ◌∙◌, ⊎_elim, arith}
use Rattle.std.specs.Prelude.{nat_lt}
use Rattle.std.proofs.lemmas.Bool.{eq-eqb, ne_eqb, cases_eq}
use Rattle.std.proofs.lemmas.Bool.Decides.{nat_tests}
use Rattle.prefix.specs.Scopes.{is_among}
use Rattle.qdimacs.proofs.Keeping.{among_more}

-- below one more number
below_more : (u v : ℕ) → (u ≡ v → ⊥) → nat_lt u (v + 1) ≡ nat_lt u v
below_more u v n = grind (arith, nat_tests, n)

below_self : (v : ℕ) → nat_lt v (v + 1) ≡ true
below_self v = grind (arith, nat_tests)

pub below_not : (v : ℕ) → nat_lt v v ≡ false
below_not v = grind (arith, nat_tests)

-- a free number is put
pub free_put : (free : List ℕ) (v : ℕ) (is : ℕ → Bool) → ((u : ℕ) → is_among u free ≡ (nat_lt u v && is u))
    → is v ≡ true → (u : ℕ) → is_among u (free ++ v ∷ []) ≡ (nat_lt u (v + 1) && is u)
free_put free v is all yes_free u = ⊎_elim same other (cases_eq u v)
  where
    same : u ≡ v → is_among u (free ++ v ∷ []) ≡ (nat_lt u (v + 1) && is u)
    same e = rw e (among_more v free v ∙ ap (λ b. b || is_among v free) (eq-eqb v v refl)
        ∙ sym (ap (λ b. b && is v) (below_self v) ∙ yes_free))

    other : (u ≡ v → ⊥) → is_among u (free ++ v ∷ []) ≡ (nat_lt u (v + 1) && is u)
    other n = among_more v free u ∙ ap (λ b. b || is_among u free) (ne_eqb v u (λ e. n (sym e))) ∙ all u
        ∙ ap (λ b. b && is u) (sym (below_more u v n))

-- another is left
pub free_left : (free : List ℕ) (v : ℕ) (is : ℕ → Bool) → ((u : ℕ) → is_among u free ≡ (nat_lt u v && is u))
    → is v ≡ false → (u : ℕ) → is_among u free ≡ (nat_lt u (v + 1) && is u)
free_left free v is all no_free u = ⊎_elim same other (cases_eq u v)
  where
    same : u ≡ v → is_among u free ≡ (nat_lt u (v + 1) && is u)
    same e = rw e (all v ∙ ap (λ b. b && is v) (below_not v) ∙ sym (ap (λ b. b && is v) (below_self v) ∙ no_free))

    other : (u ≡ v → ⊥) → is_among u free ≡ (nat_lt u (v + 1) && is u)
    other n = all u ∙ ap (λ b. b && is u) (sym (below_more u v n))
