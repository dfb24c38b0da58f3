-- Worked values of scopes.
use Rattle.std.proofs.Common.{◌≡◌, ℕ, zero, suc, ◌≤◌, ◌||◌, ⊎_elim, true, false, List, [], ◌∷◌, ◌++◌, length, get_or, take, None, refl, ap, subst, arith, nat_eq}
use Rattle.std.proofs.lemmas.Bool.{eqb-true, or_cases, true≢false}
use Rattle.prefix.specs.declared.quant.Quant.TheVariants.{Forall}
use Rattle.prefix.specs.Scopes.{Scope, level_of, variables_at}
use Rattle.builder.specs.NewScope.{AreNew, IsBegun, scope_of}
use Rattle.builder.specs.Worked.{begun, scopes}

abbrev MayStand : ℕ → Type 0
MayStand v = (1 ≤ v) × (v ≤ 1048576) × (level_of scopes v ≡ None)

pub new_ones : AreNew scopes (6 ∷ 3 ∷ [])
new_ones = record {
  distinct = (refl, (refl, tt));
  each = λ v t.
      ⊎_elim (λ e. subst MayStand (eqb-true 6 v e) (omega arith, omega arith, refl))
      (λ e. ⊎_elim (λ f. subst MayStand (eqb-true 3 v f) (omega arith, omega arith, refl))
      (λ f. absurd (let g : false ≡ true = f in cc)) (or_cases (nat_eq 3 v) false e))
      (or_cases (nat_eq 6 v) (nat_eq 3 v || false) t);
}

pub repeated_one : AreNew scopes (6 ∷ 6 ∷ []) → ⊥
repeated_one new = true≢false new.distinct.0

pub taken_one : AreNew scopes (6 ∷ 2 ∷ []) → ⊥
taken_one new = absurd (let e : level_of scopes 2 ≡ None = (new.each 2 refl).2 in cc)

pub no_one : AreNew scopes (6 ∷ 0 ∷ []) → ⊥
no_one new = let low : 1 ≤ 0 = (new.each 0 refl).0 in omega (arith, low)

not_front : (n : ℕ) → n ≤ 2 → begun ≡ scopes ++ scope_of Forall (take n (3 ∷ 6 ∷ [])) ∷ [] → ⊥
not_front zero le e =
    let f : 6 ≡ 0 = ap (λ (ss : List Scope). get_or (variables_at ss 3) 0 0) e in omega (arith, f)
not_front (suc zero) le e =
    let f : 6 ≡ 3 = ap (λ (ss : List Scope). get_or (variables_at ss 3) 0 0) e in omega (arith, f)
not_front (suc (suc zero)) le e =
    let f : 6 ≡ 3 = ap (λ (ss : List Scope). get_or (variables_at ss 3) 0 0) e in omega (arith, f)
not_front (suc (suc (suc n))) le e = omega (arith, le)

pub other_front : IsBegun Forall (3 ∷ 6 ∷ []) scopes begun → ⊥
other_front b =
    ⊎_elim (λ e. let f : 3 ≡ 2 = ap (λ (ss : List Scope). length ss) e in omega (arith, f))
    (λ w. not_front w.0 w.1 w.2) b
