use Rattle.std.proofs.Common.{◌≡◌, ◌<◌, ℕ, Bool, false, [], ◌∷◌, Contains, Some, None, is_some, refl, subst, ⊎_elim, arith}
use Rattle.std.specs.Prelude.{IsTrue}
use Rattle.std.proofs.lemmas.Bool.{false≢true}
use Rattle.calculus.specs.Rows.{depth_of}
use Rattle.calculus.specs.Search.{Trail, value_on}
use Rattle.calculus.proofs.Lists.{contains_cons, contains_nil}
use Rattle.decide.specs.Worked.{both, first, two_scopes}
use Rattle.decide.proofs.worked.worked_decisions.Goals as goal

-- the variables of the prefix
each : (P : ℕ → Type 0) → P 1 → P 2 → P 3 → (x : ℕ) → Contains {X = ℕ} (1 ∷ 2 ∷ 3 ∷ []) x → P x
each P a b c x i =
    ⊎_elim (λ e. subst P e a)
    (λ j. ⊎_elim (λ e. subst P e b)
    (λ k. ⊎_elim (λ e. subst P e c) (λ n. absurd (contains_nil x n)) (contains_cons 3 [] x k))
    (contains_cons 2 (3 ∷ []) x j))
    (contains_cons 1 (2 ∷ 3 ∷ []) x i)

-- those of earlier scopes are assigned
abbrev IsAssignedBefore : Trail → ℕ → ℕ → Type 0
IsAssignedBefore trail x y = depth_of two_scopes y < depth_of two_scopes x → IsTrue (is_some (value_on trail y))

none_before : (y : ℕ) → Contains {X = ℕ} (1 ∷ 2 ∷ 3 ∷ []) y → IsAssignedBefore first 2 y
none_before =
    each (IsAssignedBefore first 2) (λ h. refl) (λ h. absurd (let f : 1 < 1 = h in omega (arith, f)))
    (λ h. absurd (let f : 2 < 1 = h in omega (arith, f)))

both_before : (y : ℕ) → Contains {X = ℕ} (1 ∷ 2 ∷ 3 ∷ []) y → IsAssignedBefore both 3 y
both_before =
    each (IsAssignedBefore both 3) (λ h. refl) (λ h. refl) (λ h. absurd (let f : 2 < 2 = h in omega (arith, f)))

not_there : Contains {X = ℕ} (1 ∷ 2 ∷ 3 ∷ []) 4 → ⊥
not_there i =
    let differs : 4 ≡ 4 → ⊥ = each (λ x. x ≡ 4 → ⊥) (λ e. omega (arith, e)) (λ e. omega (arith, e))
    (λ e. omega (arith, e)) 4 i in
    differs refl

one_there : Contains {X = ℕ} (1 ∷ 2 ∷ 3 ∷ []) 2
one_there = (1, omega arith, refl)

not_none : (b : Bool) → Some b ≡ None → ⊥
not_none b e = cc

pub returns : goal.returns
returns c = record {
  decision = record { known = one_there; unassigned = refl; order = none_before };
  assigned = λ d. not_none false d.unassigned;
  later = λ d. false≢true (d.order 2 one_there (let h : 1 < 2 = omega arith in h));
  unknown = λ d. not_there d.known;
  then_later = record { known = (2, omega arith, refl); unassigned = refl; order = both_before };
  open_there = record { known = one_there; unassigned = refl; depth = refl };
  other_scope = λ o. let e : 1 ≡ 2 = o.depth in omega (arith, e);
  not_open = λ o. not_none false o.unassigned;
  no_variable = λ o. not_there o.known;
}
