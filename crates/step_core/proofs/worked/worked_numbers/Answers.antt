use Rattle.std.proofs.Common.{◌≡◌, ℕ, ◌<◌, ◌≤◌, ◌⊎◌, ⊎_elim, [], ◌∷◌, refl, arith, subst}
use Rattle.step_core.specs.declared.listing.CoreStep.TheVariants.{Input}
use Rattle.step_core.specs.Cores.{IsUsedLater, RestsOnNumber, step_numbered}
use Rattle.step_core.specs.Worked.{twice}
use Rattle.step_core.proofs.worked.worked_numbers.Goals as goal

three_or_four : (n : ℕ) → 2 < n → n ≤ 4 → (n ≡ 3) ⊎ (n ≡ 4)
three_or_four n low high = grind arith

only_one : (n : ℕ) → 1 ≤ n → n ≤ 1 → n ≡ 1
only_one n low high = omega arith

unused : IsUsedLater twice 2 → ⊥
unused u =
    ⊎_elim
    (λ e. subst (λ n. RestsOnNumber (step_numbered twice n) 2) e u.rests)
    (λ e. ⊎_elim (λ (f : 1 ≡ 2). absurd (omega arith)) (λ (f : 3 ≡ 2). absurd (omega arith))
    (subst (λ n. RestsOnNumber (step_numbered twice n) 2) e u.rests))
    (three_or_four u.by u.later u.within)

pub returns : goal.returns
returns c = record {
  one_is_enough = record {
    earlier = λ i k low high rests. absurd (subst
        (λ n. RestsOnNumber (step_numbered (record { lits = []; step = Input } ∷ []) n) k) (only_one i low high) rests);
    used = λ k low high. absurd (let f : ⊥ = omega arith in f);
  };
  second_unused = λ h. unused (h.used 2 (omega arith) (omega arith));
  no_circle = λ h. let e = (h.earlier 1 1 (omega arith) (omega arith) refl).1 in absurd (omega arith);
}
