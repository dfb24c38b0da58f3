-- Worked values: faults that are counted, beside the status of a fault and that of an answer.
use Rattle.std.proofs.Common.{◌≡◌, ◌≤◌, ℕ, arith, refl}
use Rattle.ports.specs.Causes.{IsCounted}
use Rattle.solve.specs.declared.answer.Answer.TheVariants.{Sat}
use Rattle.files.specs.Solve.{HasAnswer}
use Rattle.program.proofs.Statuses.{no_answer}

-- an answer without a fault, and a fault that is counted
pub answered : IsCounted (◌≡◌ {A = ℕ} 10 3) (HasAnswer 10) 2 2
answered = record { later = omega arith; rose = λ e. absurd (omega (arith, e)); kept = λ _. refl }

pub failed : IsCounted (◌≡◌ {A = ℕ} 3 3) (HasAnswer 3) 2 3
failed = record {
  later = omega arith;
  rose = λ _. (let up : 3 ≤ 3 = omega arith in up);
  kept = λ has. no_answer 3 refl has;
}

-- no status of a fault without one, no answer with one, and no count that falls
pub not_counted : IsCounted (◌≡◌ {A = ℕ} 3 3) (HasAnswer 3) 2 2 → ⊥
not_counted h = let no : 3 ≤ 2 = h.rose refl in omega (arith, no)

pub answered_with_fault : IsCounted (◌≡◌ {A = ℕ} 10 3) (HasAnswer 10) 2 3 → ⊥
answered_with_fault h = let no : 3 ≡ 2 = h.kept (Sat, refl) in omega (arith, no)

pub fallen : IsCounted (◌≡◌ {A = ℕ} 5 3) (HasAnswer 5) 2 1 → ⊥
fallen h = let no : 2 ≤ 1 = h.later in omega (arith, no)
