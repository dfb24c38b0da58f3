-- What is remembered of signs.
use Rattle.std.proofs.Common.{◌≡◌, ℕ, zero, suc, ◌+◌, List, [], ◌∷◌, ◌++◌, drop, get_or, replicate, Some, None, refl, ap, ◌∙◌, arith}
use Rattle.std.specs.Prelude.{slice_get}
use Rattle.prefix.specs.Literal.{Literal}
use Rattle.decide.specs.Memory.{Memory, phase_of, saved, with_phase}

-- variables without a sign at the end change nothing
more_none : (memory : Memory) (k i : ℕ) → get_or (memory ++ replicate k None) i None ≡ get_or memory i None
more_none [] zero i = refl
more_none [] (suc k) zero = refl
more_none [] (suc k) (suc i) = more_none [] k i
more_none (p ∷ memory) k zero = refl
more_none (p ∷ memory) k (suc i) = more_none memory k i

pub phases_longer : (memory : Memory) (k x : ℕ) → phase_of (memory ++ replicate k None) x ≡ phase_of memory x
phases_longer memory k zero = refl
phases_longer memory k (suc i) = more_none memory k i

-- the literals that are left to save
drop_at : (ls : List Literal) (n : ℕ) (l : Literal) → slice_get ls n ≡ Some l → drop n ls ≡ l ∷ drop (suc n) ls
drop_at [] n l at = absurd (let h : None ≡ Some l = at in cc)
drop_at (m ∷ ls) zero l at = let same : m ≡ l = cc in ap (λ k. k ∷ ls) same
drop_at (m ∷ ls) (suc n) l at = drop_at ls n l at

pub saved_next : (literals : List Literal) (k : ℕ) (l : Literal) (memory : Memory) → slice_get literals k ≡ Some l
    → saved (drop k literals) memory ≡ saved (drop (k + 1) literals) (with_phase memory l)
saved_next literals k l memory at =
    let next : suc k ≡ k + 1 = omega arith in
    ap (λ ls. saved ls memory) (drop_at literals k l at) ∙ ap (λ n. saved (drop n literals) (with_phase memory l)) next
