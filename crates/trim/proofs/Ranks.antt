-- How many gates before a place are marked.
use Rattle.std.proofs.Common.{◌≡◌, ℕ, zero, suc, ◌+◌, ◌<◌, ◌≤◌, ◌⊎◌, ⊎_elim, Bool, true, false, cond, List, [], ◌∷◌, length, refl, sym, ap, ap₂, ◌∙◌, arith}
use Rattle.std.proofs.lemmas.Bool.{cases_lt, cases_order, cond-true, cond-false, false≢true}
use Rattle.std.proofs.lemmas.List.{get_or_past}
use Rattle.trim.specs.Marks.{is_marked, rank}

pub marked_within : (marks : List Bool) (j : ℕ) → is_marked marks j ≡ true → j < length marks
marked_within marks j m =
    ⊎_elim (λ (h : j < length marks). h)
    (λ (h : length marks ≤ j). absurd (false≢true (sym (get_or_past marks j false h) ∙ m)))
    (cases_lt j (length marks))

pub rank_start : (marks : List Bool) → rank marks 0 ≡ 0
rank_start [] = refl
rank_start (b ∷ marks) = refl

rank_next : (marks : List Bool) (j : ℕ) → rank marks (suc j) ≡ rank marks j + cond (is_marked marks j) 1 0
rank_next [] j = refl
rank_next (b ∷ marks) zero = let z : rank marks 0 ≡ 0 = rank_start marks in omega arith
rank_next (b ∷ marks) (suc j) = let e = rank_next marks j in omega arith

pub rank_marked : (marks : List Bool) (j : ℕ) → is_marked marks j ≡ true → rank marks (j + 1) ≡ rank marks j + 1
rank_marked marks j m =
    ap (rank marks) (let e : j + 1 ≡ suc j = omega arith in e) ∙ rank_next marks j
    ∙ ap (λ (n : ℕ). rank marks j + n) (cond-true (is_marked marks j) 1 0 m)

pub rank_unmarked : (marks : List Bool) (j : ℕ) → is_marked marks j ≡ false → rank marks (j + 1) ≡ rank marks j
rank_unmarked marks j m =
    ap (rank marks) (let e : j + 1 ≡ suc j = omega arith in e) ∙ rank_next marks j
    ∙ ap (λ (n : ℕ). rank marks j + n) (cond-false (is_marked marks j) 1 0 m)
    ∙ (let e : rank marks j + 0 ≡ rank marks j = omega arith in e)

pub rank_low : (marks : List Bool) (j : ℕ) → rank marks j ≤ j
rank_low [] j = omega arith
rank_low (b ∷ marks) zero = omega arith
rank_low (true ∷ marks) (suc j) = let e = rank_low marks j in omega arith
rank_low (false ∷ marks) (suc j) = let e = rank_low marks j in omega arith

pub rank_rises : (marks : List Bool) (i j : ℕ) → is_marked marks i ≡ true → i < j → rank marks i < rank marks j
rank_rises [] i j m h = absurd (false≢true m)
rank_rises (b ∷ marks) i zero m h = absurd (omega arith)
rank_rises (true ∷ marks) zero (suc j) m h = omega arith
rank_rises (false ∷ marks) zero (suc j) m h = absurd (false≢true m)
rank_rises (b ∷ marks) (suc i) (suc j) m h = let e = rank_rises marks i j m (omega arith) in omega arith

pub rank_same : (marks : List Bool) (i j : ℕ) → is_marked marks i ≡ true → is_marked marks j ≡ true
    → rank marks i ≡ rank marks j → i ≡ j
rank_same marks i j m n e =
    ⊎_elim (λ (h : i ≡ j). h)
    (λ (o : (i < j) ⊎ (j < i)). ⊎_elim
    (λ (h : i < j). let r = rank_rises marks i j m h in absurd (omega arith))
    (λ (h : j < i). let r = rank_rises marks j i n h in absurd (omega arith)) o)
    (cases_order i j)

-- the marked place of a rank
pub rank_onto : (marks : List Bool) (n k : ℕ) → k < rank marks n
    → (j : ℕ) × (j < n) × (is_marked marks j ≡ true) × (rank marks j ≡ k)
rank_onto [] n k h = absurd (let z : k < 0 = h in let no : ⊥ = omega arith in no)
rank_onto (b ∷ marks) zero k h = absurd (let z : k < 0 = h in let no : ⊥ = omega arith in no)
rank_onto (true ∷ marks) (suc n) zero h = (zero, omega arith, refl, refl)
rank_onto (true ∷ marks) (suc n) (suc k) h =
    let r = rank_onto marks n k (omega arith) in (suc r.0, omega (arith, r.1), r.2, omega (arith, r.3))
rank_onto (false ∷ marks) (suc n) k h =
    let r = rank_onto marks n k (omega arith) in (suc r.0, omega (arith, r.1), r.2, omega (arith, r.3))

-- where all are marked, each has its own place as its rank
pub rank_all : (marks : List Bool) (n : ℕ) → ((j : ℕ) → j < n → is_marked marks j ≡ true) → rank marks n ≡ n
rank_all [] zero h = refl
rank_all [] (suc n) h = absurd (false≢true (h zero (omega arith)))
rank_all (b ∷ marks) zero h = refl
rank_all (b ∷ marks) (suc n) h =
    let start : 0 < suc n = omega arith in
    let rest : rank marks n ≡ n = rank_all marks n (λ j low. h (suc j) (omega arith)) in
    ap₂ (λ (k m : ℕ). k + m) (cond-true b 1 0 (h zero start)) rest ∙ (let e : 1 + n ≡ suc n = omega arith in e)
