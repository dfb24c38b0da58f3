-- A list that is gone over, by what is left of it.
use Rattle.std.proofs.Common.{◌≡◌, ℕ, zero, suc, ◌+◌, ◌≤◌, List, [], ◌∷◌, length, drop, get_or, sym, ◌∙◌, arith}

-- what is behind the first i is the next and what is behind that
pub record IsNext (xs : List ℕ) (i v : ℕ) (others : List ℕ) : Type 0 where
  pub below : suc i ≤ length xs
  pub item : (d : ℕ) → get_or xs i d ≡ v
  pub later : others ≡ drop (i + 1) xs

next_of : (xs : List ℕ) (i v : ℕ) (later : List ℕ) → drop i xs ≡ v ∷ later → IsNext xs i v later
next_of [] zero v later e = absurd (let f : [] ≡ v ∷ later = e in cc)
next_of [] (suc i) v later e = absurd (let f : [] ≡ v ∷ later = e in cc)
next_of (x ∷ xs) zero v later e =
    let first : x ≡ v = cc in
    let rest : xs ≡ later = cc in
    record { below = omega arith; item = λ d. first; later = sym rest }
next_of (x ∷ xs) (suc i) v later e =
    let n = next_of xs i v later e in
    let one : suc i + 1 ≡ suc (i + 1) = omega arith in
    record { below = omega (arith, n.below); item = n.item; later = rw one n.later }

-- the next of those that are left
pub next_left : (xs left : List ℕ) (i v : ℕ) (later : List ℕ) → left ≡ drop i xs → left ≡ v ∷ later
    → IsNext xs i v later
next_left xs left i v later is steps = next_of xs i v later (sym is ∙ steps)

-- none is left
pub none_left : (xs left : List ℕ) (i : ℕ) → left ≡ drop i xs → left ≡ [] → length xs ≤ i
none_left xs left i is none = end_of xs i (sym is ∙ none)
  where
    end_of : (ys : List ℕ) (j : ℕ) → drop j ys ≡ [] → length ys ≤ j
    end_of [] j e = omega arith
    end_of (y ∷ ys) zero e = absurd (let f : y ∷ ys ≡ [] = e in cc)
    end_of (y ∷ ys) (suc j) e = omega (arith, end_of ys j e)
