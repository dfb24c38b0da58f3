-- Values put into the front of a list, one after the other.
use Rattle.std.proofs.Common.{◌≡◌, ℕ, zero, suc, ◌+◌, ◌<◌, ◌≤◌, List, [], ◌∷◌, ◌++◌, length, take, drop, map, get_or, set, refl, ap, arith}

pub put_next : {X Y : Type 0} (f : X → Y) (xs : List X) (ys : List Y) (i : ℕ) (d : X) → i < length xs
    → length xs ≤ length ys → set (map f (take i xs) ++ drop i ys) i (f (get_or xs i d))
    ≡ map f (take (i + 1) xs) ++ drop (i + 1) ys
put_next f [] ys i d low fits = absurd (omega arith)
put_next f (x ∷ xs) [] i d low fits = absurd (omega arith)
put_next f (x ∷ xs) (y ∷ ys) zero d low fits = refl
put_next f (x ∷ xs) (y ∷ ys) (suc i) d low fits =
    let one : suc i + 1 ≡ suc (i + 1) = omega arith in
    rw one (ap (λ zs. f x ∷ zs) (put_next f xs ys i d (omega arith) (omega arith)))
