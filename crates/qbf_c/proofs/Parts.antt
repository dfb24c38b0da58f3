-- Lists that are gone over, element by element or part by part.
use Rattle.std.proofs.Common.{◌≡◌, ℕ, zero, suc, ◌+◌, ◌≤◌, List, [], ◌∷◌, ◌++◌, length, take, get_or, min, ap, sym, ◌∙◌, arith, length-append}
use Rattle.std.specs.List.{flat_map}
use Rattle.std.proofs.lemmas.List.{append-nil, append_assoc}

-- one part more
pub flat_next : {X Y : Type 0} (f : X → List Y) (xs : List X) (i : ℕ) (d : X) → suc i ≤ length xs
    → flat_map f (take (i + 1) xs) ≡ flat_map f (take i xs) ++ f (get_or xs i d)
flat_next f [] i d below = absurd (omega arith)
flat_next f (x ∷ xs) zero d below = append-nil (f x)
flat_next f (x ∷ xs) (suc i) d below =
    let e : suc i + 1 ≡ suc (i + 1) = omega arith in
    rw e (ap (λ t. f x ++ t) (flat_next f xs i d (omega arith))
    ∙ sym (append_assoc (f x) (flat_map f (take i xs)) (f (get_or xs i d))))

pub part_next : {X Y : Type 0} (f : X → List Y) (xs : List X) (i : ℕ) (d : X) (before now new : List Y)
    → suc i ≤ length xs → d ≡ get_or xs i d → now ≡ before ++ flat_map f (take i xs) → new ≡ now ++ f d
    → new ≡ before ++ flat_map f (take (i + 1) xs)
part_next f xs i d before now new below is held step =
    step ∙ ap (λ ys. ys ++ f d) held ∙ append_assoc before (flat_map f (take i xs)) (f d)
    ∙ ap (λ ys. before ++ ys) (ap (λ x. flat_map f (take i xs) ++ f x) is ∙ sym (flat_next f xs i d below))

-- how many elements of parts there are, up to a limit
min_next : (a b n : ℕ) → min (min a n + b) n ≡ min (a + b) n
min_next a b n = grind arith

pub count_next : {X Y : Type 0} (f : X → List Y) (xs : List X) (i : ℕ) (d : X) (first now new most : ℕ)
    → suc i ≤ length xs → d ≡ get_or xs i d → now ≡ min (first + length (flat_map f (take i xs))) most
    → new ≡ min (now + length (f d)) most → new ≡ min (first + length (flat_map f (take (i + 1) xs))) most
count_next f xs i d first now new most below is before step =
    let so_far : ℕ = length (flat_map f (take i xs)) in
    let part : length (f (get_or xs i d)) ≡ length (f d) = ap (λ x. length (f x)) (sym is) in
    let all : length (flat_map f (take (i + 1) xs)) ≡ so_far + length (f d) =
    ap length (flat_next f xs i d below) ∙ length-append (flat_map f (take i xs)) (f (get_or xs i d))
    ∙ ap (λ n. so_far + n) part in
    let sum : first + so_far + length (f d) ≡ first + (so_far + length (f d)) = omega arith in
    step ∙ ap (λ n. min (n + length (f d)) most) before ∙ min_next (first + so_far) (length (f d)) most
    ∙ ap (λ n. min n most) (sum ∙ ap (λ n. first + n) (sym all))

-- one element more, and the elements behind it
pub element_next : {X : Type 0} (before left later new all : List X) (v n : X) → left ≡ v ∷ later
    → before ++ left ≡ all → n ≡ v → new ≡ before ++ n ∷ [] → new ++ later ≡ all
element_next before left later new all v n is whole same more =
    ap (λ xs. xs ++ later) (more ∙ ap (λ x. before ++ x ∷ []) same) ∙ append_assoc before (v ∷ []) later
    ∙ ap (λ xs. before ++ xs) (sym is) ∙ whole

pub element_last : {X : Type 0} (before left all : List X) → left ≡ [] → before ++ left ≡ all → before ≡ all
element_last before left all none whole = sym (append-nil before) ∙ ap (λ xs. before ++ xs) (sym none) ∙ whole
