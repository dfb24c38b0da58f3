-- The laws of the weight of a trail.
use Rattle.std.proofs.Common.{◌≡◌, ℕ, suc, zero, ◌+◌, ◌-◌, ◌*◌, ◌^◌, ◌<◌, ◌≤◌, Bool, true, false, List, [], ◌∷◌, ◌++◌, length, arith, length-append, pow_pos, pow-suc, add-one}
use Rattle.calculus.specs.Weights.{Search, trail_weight}
use Rattle.calculus.specs.Weights.Search.{starts, assigns, turns, begins_anew}
use Rattle.std.proofs.lemmas.List.{length-map}
use Rattle.prefix.specs.Scopes.{Scope, all_variables}
use Rattle.calculus.specs.Search.{Placed, Trail, IsOrderedTrail, decisions_on, is_decision}
use Rattle.calculus.proofs.Sizes.{trail_length}

twice_power : (n : ℕ) → 2 ^ suc n ≡ 2 * 2 ^ n
twice_power n = omega (arith, pow-suc 2 n)

power_positive : (n : ℕ) → 1 ≤ 2 ^ n
power_positive n = pow_pos n

before_one : (n : ℕ) → suc n - 1 ≡ n
before_one n = omega arith

-- a trail of at most n places
pub weight_below : (n : ℕ) (trail : List Bool) → length trail ≤ n → trail_weight n trail + 2 ≤ 2 ^ suc n
unfolding trail_weight
weight_below n [] fits = omega (arith, twice_power n, power_positive n)
weight_below zero (d ∷ rest) fits = absurd (let h : suc (length rest) ≤ 0 = fits in omega arith)
weight_below (suc n) (true ∷ rest) fits =
    let h : suc (length rest) ≤ suc n = fits in
    let later : trail_weight n rest + 2 ≤ 2 ^ suc n = weight_below n rest (omega arith) in
    rw (before_one n) (omega (arith, twice_power (suc n), power_positive (suc n), later))
weight_below (suc n) (false ∷ rest) fits =
    let h : suc (length rest) ≤ suc n = fits in
    let later : trail_weight n rest + 2 ≤ 2 ^ suc n = weight_below n rest (omega arith) in
    rw (before_one n) (omega (arith, twice_power (suc n), later))

-- an assignment raises the weight
pub weight_rises : (n : ℕ) (trail : List Bool) (is_decision : Bool) → trail_weight n trail < trail_weight n
    (trail ++ is_decision ∷ [])
unfolding trail_weight
weight_rises n [] true = omega arith
weight_rises n [] false = omega (arith, power_positive n)
weight_rises n (d ∷ rest) e = let later : trail_weight (n - 1) rest < trail_weight (n - 1) (rest ++ e ∷ []) =
    weight_rises (n - 1) rest e in omega (arith, later)

-- a cut at a decision, with an assignment that is none in its place, raises it
pub weight_turns : (n : ℕ) (front back : List Bool) → length (front ++ true ∷ back) ≤ n
    → trail_weight n (front ++ true ∷ back) < trail_weight n (front ++ false ∷ [])
unfolding trail_weight
weight_turns zero [] back fits = absurd (let h : suc (length back) ≤ 0 = fits in omega arith)
weight_turns (suc n) [] back fits =
    let h : suc (length back) ≤ suc n = fits in
    let later : trail_weight n back + 2 ≤ 2 ^ suc n = weight_below n back (omega arith) in
    rw (before_one n) (omega (arith, later))
weight_turns n (d ∷ front) back fits =
    let h : suc (length (front ++ true ∷ back)) ≤ n = fits in
    let later : trail_weight (n - 1) (front ++ true ∷ back) < trail_weight (n - 1) (front ++ false ∷ []) = weight_turns
    (n - 1) front back (omega arith) in
    omega (arith, later)

search_fits : {n restarts : ℕ} {trail : List Bool} {assigned : ℕ} → Search n restarts trail assigned → length trail ≤ n
search_fits starts = omega arith
search_fits {n} (assigns {trail} s d below) = simp length-append (omega arith)
search_fits {n} (turns front back s) = let h = search_fits s in let all : length (front ++ true ∷ back) ≡ length front +
    suc (length back) = length-append front (true ∷ back) in simp length-append (omega arith)
search_fits {n} (begins_anew front back s) = let h = search_fits s in let all : length (front ++ back) ≡ length front +
    length back = length-append front back in omega arith

one_round : (restarts size : ℕ) → suc restarts * size ≡ restarts * size + size
one_round restarts size = omega arith

-- each round adds at most its greatest weight
search_weight : {n restarts : ℕ} {trail : List Bool} {assigned : ℕ} → Search n restarts trail assigned
    → assigned ≤ restarts * 2 ^ suc n + trail_weight n trail
search_weight starts = omega arith
search_weight {n} {restarts} (assigns {trail} {assigned} s d below) = let h : assigned ≤ restarts * 2 ^ suc n +
    trail_weight n trail = search_weight s in let r : trail_weight n trail < trail_weight n (trail ++ d ∷ []) =
    weight_rises n trail d in omega arith
search_weight {n} {restarts} (turns {assigned} front back s) = let h : assigned ≤ restarts * 2 ^ suc n + trail_weight n
    (front ++ true ∷ back) = search_weight s in let r : trail_weight n (front ++ true ∷ back) < trail_weight n
    (front ++ false ∷ []) = weight_turns n front back (search_fits s) in omega arith
search_weight {n} (begins_anew {restarts} {assigned} front back s) =
    let h : assigned ≤ restarts * 2 ^ suc n + trail_weight n (front ++ back) = search_weight s in
    let b : trail_weight n (front ++ back) + 2 ≤ 2 ^ suc n = weight_below n (front ++ back) (search_fits s) in
    let e = one_round restarts (2 ^ suc n) in
    rw e (omega arith)

-- a search makes fewer than 2 ^ (n + 1) assignments a round
pub search_bound : (n restarts : ℕ) (trail : List Bool) (assigned : ℕ) → Search n restarts trail assigned
    → assigned + 1 < (restarts + 1) * 2 ^ (n + 1)
search_bound n restarts trail assigned s =
    let a : assigned ≤ restarts * 2 ^ suc n + trail_weight n trail = search_weight s in
    let b : trail_weight n trail + 2 ≤ 2 ^ suc n = weight_below n trail (search_fits s) in
    let e : n + 1 ≡ suc n = omega arith in
    let f : restarts + 1 ≡ suc restarts = omega arith in
    rw (e, f, one_round restarts (2 ^ suc n)) (omega arith)

-- the weight of an ordered trail
pub light_trail : (scopes : List Scope) (trail : Trail) → IsOrderedTrail scopes trail
    → trail_weight (length (all_variables scopes)) (decisions_on trail) + 2 ≤ 2 ^ (length (all_variables scopes) + 1)
light_trail scopes trail ordered =
    let n = length (all_variables scopes) in
    let same : length (decisions_on trail) ≡ length trail = length-map trail (λ (p : Placed). is_decision p.cause) in
    let few = trail_length scopes trail ordered in
    rw add-one (weight_below n (decisions_on trail) (omega arith))
