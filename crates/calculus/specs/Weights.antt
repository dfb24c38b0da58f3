-- The weight of a trail, seen as the list that says of each place whether a decision stands there.
use Rattle.std.specs.Prelude.{ℕ, suc, ◌+◌, ◌-◌, ◌^◌, ◌<◌, Bool, true, false, if◌then◌else◌, List, [], ◌∷◌, ◌++◌, length}

-- with n variables a decision counts 1, another assignment at place p, from 0, counts 2 ^ (n - p)
unfoldable pub trail_weight : ℕ → List Bool → ℕ
trail_weight n [] = 0
trail_weight n (is_decision ∷ rest) = (if is_decision then 1 else 2 ^ n) + trail_weight (n - 1) rest

-- a search: trails that follow each other by an assignment; by a cut at a decision and an assignment that is none
-- there; or by a cut from which the search begins anew. With how often it did, and the number of assignments
pub data Search (n : ℕ) : ℕ → List Bool → ℕ → Type 0 where
  starts : Search n 0 [] 0
  assigns : {restarts : ℕ} {trail : List Bool} {assigned : ℕ} → Search n restarts trail assigned
      → (is_decision : Bool) → length trail < n → Search n restarts (trail ++ is_decision ∷ []) (suc assigned)
  turns : {restarts assigned : ℕ} (front back : List Bool) → Search n restarts (front ++ true ∷ back) assigned
      → Search n restarts (front ++ false ∷ []) (suc assigned)
  begins_anew : {restarts assigned : ℕ} (front back : List Bool) → Search n restarts (front ++ back) assigned
      → Search n (suc restarts) front assigned
