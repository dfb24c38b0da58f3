-- Finishes that are live.
use Rattle.std.specs.Prelude.{ℕ, IsTrue, count_by}
use Rattle.derive.specs.State.{State, ids_of, is_finish, why_at}

-- the live step under an id is a finish
abbrev pub IsFinishId : State → ℕ → Type 0
IsFinishId d id = IsTrue (is_finish (why_at d id))

-- no live step is a finish
abbrev pub HasNoFinish : State → Type 0
HasNoFinish d = (id : ℕ) → IsFinishId d id → ⊥

-- what is a live finish was one before
abbrev pub GainsNoFinish : State → State → Type 0
GainsNoFinish old new = (id : ℕ) → IsFinishId new id → IsFinishId old id

-- how many live steps are finishes
abbrev pub finishes_in : State → ℕ
finishes_in d = count_by (λ id. is_finish (why_at d id)) (ids_of d)
