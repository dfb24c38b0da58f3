-- Steps that come in are resolvents and reductions.
use Rattle.std.proofs.Common.{◌≡◌, ℕ, ◌<◌, ◌≤◌, ◌++◌, ◌∷◌, [], length, Bool, true, false, Option, Some, ◌||◌, sym, subst, ap, ◌∙◌, ⊎_elim, arith}
use Rattle.std.specs.Prelude.{IsTrue}
use Rattle.std.proofs.lemmas.Bool.{cases_Bool, cases_lt, true≢false}
use Rattle.calculus.specs.Rows.{Row}
use Rattle.derive.specs.State.{Note, SameStep, State, is_live, next_id, why_at, why_in}
use Rattle.derive.specs.Adding.{Adds}
use Rattle.derive.proofs.Additions.{live_below, pushed_length}
use Rattle.clean.specs.Turns.{AreInferred, is_reduction, is_resolvent}

abbrev is_inferred : Option Note → Bool
is_inferred o = is_resolvent (why_in o) || is_reduction (why_in o)

-- nothing came in
pub inferred_none : (d : State) → AreInferred d d
inferred_none d id dead live = absurd (true≢false (sym live ∙ dead))

-- one derivation after the other
pub inferred_twice : (a b c : State) → AreInferred a b → ((id : ℕ) → IsTrue (is_live b id) → SameStep b c id)
    → AreInferred b c → AreInferred a c
inferred_twice a b c first others second id dead live =
    ⊎_elim
    (λ (was : is_live b id ≡ true). ap is_inferred (others id was).note ∙ first id dead was)
    (λ (gone : is_live b id ≡ false). second id gone live)
    (cases_Bool (is_live b id))

-- one step came in
pub inferred_added : (old new : State) (at : ℕ) (note : Note) (row : Row) → Adds old new at note row
    → (is_resolvent note.why || is_reduction note.why) ≡ true → AreInferred old new
inferred_added old new at note row adds is id dead live =
    let longer : length new.notes ≡ length (old.notes ++ Some note ∷ []) = ap next_id adds.state in
    let one = pushed_length old.notes (Some note) in
    let below = live_below new.notes id live in
    let next = adds.is_next in
    ⊎_elim
    (λ (before : id < next_id old). absurd (true≢false (sym live ∙ (adds.given id before ∙ dead))))
    (λ (late : next_id old ≤ id).
    let same : id ≡ at = omega arith in
    subst (λ (n : ℕ). (is_resolvent (why_at new n) || is_reduction (why_at new n)) ≡ true) (sym same)
    (ap is_inferred adds.there ∙ is))
    (cases_lt id (next_id old))
