-- Finishes that are live, where steps come and go.
use Rattle.std.proofs.Common.{◌≡◌, ℕ, ◌+◌, ◌<◌, ◌≤◌, ◌⊎◌, true, false, [], ◌∷◌, Option, Some, None, is_some, List, refl, sym, ap, subst, ◌∙◌, inl, inr, ⊎_elim, arith}
use Rattle.std.proofs.lemmas.Bool.{false≢true}
use Rattle.std.proofs.lemmas.List.{length-append}
use Rattle.prefix.specs.Scopes.{Scope}
use Rattle.calculus.specs.Derivations.{Why}
use Rattle.calculus.specs.Derivations.Why.{ReducedFrom}
use Rattle.calculus.specs.Rows.{Row}
use Rattle.derive.specs.State.{Note, State, is_finish, is_live, next_id, note_at, why_in}
use Rattle.derive.specs.Adding.{Adds, InputsClause, Removes}
use Rattle.derive.specs.Dropping.{Drops, StepTest}
use Rattle.derive.specs.Inputs.{AddsClauses, InputsClauses}
use Rattle.derive.specs.Inputs.AddsClauses.{no_clause, one_more}
use Rattle.derive.proofs.Additions.{live_below}
use Rattle.search.specs.Finishes.{GainsNoFinish, HasNoFinish, IsFinishId}

-- a finish is live
finish_live : (o : Option Note) → is_finish (why_in o) ≡ true → is_some o ≡ true
finish_live None is = absurd (false≢true is)
finish_live (Some note) is = refl

-- a step that stayed
finish_stayed : (old new : State) (id : ℕ) → note_at new id ≡ note_at old id → IsFinishId new id → IsFinishId old id
finish_stayed old new id same is = subst (λ (o : Option Note). is_finish (why_in o) ≡ true) same is

-- steps go
finishes_left : (is_root : StepTest) (old new : State) → Drops is_root old new → GainsNoFinish old new
finishes_left is_root old new drops id is =
    finish_stayed old new id (drops.others id (finish_live (note_at new id) is)).note is

-- a step comes in
pub finish_added : (old new : State) (id : ℕ) (note : Note) (row : Row) → Adds old new id note row → (k : ℕ)
    → IsFinishId new k → (k ≡ id) ⊎ IsFinishId old k
finish_added old new id note row adds k is =
    ⊎_elim
    (λ before.
    inr (finish_stayed old new k (adds.others k (sym (adds.given k before) ∙ live)).note is))
    (λ last. inl (at_end last))
    (either k (next_id old))
  where
    live : is_live new k ≡ true
    live = finish_live (note_at new k) is

    either : (a b : ℕ) → (a < b) ⊎ (b ≤ a)
    either a b = grind arith

    at_end : next_id old ≤ k → k ≡ id
    at_end last =
        let below : k < next_id new = live_below new.notes k live in
        let long : next_id new ≡ next_id old + 1 = ap next_id adds.state
        ∙ length-append old.notes (Some note ∷ []) in
        let next = adds.is_next in
        omega arith

-- one that is no finish
finish_not_added : (old new : State) (id : ℕ) (note : Note) (row : Row) → Adds old new id note row
    → is_finish note.why ≡ false → GainsNoFinish old new
finish_not_added old new id note row adds other k is =
    ⊎_elim
    (λ here.
    let there : note_at new k ≡ Some note = ap (note_at new) here ∙ adds.there in
    absurd (false≢true (sym other ∙ (ap (λ (o : Option Note). is_finish (why_in o)) (sym there) ∙ is))))
    (λ before. before)
    (finish_added old new id note row adds k is)

-- a removal that is no finish
finish_not_removed : (old new : State) (id on : ℕ) (why : Why) (row : Row) → Removes old new id on why row
    → is_finish why ≡ false → GainsNoFinish old new
finish_not_removed old new id on why row removes other k is =
    ⊎_elim
    (λ same. subst (λ (d : State). IsFinishId d k) same.2 is)
    (λ more. finish_not_added old new id _ row more.1 other k is)
    removes.cases

-- a clause comes in
pub finishes_input : (scopes : List Scope) (old new : State) (first second frame : ℕ) (row : Row)
    → InputsClause scopes old new first second frame row → GainsNoFinish old new
finishes_input scopes old new first second frame row inputs k is =
    let adds = inputs.adds in
    finish_not_added old adds.with_input first _ row adds.input refl k
    (finish_not_removed adds.with_input inputs.added second first (ReducedFrom first) _ adds.reduction refl k
    (finishes_left _ inputs.added new inputs.cubes k is))

-- clauses come in at once
finishes_entered : (scopes : List Scope) (frame : ℕ) (old new : State) (rows : List Row) (ids : List ℕ)
    → AddsClauses scopes frame old new rows ids → GainsNoFinish old new
finishes_entered scopes frame old new rows ids no_clause k is = is
finishes_entered scopes frame old new rows ids (one_more middle _ before row earlier first second chain adds) k is =
    finishes_entered scopes frame old middle before earlier chain k
    (finish_not_added middle adds.with_input first _ row adds.input refl k
    (finish_not_removed adds.with_input new second first (ReducedFrom first) _ adds.reduction refl k is))

pub finishes_inputs : (scopes : List Scope) (frame : ℕ) (old new : State) (rows : List Row) (listed now : List ℕ)
    → InputsClauses scopes frame old new rows listed now → GainsNoFinish old new
finishes_inputs scopes frame old new rows listed now inputs k is =
    finishes_entered scopes frame old inputs.added rows inputs.ids inputs.adds k
    (finishes_left _ inputs.added new inputs.cubes k is)

-- a finish comes in where there is none
pub one_finish : (old new : State) (id on : ℕ) (why : Why) (row : Row) → Removes old new id on why row
    → HasNoFinish old → (k : ℕ) → IsFinishId new k → k ≡ id
one_finish old new id on why row removes none k is =
    ⊎_elim
    (λ same. absurd (none k (subst (λ (d : State). IsFinishId d k) same.2 is)))
    (λ more. ⊎_elim (λ here. here) (λ before. absurd (none k before)) (finish_added old new id _ row more.1 k is))
    removes.cases
