-- Scopes with unassigned variables, and scopes without.
use Rattle.std.specs.Prelude.{◌≡◌, ℕ, suc, ◌-◌, ◌<◌, ◌≤◌, ◌==◌, if◌then◌else◌, Bool, true, false, is_some, IsTrue, count_by, List, [], ◌∷◌, ◌++◌, length, slice_set, Contains, None}
use Rattle.prefix.specs.Literal.{Literal}
use Rattle.prefix.specs.Scopes.{Scope, all_variables, depth_of, variables_at}
use Rattle.calculus.specs.Search.{Cause, Trail, is_decision, value_on}
use Rattle.calculus.specs.Search.Cause.{Assumed}
use Rattle.trail.specs.Finished.{is_in, with_before, with_place_if}

-- whether a variable is assigned
abbrev pub is_assigned : Trail → ℕ → Bool
is_assigned trail x = is_some (value_on trail x)

-- every variable is assigned
abbrev pub AreAssigned : List Scope → Trail → Type 0
AreAssigned scopes trail = (x : ℕ) → Contains (all_variables scopes) x → IsTrue (is_assigned trail x)

-- every variable of a scope before that of this number is assigned
abbrev pub AreAssignedBefore : List Scope → Trail → ℕ → Type 0
AreAssignedBefore scopes trail scope =
    (x : ℕ) → Contains (all_variables scopes) x → depth_of scopes x < scope → IsTrue (is_assigned trail x)

-- the first scope with an unassigned variable
pub record IsFirstOpen (scopes : List Scope) (trail : Trail) (scope : ℕ) : Type 0 where
  pub first : 1 ≤ scope
  pub last : scope ≤ length scopes
  pub variable : ℕ
  pub stands : Contains (variables_at scopes scope) variable
  pub unassigned : value_on trail variable ≡ None
  pub earlier : AreAssignedBefore scopes trail scope

-- every variable of the scopes in a set is assigned
abbrev pub AreFinished : List Scope → Trail → List Bool → Type 0
AreFinished scopes trail finished =
    (x i : ℕ) → Contains (all_variables scopes) x → depth_of scopes x ≡ suc i → is_in finished i ≡ true
    → IsTrue (is_assigned trail x)

-- whether the scope of this number has as many assigned variables as it has variables
abbrev pub is_finished : List Scope → Trail → ℕ → Bool
is_finished scopes trail scope =
    count_by (is_assigned trail) (variables_at scopes scope) == length (variables_at scopes scope)

-- the scopes known to be all assigned, once a literal of the scope of this number is: that scope too where it is
-- full, and where the literal is a decision each earlier one
abbrev pub finished_with : Bool → Bool → ℕ → List Bool → List Bool
finished_with is_full is_decided depth finished =
    if is_decided
    then with_before (depth - 1) (with_place_if is_full (depth - 1) finished)
    else with_place_if is_full (depth - 1) finished

-- a trail with one more literal
abbrev pub placed_with : Trail → Literal → Cause → Trail
placed_with trail literal cause = trail ++ record { literal = literal; cause = cause } ∷ []

-- the scopes known to be all assigned once a literal follows on a trail
abbrev pub finished_after : List Scope → Trail → Literal → Cause → List Bool → List Bool
finished_after scopes trail literal cause finished =
    finished_with (is_finished scopes (placed_with trail literal cause) (depth_of scopes literal.variable))
    (is_decision cause) (depth_of scopes literal.variable) finished

-- the same, once some literals are assumed after an earlier part
abbrev pub finished_assumed : List Scope → Trail → List Literal → List Bool → List Bool
finished_assumed scopes earlier [] finished = finished
finished_assumed scopes earlier (literal ∷ literals) finished =
    finished_assumed scopes (placed_with earlier literal Assumed) literals
    (finished_after scopes earlier literal Assumed finished)

-- the same, once literals of the scopes of these numbers are undone
abbrev pub finished_without : List ℕ → List Bool → List Bool
finished_without [] finished = finished
finished_without (depth ∷ depths) finished = slice_set (finished_without depths finished) (depth - 1) false
