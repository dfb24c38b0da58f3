-- A search that tries groups one after the other, and how a trial may stop.
use Rattle.std.specs.Prelude.{◌≡◌, ℕ, ◌⊎◌, ⊤, IfSome, List, [], ◌∷◌, ◌++◌, Contains, Option, is_none, length}
use Rattle.prefix.specs.declared.quant.Quant.TheVariants.{Exists}
use Rattle.prefix.specs.Literal.{Literal}
use Rattle.prefix.specs.Scopes.{Scope}
use Rattle.steps.specs.Counter.{Counter}
use Rattle.truth.specs.Truth.{truth_under}
use Rattle.calculus.specs.Rows.{Row}
use Rattle.trail.specs.State.{Account}
use Rattle.derive.specs.State.{OpenClause, State, clauses_of}
use Rattle.search.specs.Moves.{IsMatrix}
use Rattle.search.specs.State.{IsResting, SearchState}
use Rattle.search.specs.Stops.{IsOutcome, IsSpent}
use Rattle.search.specs.declared.outcome.SolveStop.{SolveStop}
use Rattle.search.specs.declared.outcome.SolveStop.TheVariants.{Spent, NoMemory}
use Rattle.cores.specs.Cores.{Group, grouped_in}

-- the clause stands under a tag
abbrev pub StandsAs : List OpenClause → ℕ → Row → Type 0
StandsAs clauses tag row = (c : OpenClause) × Contains clauses c × (c.frame ≡ tag) × (c.row ≡ row)

-- the clause is of the group with that tag, which is the number of groups from that group on
abbrev pub IsOfGroup : List Group → ℕ → Row → Type 0
IsOfGroup [] tag row = ⊥
IsOfGroup (g ∷ rest) tag row = ((tag ≡ length (g ∷ rest)) × Contains g.clauses row) ⊎ IsOfGroup rest tag row

-- A search is at rest. Its open clauses are those that are kept, under the tag 0, and those of the groups that are
-- still to be tried.
pub record IsTrying (scopes : List Scope) (s : SearchState) (kept : List Row) (rest : List Group) : Type 0 where
  pub resting : IsResting scopes s
  pub none_else : (c : OpenClause) → Contains (clauses_of s.derivation) c
      → ((c.frame ≡ 0) × Contains kept c.row) ⊎ IsOfGroup rest c.frame c.row
  pub kept_there : (row : Row) → Contains kept row → StandsAs (clauses_of s.derivation) 0 row
  pub rest_there : (tag : ℕ) (row : Row) → IsOfGroup rest tag row → StandsAs (clauses_of s.derivation) tag row

-- the step under an id is the finish of a refutation of the clauses
abbrev pub IsRefutation : List Scope → List Row → List Literal → State → ℕ → Type 0
IsRefutation scopes clauses assumptions d end =
    IsOutcome scopes clauses assumptions d (record { loser = Exists; end = end })

-- what is found of clauses: a refutation, exactly where they are false under the assumptions
pub record Decides (scopes : List Scope) (clauses : List Row) (assumptions : List Literal) (d : State)
    (found : Option ℕ) : Type 0 where
  pub refuted : IfSome found (IsRefutation scopes clauses assumptions d)
  pub truth : truth_under assumptions scopes clauses ≡ is_none found

-- a counter of no steps yet
abbrev pub new_counter : ℕ → Counter
new_counter budget = record { spent = 0; budget = budget }

-- the budget was spent in a search of these clauses, by a counter that began with none of it spent
pub record IsSpentOn (restarts budget : ℕ) (scopes : List Scope) (clauses : List Row) (assumptions : List Literal)
    (stopped : Account) : Type 0 where
  pub derivation : State
  pub matrix : IsMatrix derivation clauses
  pub now : Counter
  pub whole : now.budget ≡ budget
  pub spent : IsSpent restarts scopes derivation assumptions (new_counter budget) now stopped

-- a search of these clauses stops for want of memory at any time, else only where the budget was spent
abbrev pub IsStopOn : ℕ → ℕ → List Scope → List Row → List Literal → SolveStop → Type 0
IsStopOn restarts budget scopes clauses assumptions (Spent stopped) =
    IsSpentOn restarts budget scopes clauses assumptions stopped
IsStopOn restarts budget scopes clauses assumptions NoMemory = ⊤

-- the budget was spent in a trial: in a search of the other clauses with those of some of the groups
pub record IsSpentTrial (restarts budget : ℕ) (scopes : List Scope) (others : List Row) (groups : List Group)
    (assumptions : List Literal) (stopped : Account) : Type 0 where
  pub some : List Group
  pub among : (g : Group) → Contains some g → Contains groups g
  pub on : IsSpentOn restarts budget scopes (others ++ grouped_in some) assumptions stopped

-- a trial stops for want of memory at any time, else only where the budget was spent in it
abbrev pub IsTrialStop : ℕ → ℕ → List Scope → List Row → List Group → List Literal → SolveStop → Type 0
IsTrialStop restarts budget scopes others groups assumptions (Spent stopped) =
    IsSpentTrial restarts budget scopes others groups assumptions stopped
IsTrialStop restarts budget scopes others groups assumptions NoMemory = ⊤
