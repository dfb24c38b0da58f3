-- What a search does in a turn.
use Rattle.std.specs.Prelude.{◌≡◌, ◌≢◌, ℕ, ◌+◌, ◌<◌, ◌≤◌, IsTrue, List, Contains, None, Option, Some}
use Rattle.prefix.specs.declared.quant.Quant.{Quant}
use Rattle.prefix.specs.declared.quant.Quant.TheVariants.{Forall}
use Rattle.prefix.specs.Literal.{Literal}
use Rattle.prefix.specs.Scopes.{Scope}
use Rattle.steps.specs.Counter.{Counter, after}
use Rattle.calculus.specs.Derivations.Why.{Given}
use Rattle.calculus.specs.Rows.{Row, reduce}
use Rattle.calculus.specs.Search.{AreTheAssumptions, Cause, IsBadRow, IsUnitIn, cut_trail, last_level, value_on}
use Rattle.calculus.specs.Verdicts.{IsEndRow}
use Rattle.trail.specs.Open.{AreAssigned, placed_with}
use Rattle.trail.specs.State.{TrailState, counted}
use Rattle.trail.specs.declared.allowed.Allowed.TheVariants.{Anything, Nothing}
use Rattle.decide.specs.Decision.{IsDecision}
use Rattle.cover.specs.Choices.{MayCover}
use Rattle.derive.specs.State.{State, clauses_of, has_rows, is_live, is_step, next_id, note_at, open_clauses, row_of, side_at, why_at}
use Rattle.watch.specs.Events.{AreQuiet}
use Rattle.clean.specs.Reasons.{IsReducedStep}
use Rattle.analyse.specs.Lessons.{NeedsResolution}
use Rattle.search.specs.State.{IsAttached, IsPaused, IsSearching, SearchState, rows_of}
use Rattle.search.specs.Counting.{IsBounded, IsCounted, lesson_cost, size_of}
use Rattle.search.specs.Forcing.{IsRefuting}
use Rattle.search.specs.declared.outcome.BadRow.{BadRow}
use Rattle.search.specs.declared.outcome.Found.{Found}
use Rattle.search.specs.declared.outcome.Found.TheVariants.{Unit as IsUnit, Bad, Quiet}

-- a derivation with the same steps and rows, in which links may differ
pub record SameSteps (old new : State) : Type 0 where
  pub notes : new.notes ≡ old.notes
  pub has_rows : IsTrue (has_rows new)
  pub literals : (id : ℕ) → row_of new id ≡ row_of old id
  pub clauses : clauses_of new ≡ clauses_of old

-- No id is given twice: what is live under an id that was given before was so before, with its row, in which links
-- may differ.
pub record KeepsOlder (old new : State) : Type 0 where
  pub longer : next_id old ≤ next_id new
  pub note : (id : ℕ) → id < next_id old → IsTrue (is_live new id) → note_at new id ≡ note_at old id
  pub row : (id : ℕ) → id < next_id old → IsTrue (is_live new id) → row_of new id ≡ row_of old id

-- the clauses of a matrix are the open clauses
pub record IsMatrix (d : State) (matrix : List Row) : Type 0 where
  pub there : (row : Row) → Contains (open_clauses d) row → Contains matrix row
  pub none_else : (row : Row) → Contains matrix row → Contains (open_clauses d) row

-- whatever the assumptions of one trail are, they are those of the other
abbrev pub KeepsAssumptions : TrailState → TrailState → Type 0
KeepsAssumptions old new = (assumptions : List Literal) → AreTheAssumptions old.placed assumptions
    → AreTheAssumptions new.placed assumptions

-- more was assigned, or the search began anew once more
abbrev pub Proceeds : TrailState → TrailState → Type 0
Proceeds old new = old.assigned + old.restarts < new.assigned + new.restarts

-- the search goes on, with more assignments or restarts, and may decide
pub record Advances (scopes : List Scope) (slack : ℕ) (old new : SearchState) (before now : Counter) : Type 0 where
  pub searching : IsSearching scopes new
  pub clauses : clauses_of new.derivation ≡ clauses_of old.derivation
  pub older : KeepsOlder old.derivation new.derivation
  pub assumed : KeepsAssumptions old.trail new.trail
  pub allowed : new.trail.allowed ≡ Anything
  pub budget : now.budget ≡ before.budget
  pub rises : before.spent ≤ now.spent
  pub counted : (start : ℕ) → IsCounted (size_of scopes) slack start old.trail before
      → IsCounted (size_of scopes) 0 start new.trail now × Proceeds old.trail new.trail

-- a row was analysed: what that costs is owed until the trail is cut
pub record Analyses (scopes : List Scope) (old new : SearchState) (before now : Counter) : Type 0 where
  pub searching : IsSearching scopes new
  pub clauses : clauses_of new.derivation ≡ clauses_of old.derivation
  pub older : KeepsOlder old.derivation new.derivation
  pub assumed : KeepsAssumptions old.trail new.trail
  pub level : last_level new.trail.placed ≡ last_level old.trail.placed
  pub assigned : new.trail.assigned ≡ old.trail.assigned
  pub restarts : new.trail.restarts ≡ old.trail.restarts
  pub budget : now.budget ≡ before.budget
  pub rises : before.spent ≤ now.spent
  pub owed : (start : ℕ) → IsCounted (size_of scopes) 1 start old.trail before
      → IsCounted (size_of scopes) (lesson_cost (size_of scopes)) start new.trail now

-- no less was assigned, and the search began anew no less often
abbrev pub Remains : TrailState → TrailState → Type 0
Remains old new = old.assigned + old.restarts ≤ new.assigned + new.restarts

-- the search goes on with the same clauses and assumptions; where so much was owed before, that much is owed then
pub record Continues (scopes : List Scope) (owed owes : ℕ) (old new : SearchState) (before now : Counter) : Type 0 where
  pub searching : IsSearching scopes new
  pub clauses : clauses_of new.derivation ≡ clauses_of old.derivation
  pub older : KeepsOlder old.derivation new.derivation
  pub assumed : KeepsAssumptions old.trail new.trail
  pub budget : now.budget ≡ before.budget
  pub rises : before.spent ≤ now.spent
  pub counted : (start : ℕ) → IsCounted (size_of scopes) owed start old.trail before
      → IsCounted (size_of scopes) owes start new.trail now × Remains old.trail new.trail

-- What unit rows asked for was assigned. The steps are the same, and where propagation was to refute the clauses, it
-- still is.
pub record Propagates (scopes : List Scope) (old new : SearchState) (before now : Counter) : Type 0 where
  pub goes : Continues scopes 0 0 old new before now
  pub steps : SameSteps old.derivation new.derivation
  pub allowed : new.trail.allowed ≡ Anything
  pub restarts : new.trail.restarts ≡ old.trail.restarts
  pub long : new.long ≡ old.long
  pub refuting : (matrix : List Row) (start : ℕ) → IsRefuting scopes matrix start old before
      → IsRefuting scopes matrix start new now

-- a literal was assigned from this cause, in one step, and nothing else changed
pub record Pushes (old new : SearchState) (literal : Literal) (cause : Cause) (before now : Counter) : Type 0 where
  pub derivation : new.derivation ≡ old.derivation
  pub placed : new.trail.placed ≡ placed_with old.trail.placed literal cause
  pub counted : now ≡ after before 1

-- the search stops
pub record Halts (scopes : List Scope) (slack : ℕ) (old new : SearchState) (before now : Counter) : Type 0 where
  pub paused : IsPaused scopes new
  pub clauses : clauses_of new.derivation ≡ clauses_of old.derivation
  pub older : KeepsOlder old.derivation new.derivation
  pub budget : now.budget ≡ before.budget
  pub rises : before.spent ≤ now.spent
  pub bounded : (start : ℕ) → IsCounted (size_of scopes) slack start old.trail before
      → IsBounded (size_of scopes) start new.trail now

-- the search ends with an end row of a side
pub record Ends (scopes : List Scope) (slack : ℕ) (old new : SearchState) (before now : Counter) (side : Quant)
    (id : ℕ) : Type 0 where
  pub paused : IsPaused scopes new
  pub clauses : clauses_of new.derivation ≡ clauses_of old.derivation
  pub older : KeepsOlder old.derivation new.derivation
  pub budget : now.budget ≡ before.budget
  pub rises : before.spent ≤ now.spent
  pub bounded : (start : ℕ) → IsCounted (size_of scopes) slack start old.trail before
      → IsBounded (size_of scopes) start new.trail now
  pub row : IsReducedStep side scopes new.derivation id
  pub end : (assumptions : List Literal) → AreTheAssumptions old.trail.placed assumptions
      → IsEndRow side scopes assumptions (row_of new.derivation id)

-- the search is undone to a level
pub record Undoes (scopes : List Scope) (level : ℕ) (old new : SearchState) : Type 0 where
  pub searching : IsSearching scopes new
  pub derivation : new.derivation ≡ old.derivation
  pub restarts : new.trail.restarts ≡ old.trail.restarts
  pub placed : new.trail.placed ≡ cut_trail level old.trail.placed
  pub assigned : new.trail.assigned ≡ old.trail.assigned
  pub allowed : new.trail.allowed ≢ Nothing
  pub assumed : KeepsAssumptions old.trail new.trail
  pub paid : (start : ℕ) (steps : Counter) → IsCounted (size_of scopes) (lesson_cost (size_of scopes)) start old.trail
      steps
      → IsCounted (size_of scopes) 0 start new.trail steps

-- the search is cut to level 0, and begins anew
pub record BeginsAnew (scopes : List Scope) (old new : SearchState) : Type 0 where
  pub searching : IsSearching scopes new
  pub derivation : new.derivation ≡ old.derivation
  pub placed : new.trail.placed ≡ cut_trail 0 old.trail.placed
  pub assigned : new.trail.assigned ≡ old.trail.assigned
  pub restarts : new.trail.restarts ≡ counted old.trail.restarts 1
  pub allowed : new.trail.allowed ≡ Anything
  pub assumed : KeepsAssumptions old.trail new.trail
  pub paid : (start : ℕ) (steps : Counter) → IsCounted (size_of scopes) (lesson_cost (size_of scopes)) start old.trail
      steps
      → IsCounted (size_of scopes) 0 start new.trail steps

-- what is found: an attached row that is unit or bad, or that none is
abbrev pub IsFound : List Scope → SearchState → Found → Type 0
IsFound scopes s (IsUnit side id literal) = IsAttached s side id
    × IsUnitIn side scopes (value_on s.trail.placed) (row_of s.derivation id) literal
IsFound scopes s (Bad side id) = IsAttached s side id
    × IsBadRow side scopes (value_on s.trail.placed) (row_of s.derivation id)
IsFound scopes s Quiet = (side : Quant) → AreQuiet side scopes (value_on s.trail.placed) (rows_of s)

-- a bad row of a side is found that is attached, or no row is unit or bad
abbrev pub IsFoundBad : List Scope → SearchState → Option BadRow → Type 0
IsFoundBad scopes s (Some found) = IsFound scopes s (Bad found.side found.row)
IsFoundBad scopes s None = IsFound scopes s Quiet

-- each variable is assigned, and the live step under an id is an initial cube, of literals that may cover the open
-- clauses
pub record IsInitialCube (scopes : List Scope) (s : SearchState) (id : ℕ) : Type 0 where
  pub assigned : AreAssigned scopes s.trail.placed
  pub step : IsTrue (is_step s.derivation id)
  pub of_side : side_at s.derivation id ≡ Forall
  pub why : why_at s.derivation id ≡ Given
  pub literals : (l : Literal) → Contains (row_of s.derivation id) l
      → MayCover scopes (value_on s.trail.placed) (open_clauses s.derivation) l

-- A step is due: a row of a side is unit in a literal, which is to be assigned; a bad one is to be resolved; a variable
-- is to be decided, which is allowed; or an initial cube is to be reduced.
pub data IsDue (scopes : List Scope) (s : SearchState) : Type 0 where
  unit : (side : Quant) (id : ℕ) (literal : Literal) → IsReducedStep side scopes s.derivation id
      → IsUnitIn side scopes (value_on s.trail.placed) (row_of s.derivation id) literal → IsDue scopes s
  bad : (side : Quant) (id : ℕ) → IsReducedStep side scopes s.derivation id
      → IsBadRow side scopes (value_on s.trail.placed) (row_of s.derivation id)
      → NeedsResolution side scopes s.trail.placed (row_of s.derivation id) → IsDue scopes s
  decision : (x : ℕ) → s.trail.allowed ≡ Anything → IsDecision scopes s.trail.placed x → IsDue scopes s
  cube : (id : ℕ) → IsInitialCube scopes s id → reduce Forall scopes (row_of s.derivation id) ≢ row_of s.derivation id
      → IsDue scopes s

-- a step was due in a search that this one came to, with the same clauses, assumptions and assignments so far
pub record WasDue (scopes : List Scope) (old new : SearchState) : Type 0 where
  pub at : SearchState
  pub searching : IsSearching scopes at
  pub clauses : clauses_of at.derivation ≡ clauses_of old.derivation
  pub assumed : KeepsAssumptions old.trail at.trail
  pub assigned : new.trail.assigned ≡ at.trail.assigned
  pub due : IsDue scopes at
