-- How an engine is kept: frames and a search that belong together.
use Rattle.std.specs.Prelude.{◌≡◌, ℕ, zero, suc, ◌+◌, ◌-◌, ◌<◌, ◌≤◌, ◌==◌, nat_le, if◌then◌else◌, List, [], ◌∷◌, filter, length, map, Option, Some, None, IfSome}
use Rattle.prefix.specs.Literal.{Literal}
use Rattle.prefix.specs.Scopes.{IsAscending}
use Rattle.calculus.specs.Limits.{removal_bound}
use Rattle.calculus.specs.Rows.{Row, variables_in}
use Rattle.calculus.specs.Verdicts.{AreOuter, relevant_of}
use Rattle.derive.specs.State.{OpenClause, State, clauses_of, row_of}
use Rattle.clean.specs.Turns.{reductions_in}
use Rattle.frames.specs.Commands.{max_pushed}
use Rattle.frames.specs.Groups.{AreRising, Group, clauses_at, is_active}
use Rattle.frames.specs.State.{Frame, OpenFormula, depth, open_clauses}
use Rattle.search.specs.declared.outcome.Outcome.{Outcome}
use Rattle.search.specs.Changing.{AddsClause}
use Rattle.search.specs.Counting.{size_of}
use Rattle.search.specs.Finishes.{HasNoFinish, IsFinishId}
use Rattle.search.specs.Forcing.{HasNoCubes}
use Rattle.search.specs.Long.{long_in}
use Rattle.search.specs.State.{IsResting, SearchState}
use Rattle.search.specs.Stops.{IsOutcome}
use Rattle.engine.specs.declared.counts.Counts.{Counts}
use Rattle.engine.specs.declared.verdict.Held.{Held}
use Rattle.engine.specs.declared.verdict.Verdict.{Verdict}
use Rattle.engine.specs.Marks.{AreMarked}
use Rattle.engine.specs.Verdicts.{loser_of}

-- the rows of the open clauses that came in under a tag, in order
abbrev pub under : ℕ → List OpenClause → List Row
under tag cs = map (λ (c : OpenClause). c.row) (filter (λ (c : OpenClause). c.frame == tag) cs)

-- the clauses of the frame of a number, none where there is no such frame
abbrev pub frame_rows : List Frame → ℕ → List Row
frame_rows [] n = []
frame_rows (f ∷ frames) zero = f.clauses
frame_rows (f ∷ frames) (suc n) = frame_rows frames n

-- the clauses of the group of a number, none where it isn't active
abbrev pub active_rows : List Group → ℕ → List Row
active_rows groups n = if is_active groups n then clauses_at groups n else []

-- the tag of a group's clauses: behind the numbers of all frames that may be pushed
abbrev pub group_tag : ℕ → ℕ
group_tag n = max_pushed + 1 + n

-- the clauses that stand under a tag: those of the frame of this number, or of a group that is active
abbrev pub tagged_rows : OpenFormula → ℕ → List Row
tagged_rows formula tag =
    if nat_le tag max_pushed then frame_rows formula.frames tag
    else active_rows formula.groups (tag - (max_pushed + 1))

-- the tag under which a clause stands that is accepted now, if it is open: that of the top frame, or of the open group
-- where this is active
abbrev pub tag_for : OpenFormula → Option ℕ → Option ℕ
tag_for formula None = Some (depth formula.frames)
tag_for formula (Some n) = if is_active formula.groups n then Some (group_tag n) else None

abbrev pub joined_tag : OpenFormula → Option ℕ
joined_tag formula = tag_for formula formula.current

-- one more open clause under the tag, or none where there is no tag
abbrev pub AddsIn : Option ℕ → Row → List OpenClause → List OpenClause → Type 0
AddsIn None row old new = new ≡ old
AddsIn (Some tag) row old new = AddsClause tag row old new

-- A search is at rest, and under each tag its open clauses are those of the formula, in the same order, so that with
-- the top frame exactly its clauses go, and with a group that is made inactive exactly those of the group.
pub record AreTied (formula : OpenFormula) (s : SearchState) : Type 0 where
  pub resting : IsResting formula.scopes s
  pub frames : 1 ≤ length formula.frames
  pub few : depth formula.frames ≤ max_pushed
  pub rising : AreRising formula.groups
  pub clauses : (tag : ℕ) → under tag (clauses_of s.derivation) ≡ tagged_rows formula tag

-- what the search found of a verdict
abbrev pub outcome_of : Verdict → Outcome
outcome_of verdict = record { loser = loser_of verdict.truth; end = verdict.end }

-- a verdict is an outcome of the formula under these assumptions, which are of the first scope and ascend by variable
pub record IsFound (formula : OpenFormula) (d : State) (assumptions : List Literal) (verdict : Verdict) : Type 0 where
  pub outer : AreOuter formula.scopes assumptions
  pub ascending : IsAscending (variables_in assumptions)
  pub outcome : IsOutcome formula.scopes (open_clauses formula) assumptions d (outcome_of verdict)

-- a verdict is held with the assumptions that it was found under, and with those of them that its end's row mentions
pub record IsHeld (formula : OpenFormula) (d : State) (held : Held) : Type 0 where
  pub found : IsFound formula d held.assumed held.verdict
  pub relevant : held.relevant ≡ relevant_of held.assumed (row_of d held.verdict.end)

-- no finish is live but the end of the verdict that is held, and none where no verdict is
abbrev pub HasFinishesOf : Option Held → State → Type 0
HasFinishesOf None d = HasNoFinish d
HasFinishesOf (Some held) d = (id : ℕ) → IsFinishId d id → id ≡ held.verdict.end

-- What holds of an engine between calls. The counts allow the live reductions and one removal more, which is for the
-- finish; a verdict is of as many variables as were counted, or fewer; with a verdict few long learned rows are
-- attached beside those that its solve might keep; and what stood when a frame was pushed names no variable that came
-- later.
pub record IsEngine (formula : OpenFormula) (s : SearchState) (verdict : Option Held) (counts : Counts)
    (marks : List ℕ) : Type 0 where
  pub tied : AreTied formula s
  pub held : IfSome verdict (IsHeld formula s.derivation)
  pub finishes : HasFinishesOf verdict s.derivation
  pub cubes : counts.solves ≡ 0 → HasNoCubes s
  pub reductions : reductions_in s.derivation <
      removal_bound counts.clauses counts.solves counts.budget counts.restarts counts.vars
  pub variables : IfSome verdict (λ _. size_of formula.scopes ≤ counts.vars)
  pub long : IfSome verdict (λ held. long_in s.derivation ≤ held.kept + 1 + size_of formula.scopes)
  pub marked : AreMarked formula.frames marks formula.scopes s.derivation
