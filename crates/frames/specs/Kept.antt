-- How `Frames` is kept: the clauses of all open frames in one list, their variables that leave in another, for each
-- pushed frame how many of both came before it, and the groups apart.
use Rattle.std.specs.Prelude.{◌≡◌, ℕ, ◌-◌, ◌≤◌, Bool, List, [], ◌∷◌, length, ◌++◌, take, drop, map, Option, Some, None, ⊤}
use Rattle.std.specs.List.{AllByRecursion}
use Rattle.prefix.specs.Literal.{Literal}
use Rattle.prefix.specs.Scopes.{Scope, level_of}
use Rattle.calculus.specs.Rows.{Row, IsRow}
use Rattle.versions.specs.declared.version.Version.{Version}
use Rattle.frames.specs.declared.frames.Latest.{Latest}
use Rattle.frames.specs.declared.frames.Latest.TheVariants.{Other, LeftOut, Kept}
use Rattle.frames.specs.declared.frames.Start.{Start}
use Rattle.frames.specs.declared.total.Total.{Total}
use Rattle.frames.specs.State.{Frame, OpenFormula, FramesState, literals_in}
use Rattle.frames.specs.Commands.{max_pushed}
use Rattle.truth.specs.Limits.{max_clauses, max_literals}
use Rattle.frames.specs.Groups.{Group, clauses_at, grouped_in}
use Rattle.frames.specs.Leaving.{NamesNone}
use Rattle.frames.specs.Places.{GroupsState, without_last}

-- where frame 0 starts
abbrev pub at_first : Start
at_first = record { rows = 0; vars = 0 }

-- the frames of rows and variables that come after so many others
abbrev pub frames_from : Start → List Start → List Row → List ℕ → List Frame
frames_from base [] rows vars = record { clauses = rows; variables = vars } ∷ []
frames_from base (start ∷ starts) rows vars =
    record { clauses = take (start.rows - base.rows) rows; variables = take (start.vars - base.vars) vars }
    ∷ frames_from start starts (drop (start.rows - base.rows) rows) (drop (start.vars - base.vars) vars)

-- the starts of frames ascend, up to this end
abbrev pub AreStarts : Start → List Start → Start → Type 0
AreStarts base [] end = (base.rows ≤ end.rows) × (base.vars ≤ end.vars)
AreStarts base (start ∷ starts) end =
    (base.rows ≤ start.rows) × (base.vars ≤ start.vars) × AreStarts start starts end

-- the literals of assumed signs by variable
abbrev pub literals_of : List (ℕ × Bool) → List Literal
literals_of signs = map (λ (s : ℕ × Bool). record { variable = s.0; positive = s.1 }) signs

abbrev pub formula_of : Version → List Scope → List Start → List Row → List ℕ → GroupsState → List Literal → OpenFormula
formula_of version scopes starts rows vars groups assumptions = record {
  version = version;
  scopes = scopes;
  frames = frames_from at_first starts rows vars;
  groups = groups.groups;
  current = groups.current;
  assumptions = assumptions;
}

-- with one more row outside groups, if none is open
abbrev pub rows_with : Option ℕ → Row → List Row → List Row
rows_with None row rows = rows ++ row ∷ []
rows_with (Some n) row rows = rows

-- without the last row outside groups, if none is open
abbrev pub rows_before : Option ℕ → List Row → List Row
rows_before None rows = take (length rows - 1) rows
rows_before (Some n) rows = rows

-- the rows of the open group, or else those outside groups
abbrev pub last_in : Option ℕ → List Row → List Group → List Row
last_in None rows groups = rows
last_in (Some n) rows groups = clauses_at groups n

-- the formula before the last command, where that was an accepted clause
abbrev pub before_of : Latest → Version → List Scope → List Start → List Row → List ℕ → GroupsState → List Literal
    → Option OpenFormula
before_of Other version scopes starts rows vars groups assumptions = None
before_of LeftOut version scopes starts rows vars groups assumptions =
    Some (formula_of version scopes starts rows vars groups assumptions)
before_of Kept version scopes starts rows vars groups assumptions =
    Some (formula_of version scopes starts (rows_before groups.current rows) vars (without_last groups) assumptions)

abbrev pub state_of : Version → List Scope → List Start → List Row → List ℕ → GroupsState → List Literal → Latest
    → FramesState
state_of version scopes starts rows vars groups assumptions latest = record {
  formula = formula_of version scopes starts rows vars groups assumptions;
  before = before_of latest version scopes starts rows vars groups assumptions;
}

-- a row that may be taken back stands in the top frame
abbrev pub LeavesStarts : Latest → List Start → ℕ → ℕ → Type 0
LeavesStarts Other starts rows vars = ⊤
LeavesStarts LeftOut starts rows vars = ⊤
LeavesStarts Kept starts rows vars = (1 ≤ rows) × AreStarts at_first starts (record { rows = rows - 1; vars = vars })

-- the fields on frames belong together
pub record AreFrames (scopes : List Scope) (starts : List Start) (clauses : List Row) (vars : List ℕ) (last : Latest)
    : Type 0 where
  pub ascending : AreStarts at_first starts (record { rows = length clauses; vars = length vars })
  pub few_frames : length starts ≤ max_pushed
  pub rows : AllByRecursion (IsRow scopes) clauses
  pub latest : LeavesStarts last starts (length clauses) (length vars)

-- what the last command was to the clauses outside groups: none of them came in while a group is open
abbrev pub outside : Latest → Option ℕ → Latest
outside Other current = Other
outside LeftOut current = LeftOut
outside Kept None = Kept
outside Kept (Some n) = Other

-- a row that may be taken back from the open group stands in it
abbrev pub LeavesGroup : Latest → Option ℕ → List Group → Type 0
LeavesGroup Other current groups = ⊤
LeavesGroup LeftOut current groups = ⊤
LeavesGroup Kept None groups = ⊤
LeavesGroup Kept (Some n) groups = 1 ≤ length (clauses_at groups n)

-- no frame is pushed while a group is open
abbrev pub IsShallow : Option ℕ → List Start → Type 0
IsShallow None starts = ⊤
IsShallow (Some n) starts = starts ≡ []

-- the clauses of groups are rows over the prefix, and name no variable that leaves
pub record AreGrouped (scopes : List Scope) (starts : List Start) (vars : List ℕ) (groups : GroupsState)
    (last : Latest) : Type 0 where
  pub rows : AllByRecursion (IsRow scopes) (grouped_in groups.groups)
  pub names : AllByRecursion (NamesNone vars) (grouped_in groups.groups)
  pub shallow : IsShallow groups.current starts
  pub latest : LeavesGroup last groups.current groups.groups

-- so many rows, with so many literals in all
pub record IsTotal (total : Total) (rows : List Row) : Type 0 where
  pub clauses : total.clauses ≡ length rows
  pub literals : total.literals ≡ literals_in rows

-- all rows are counted, and no limit is passed
pub record AreCounted (total : Total) (rows : List Row) : Type 0 where
  pub counted : IsTotal total rows
  pub few_clauses : length rows ≤ max_clauses
  pub few_literals : literals_in rows ≤ max_literals

-- the assumptions are over variables of the first scope
abbrev pub AreAssumptions : List Scope → List Literal → Type 0
AreAssumptions scopes assumptions =
    AllByRecursion (λ (l : Literal). level_of scopes l.variable ≡ Some 1) assumptions

-- how many variables came before the last of these frames
abbrev pub last_vars : List Start → ℕ
last_vars [] = 0
last_vars (start ∷ []) = start.vars
last_vars (start ∷ next ∷ starts) = last_vars (next ∷ starts)
