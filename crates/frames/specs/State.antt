-- The formula that commands build: scopes, frames and groups of clauses, and assumptions.
use Rattle.std.specs.Prelude.{ℕ, ◌-◌, ℤ, pos, negsuc, nat_abs, Bool, true, false, ◌==◌, nat_lt, if◌then◌else◌, List, [], ◌∷◌, ◌++◌, length, take, flat_map, Option, None}
use Rattle.prefix.specs.Literal.{Literal}
use Rattle.prefix.specs.Scopes.{Scope, without_variable}
use Rattle.calculus.specs.Rows.{Row, without}
use Rattle.versions.specs.declared.version.Version.{Version}
use Rattle.versions.specs.declared.version.Version.TheVariants.{One, Two, Three}
pub use Rattle.frames.specs.Groups.{Group, active_in, inactive_in}

-- What goes when a frame is popped: its clauses, and the variables that leave with it, in the order in which they were
-- added. In version 1, and of frame 0, no variable leaves.
pub record Frame : Type 0 where
  pub clauses : List Row
  pub variables : List ℕ

-- The formula. Frame 0 comes first and is always open; the others were pushed. The groups ascend by number, and one of
-- them may be open, which clauses then join. A clause stands as its row, and a tautology nowhere. The assumptions
-- ascend by variable.
pub record OpenFormula : Type 0 where
  pub version : Version
  pub scopes : List Scope
  pub frames : List Frame
  pub groups : List Group
  pub current : Option ℕ
  pub assumptions : List Literal

-- What contracts see of `Frames`: the formula and, where an accepted clause was the last command, the formula before
-- it.
pub record FramesState : Type 0 where
  pub formula : OpenFormula
  pub before : Option OpenFormula

abbrev pub empty_frame : Frame
empty_frame = record { clauses = []; variables = [] }

-- no scope, no clause, no group, frame 0 alone
abbrev pub new_formula : Version → OpenFormula
new_formula version = record {
  version = version;
  scopes = [];
  frames = empty_frame ∷ [];
  groups = [];
  current = None;
  assumptions = [];
}

-- the same in version 1
abbrev pub empty_formula : OpenFormula
empty_formula = new_formula One

-- the number of pushed frames
abbrev pub depth : List Frame → ℕ
depth frames = length frames - 1

-- the clauses of all open frames, those of frame 0 first
abbrev pub clauses_in : List Frame → List Row
clauses_in frames = flat_map (λ (f : Frame). f.clauses) frames

-- the clauses of the open formula: those of all open frames, and then those of the active groups
abbrev pub open_clauses : OpenFormula → List Row
open_clauses s = clauses_in s.frames ++ active_in s.groups

-- all clauses, those of the inactive groups too
abbrev pub all_clauses : OpenFormula → List Row
all_clauses s = open_clauses s ++ inactive_in s.groups

-- the variables that leave with the last of these frames
abbrev pub top_variables : List Frame → List ℕ
top_variables [] = []
top_variables (f ∷ []) = f.variables
top_variables (f ∷ g ∷ rest) = top_variables (g ∷ rest)

-- what the next pop removes
abbrev pub variables_on_top : OpenFormula → List ℕ
variables_on_top s = top_variables s.frames

-- how many literals the rows have in all
abbrev pub literals_in : List Row → ℕ
literals_in rows = length (flat_map (λ (row : Row). row) rows)

-- one more row in the top frame
abbrev pub with_row : Row → List Frame → List Frame
with_row row [] = []
with_row row (f ∷ []) = record f { clauses = f.clauses ++ row ∷ [] } ∷ []
with_row row (f ∷ g ∷ rest) = f ∷ with_row row (g ∷ rest)

-- one more variable that leaves with the top frame
abbrev pub with_leaving : ℕ → List Frame → List Frame
with_leaving v [] = []
with_leaving v (f ∷ []) = record f { variables = f.variables ++ v ∷ [] } ∷ []
with_leaving v (f ∷ g ∷ rest) = f ∷ with_leaving v (g ∷ rest)

-- whether a variable that is added leaves with the top frame: from version 2 on, where so many frames are pushed
abbrev pub leaves_in : Version → ℕ → Bool
leaves_in One n = false
leaves_in Two n = nat_lt 0 n
leaves_in Three n = nat_lt 0 n

abbrev pub with_variable : Version → ℕ → List Frame → List Frame
with_variable version v frames = if leaves_in version (depth frames) then with_leaving v frames else frames

-- one more frame
abbrev pub pushed : List Frame → List Frame
pushed frames = frames ++ empty_frame ∷ []

-- without the top frame
abbrev pub popped : List Frame → List Frame
popped frames = take (length frames - 1) frames

-- each of these variables taken out of its scope
abbrev pub without_variables : List ℕ → List Scope → List Scope
without_variables [] scopes = scopes
without_variables (v ∷ vs) scopes = without_variable v (without_variables vs scopes)

-- without the assumptions over these variables
abbrev pub without_assumed : List ℕ → List Literal → List Literal
without_assumed [] assumptions = assumptions
without_assumed (v ∷ vs) assumptions = without v (without_assumed vs assumptions)

abbrev pub is_positive : ℤ → Bool
is_positive (pos n) = true
is_positive (negsuc n) = false

-- the literal that a signed number stands for (QDIMACS 1.1, input format: literal)
abbrev pub literal_from : ℤ → Literal
literal_from n = record { variable = nat_abs n; positive = is_positive n }

-- a literal among assumptions, by variable and once
abbrev pub put_assumption : Literal → List Literal → List Literal
put_assumption l [] = l ∷ []
put_assumption l (m ∷ ms) =
    if nat_lt l.variable m.variable then l ∷ m ∷ ms
    else if l.variable == m.variable then m ∷ ms
    else m ∷ put_assumption l ms

-- the state after a command that can't be taken back
abbrev pub settled : OpenFormula → FramesState
settled formula = record { formula = formula; before = None }
