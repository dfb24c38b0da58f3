-- The core of a false formula among its active groups.
use Rattle.std.specs.Prelude.{ℕ, Bool, true, false, if◌then◌else◌, List, [], ◌∷◌, Option, Some, None, ⊤}
use Rattle.prefix.specs.Literal.{Literal}
use Rattle.frames.specs.Groups.{Group}
use Rattle.frames.specs.State.{OpenFormula, clauses_in}
use Rattle.cores.specs.Cores.{Group as Part, IsCore as IsCoreOf, core_groups, core_numbers}
use Rattle.cores.specs.Trials.{IsTrialStop}
use Rattle.search.specs.declared.outcome.SolveStop.{SolveStop}
use Rattle.search.specs.declared.outcome.SolveStop.TheVariants.{Spent as SearchSpent, NoMemory as SearchWants}
use Rattle.engine.specs.declared.group_core.CoreRefusal.{CoreRefusal}
use Rattle.engine.specs.declared.group_core.CoreRefusal.TheVariants.{NoVerdict, NotUnsat, Spent, NoMemory}
use Rattle.engine.specs.State.{EngineState, VerdictState}

-- an active group with its clauses, and no group for another
abbrev pub parts_with : Group → List Part → List Part
parts_with g parts = if g.active then record { number = g.number; clauses = g.clauses } ∷ parts else parts

-- the active groups, by number
abbrev pub active_parts : List Group → List Part
active_parts [] = []
active_parts (g ∷ groups) = parts_with g (active_parts groups)

-- The groups of the core: one active group after the other is left out where the clauses outside groups, with those of
-- the others that are left, are false under the assumptions.
abbrev pub core_parts : OpenFormula → List Literal → List Part
core_parts formula assumptions =
    core_groups assumptions formula.scopes (clauses_in formula.frames) (active_parts formula.groups)

-- their numbers, which ascend
abbrev pub core_of : OpenFormula → List Literal → List ℕ
core_of formula assumptions =
    core_numbers assumptions formula.scopes (clauses_in formula.frames) (active_parts formula.groups)

-- with the groups of the core the formula is false, and without any one of them true; they are active
abbrev pub HasCore : OpenFormula → List Literal → Type 0
HasCore formula assumptions = IsCoreOf assumptions formula.scopes (clauses_in formula.frames)
    (active_parts formula.groups) (core_parts formula assumptions)

-- what refuses to tell a core: there is no verdict, or it is that the formula is true
abbrev pub verdict_refusal : Bool → Option CoreRefusal
verdict_refusal true = Some NotUnsat
verdict_refusal false = None

abbrev pub refused_by : Option VerdictState → Option CoreRefusal
refused_by None = Some NoVerdict
refused_by (Some v) = verdict_refusal v.truth

abbrev pub core_refusal : EngineState → Option CoreRefusal
core_refusal e = refused_by e.verdict

-- where it isn't refused, a core wants memory, or the budget is spent in a trial: in a search of the clauses outside
-- groups with those of some active groups
abbrev pub IsCoreStop : ℕ → ℕ → OpenFormula → List Literal → CoreRefusal → Type 0
IsCoreStop restarts budget formula assumptions NoVerdict = ⊥
IsCoreStop restarts budget formula assumptions NotUnsat = ⊥
IsCoreStop restarts budget formula assumptions (Spent stopped) = IsTrialStop restarts budget formula.scopes
    (clauses_in formula.frames) (active_parts formula.groups) assumptions (SearchSpent stopped)
IsCoreStop restarts budget formula assumptions NoMemory = ⊤

-- how a trial's stop is told
abbrev pub stopped_by : SolveStop → CoreRefusal
stopped_by (SearchSpent stopped) = Spent stopped
stopped_by SearchWants = NoMemory

-- the number that a reply tells; a spent budget and want of memory have none
abbrev pub core_number : CoreRefusal → Option ℕ
core_number NoVerdict = Some 50
core_number NotUnsat = Some 53
core_number (Spent stopped) = None
core_number NoMemory = None
