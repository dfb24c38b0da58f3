-- The fold over commands, which the replies to a script are defined over.
use Rattle.std.specs.Prelude.{ℕ, ◌+◌, Bool, if◌then◌else◌, List, [], ◌∷◌, length, Option, Some, None, max}
use Rattle.prefix.specs.Literal.{Literal}
use Rattle.prefix.specs.Scopes.{all_variables}
use Rattle.versions.specs.declared.version.Version.{Version}
use Rattle.versions.specs.declared.version.Version.TheVariants.{One}
use Rattle.frames.specs.declared.refusal.FrameRefusal.{FrameRefusal}
use Rattle.frames.specs.Groups.{clauses_at, is_active}
use Rattle.frames.specs.State.{OpenFormula, new_formula}
use Rattle.frames.specs.Commands.{Verdict, Stop, Command, AddScope, AddVariable, AddClause, Push, Pop, Assume, Solve, OpenGroup, CloseGroup, Activate, Deactivate, refusal_of, formula_after}

-- a truth, and the assumptions under which it was found
pub record Given : Type 0 where
  pub truth : Bool
  pub assumptions : List Literal

-- The formula, the verdict where no change came after it, how many clauses were accepted or came back with their group,
-- how many decisions were asked for, and the greatest number of variables at one.
pub record ScriptState : Type 0 where
  pub formula : OpenFormula
  pub verdict : Option Given
  pub clauses : ℕ
  pub solves : ℕ
  pub greatest : ℕ

-- the start of a script of a version
abbrev pub script_in : Version → ScriptState
script_in version = record { formula = new_formula version; verdict = None; clauses = 0; solves = 0; greatest = 0 }

-- the same in version 1
abbrev pub new_script : ScriptState
new_script = script_in One

-- A verdict is kept with the assumptions that it was found under. Everything else is a change, and then there is
-- none.
abbrev pub verdict_after : OpenFormula → Command → Option Given
verdict_after s (AddScope quant at) = None
verdict_after s (AddVariable var scope) = None
verdict_after s (AddClause clause) = None
verdict_after s Push = None
verdict_after s Pop = None
verdict_after s (Assume n) = None
verdict_after s (Solve (Verdict truth)) = Some (record { truth = truth; assumptions = s.assumptions })
verdict_after s (Solve Stop) = None
verdict_after s (OpenGroup n) = None
verdict_after s CloseGroup = None
verdict_after s (Activate n) = None
verdict_after s (Deactivate n) = None

-- how many clauses come back with a group: none where it is active
abbrev pub returning : OpenFormula → ℕ → ℕ
returning s n = if is_active s.groups n then 0 else length (clauses_at s.groups n)

abbrev pub counted : ScriptState → Command → ScriptState
counted s (AddScope quant at) = s
counted s (AddVariable var scope) = s
counted s (AddClause clause) = record s { clauses = s.clauses + 1 }
counted s Push = s
counted s Pop = s
counted s (Assume n) = s
counted s (Solve answer) = record s {
  solves = s.solves + 1;
  greatest = max s.greatest (length (all_variables s.formula.scopes));
}
counted s (OpenGroup n) = s
counted s CloseGroup = s
counted s (Activate n) = record s { clauses = s.clauses + returning s.formula n }
counted s (Deactivate n) = s

-- the state after an accepted command
abbrev pub accepted : ScriptState → Command → ScriptState
accepted s command = record (counted s command) {
  formula = formula_after s.formula command;
  verdict = verdict_after s.formula command;
}

-- a refused command changes nothing
abbrev pub unless_refused : Option FrameRefusal → ScriptState → ScriptState → ScriptState
unless_refused None old new = new
unless_refused (Some refusal) old new = old

abbrev pub state_after : ScriptState → Command → ScriptState
state_after s command = unless_refused (refusal_of s.formula command) s (accepted s command)

-- the state after commands, from one on
abbrev pub state_from : ScriptState → List Command → ScriptState
state_from s [] = s
state_from s (command ∷ commands) = state_from (state_after s command) commands

abbrev pub state_of : List Command → ScriptState
state_of commands = state_from new_script commands
