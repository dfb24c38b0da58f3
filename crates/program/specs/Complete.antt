-- Valid inputs.
use Rattle.std.specs.Prelude.{◌≡◌, ℕ, ◌⊎◌, List, [], ◌∷◌, Contains, Option, IsSomeAnd, ⊤}
use Rattle.truth.specs.declared.formula.Formula.{Formula}
use Rattle.qdimacs.specs.Rules.{parsed}
use Rattle.qdimacs.specs.Reads.{Reads}
use Rattle.qscript.specs.Reads.{done}
use Rattle.qcir.specs.declared.circuit.Circuit.{Circuit}
use Rattle.qcir_reader.specs.Rules.{parsed as circuit}
use Rattle.qcir_reader.specs.Reads.{Reads as ReadsCircuit}
use Rattle.files.specs.Inputs.{Format, format_of}
use Rattle.files.specs.Inputs.Format.{as_circuit, as_formula}
use Rattle.command.specs.Forms.{Asks, Text}
use Rattle.command.specs.declared.command.Command.{Command}
use Rattle.program.specs.Asked.{AskedCheck, Task, task_of}
use Rattle.program.specs.Asked.Task.{job_task, check_task, script_task, text_task}
use Rattle.program.specs.Run.{EndsIn, IsLimitedCheck}

-- The text is told, and is a formula.
abbrev pub IsFormula : Option Text → Type 0
IsFormula known = IsSomeAnd known (λ text. (f : Formula) × Reads text (parsed f))

-- The text is told, and is a quantified circuit.
abbrev pub IsCircuitText : Option Text → Type 0
IsCircuitText known = IsSomeAnd known (λ text. (c : Circuit) × ReadsCircuit text (circuit c))

-- The text is told, and is one of the format.
abbrev pub IsOfFormat : Format → Option Text → Type 0
IsOfFormat as_formula known = IsFormula known
IsOfFormat as_circuit known = IsCircuitText known

-- The text is told, and is a script that ends well.
abbrev pub IsScript : Option Text → Type 0
IsScript known = IsSomeAnd known (λ text. EndsIn text done)

-- The input of a task is valid: a formula, a quantified circuit for `--qcir`, or a script that ends well; some tasks
-- have none.
abbrev pub IsValidFor : Task → (Text → Option Text) → Type 0
IsValidFor (job_task job terms input) content = IsOfFormat (format_of job) (content input)
IsValidFor (check_task decide terms input) content = IsFormula (content input)
IsValidFor (script_task terms input) content = IsScript (content input)
IsValidFor (text_task text) content = ⊤

-- The words are of a form, and the input that they ask for is valid.
pub record IsValid (words : List Text) (content : Text → Option Text) : Type 0 where
  pub command : Command
  pub asks : Asks words command
  pub valid : (c : Command) → Asks words c → IsValidFor (task_of c) content

-- The statuses of a valid input: those of answers, want of memory, and that of a check formula beyond a limit.
abbrev pub IsComplete : (words : List Text) (content : Text → Option Text) → ℕ → Type 0
IsComplete words content status =
    Contains (10 ∷ 20 ∷ 0 ∷ 5 ∷ []) status ⊎ ((status ≡ 6) × AskedCheck words content IsLimitedCheck)
