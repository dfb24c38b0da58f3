-- What is known of the work that a run does on its way to an ending: relations that private calls state.
use Rattle.std.specs.Prelude.{◌≡◌, ◌⊎◌, ℕ, Bool, List, [], Option, Some, IfSome}
use Rattle.std.specs.Io.KnownBytes.{Keeps}
use Rattle.ports.specs.Bytes.{AllFlushed}
use Rattle.ports.specs.Causes.{IsCounted}
use Rattle.command.specs.Forms.{Asks, HasNoForm, Text}
use Rattle.command.specs.declared.command.Command.{Command}
use Rattle.trail.specs.State.{Account}
use Rattle.files.specs.Checks.{IsFinished, LeavesCheck}
use Rattle.files.specs.Endings.{IsUnread}
use Rattle.files.specs.Inputs.{format_of}
use Rattle.files.specs.Inputs.Format.{as_formula}
use Rattle.files.specs.Jobs.{LeavesOutput}
use Rattle.session.specs.Scripts.{AreAnswered, IsScriptEnding}
use Rattle.solve.specs.Terms.{Terms}
use Rattle.solve.specs.Endings.{IsDone}
use Rattle.files.specs.Solve.{HasAnswer, IsEnding}
use Rattle.solve.specs.declared.ending.Ending.{Ending}
use Rattle.solve.specs.declared.ending.Ending.TheVariants.{Done, NoMemory, ReadFault, WriteFault}
use Rattle.files.specs.declared.job.Job.{Job}
use Rattle.samples.specs.Samples.{LeavesText}
use Rattle.program.specs.Asked.{Task, known_for, task_of}
use Rattle.program.specs.Asked.Task.{job_task, check_task, script_task, text_task}
use Rattle.program.specs.declared.ending.RunEnding.{RunEnding}
use Rattle.program.specs.declared.ending.RunEnding.TheVariants.{Worked, Usage}

-- What is known of the work of a job on a formula, or on a circuit, that an input holds. `output` is what stood on the
-- output and stands on it, `told` the list of stopped searches before and after.
pub record IsJobWork (job : Job) (terms : Terms) (known left : Option Text) (output : Option Text × Option Text)
    (told : List Account × List Account) (e : Ending) : Type 0 where
  pub ending : IfSome known (λ text. IsEnding (format_of job) terms text e)
  pub status : (s : ℕ) → e ≡ Done s → HasAnswer s
  pub read : IsDone e → IfSome known (λ text. left ≡ Some [])
  pub output_of : LeavesOutput job terms known output told e

-- What is known of the check of a certificate of the formula that an input holds.
pub record IsCheckWork (decide : Bool) (terms : Terms) (known left : Option Text) (output : Option Text × Option Text)
    (told : List Account × List Account) (e : Ending) : Type 0 where
  pub unread : IsUnread e → IfSome known (λ text. IsEnding as_formula terms text e)
  pub read : IsFinished e → IfSome known (λ text. left ≡ Some [])
  pub output_of : LeavesCheck decide terms known output told e

-- What is known of the work on a script that an input holds.
pub record IsReplied (terms : Terms) (known left : Option Text) (output : Option Text × Option Text)
    (told : List Account × List Account) (e : Ending) : Type 0 where
  pub ending : IfSome known (λ text. IsScriptEnding text e)
  pub status : (s : ℕ) → e ≡ Done s → s ≡ 0
  pub read : IsDone e → IfSome known (λ text. left ≡ Some [])
  pub answered : AreAnswered terms known output told e

-- What is known of the work on a text without an input.
pub record IsMade (text : Text) (output : Option Text × Option Text) (told : List Account × List Account) (e : Ending)
    : Type 0 where
  pub leaves : LeavesText text output.0 output.1 e
  pub none_told : told.1 ≡ told.0

-- what is known of the work on a task
abbrev pub IsWorkOf : Task → (known left : Option Text) (output : Option Text × Option Text)
    (told : List Account × List Account) → Ending → Type 0
IsWorkOf (job_task job terms input) known left output told e = IsJobWork job terms known left output told e
IsWorkOf (check_task decide terms input) known left output told e = IsCheckWork decide terms known left output told e
IsWorkOf (script_task terms input) known left output told e = IsReplied terms known left output told e
IsWorkOf (text_task text) known left output told e = IsMade text output told e

-- what is known of a run by its ending
abbrev pub Carried : (words : List Text) (content : Text → Option Text) (left : Option Text)
    (output : Option Text × Option Text) (told : List Account × List Account) → RunEnding → Type 0
Carried words content left output told (Usage text) =
    HasNoForm words × Keeps output.0 output.1 × (told.1 ≡ told.0)
Carried words content left output told (Worked e) =
    ((e ≡ NoMemory) × Keeps output.0 output.1 × (told.1 ≡ told.0))
    ⊎ ((c : Command) × Asks words c × IsWorkOf (task_of c) (known_for content (task_of c)) left output told e)

-- the work came to its end: an answer is written, or the circuit whose check formula goes beyond a limit
abbrev pub IsAtEnd : RunEnding → Type 0
IsAtEnd (Usage text) = ⊥
IsAtEnd (Worked e) = IsFinished e

-- What an ending owes to the outside, by what desks and sinks of these types tell. It is a read fault or a write fault
-- only where one was counted, never from a desk that is steady for the input or into a sink that has room for what is
-- written, and a good ending only where none was counted, and then all that is written is flushed.
pub record IsDue {D O : Type 0} (read_faults : D → ℕ) (written flushes : O → Option Text) (write_faults : O → ℕ)
    (is_steady is_roomy : Type 0) (desk : D × D) (out : O × O) (Ends : Ending → Type 0) (good : Type 0) : Type 0 where
  pub read_fault : IsCounted (Ends ReadFault) good (read_faults desk.0) (read_faults desk.1)
  pub write_fault : IsCounted (Ends WriteFault) good (write_faults out.0) (write_faults out.1)
  pub steady : is_steady → ¬ Ends ReadFault
  pub room : is_roomy → ¬ Ends WriteFault
  pub flushed : good → AllFlushed (written out.1) (flushes out.0) (flushes out.1)
