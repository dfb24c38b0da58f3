-- What the words of a run ask for.
use Rattle.std.specs.Prelude.{ℕ, ◌⊎◌, ⊤, Bool, List, Option, None, Some, IfSome, codes, length}
use Rattle.command.specs.Forms.{Asks, Text, name_in}
use Rattle.command.specs.declared.command.Command.{Command}
use Rattle.command.specs.declared.command.SolveForm.{SolveForm}
use Rattle.command.specs.declared.command.SolveForm.TheVariants.{Plain, Qdo, Qcir}
use Rattle.command.specs.declared.command.Command.TheVariants.{Read, Gen, Demo}
use Rattle.command.specs.declared.command.Input.{Input}
use Rattle.command.specs.declared.command.Verb.{Verb}
use Rattle.command.specs.declared.command.Verb.TheVariants.{Solve, Trace, Cert, Check, Script}
use Rattle.generate.specs.Made.{made}
use Rattle.qdimacs_out.specs.Texts.{formula_text}
use Rattle.samples.specs.Samples.{counts_text}
use Rattle.files.specs.Checks.{RoomForCheck}
use Rattle.files.specs.Inputs.{Format, format_of}
use Rattle.files.specs.Inputs.Format.{as_formula}
use Rattle.files.specs.Jobs.{RoomForJob}
use Rattle.session.specs.Scripts.{RoomForReplies}
use Rattle.solve.specs.Terms.{Terms, terms_of}
use Rattle.files.specs.declared.job.Job.{Job}
use Rattle.files.specs.declared.job.Job.TheVariants.{Solve as SolveJob, Qdo as QdoJob, Qcir as QcirJob, Trace as TraceJob, Cert as CertJob}

-- The name of the input: `-` is standard input.
abbrev pub input_name : Option Text → Text
input_name None = codes "-"
input_name (Some name) = name

-- The job of `solve`, without a flag, with `--qdo` or with `--qcir`.
abbrev pub solve_job : SolveForm → Job
solve_job Plain = SolveJob
solve_job Qdo = QdoJob
solve_job Qcir = QcirJob

-- What a command comes to: a job on the formula or circuit of an input, the check of a certificate of its formula,
-- replies to its script, or a text that is written without an input.
pub data Task : Type 0 where
  job_task : Job → Terms → (input : Text) → Task
  check_task : (decide : Bool) → Terms → (input : Text) → Task
  script_task : Terms → (input : Text) → Task
  text_task : Text → Task

-- The terms of a command's searches.
abbrev pub terms_in : Input → Terms
terms_in input = terms_of input.budget input.restarts input.kept

-- What a command comes to that reads an input.
abbrev pub task_on : Verb → Input → Task
task_on (Solve form) input = job_task (solve_job form) (terms_in input) (input_name (name_in input))
task_on Trace input = job_task TraceJob (terms_in input) (input_name (name_in input))
task_on (Cert binary trim) input = job_task (CertJob binary trim) (terms_in input) (input_name (name_in input))
task_on (Check decide) input = check_task decide (terms_in input) (input_name (name_in input))
task_on Script input = script_task (terms_in input) (input_name (name_in input))

-- What each command comes to.
abbrev pub task_of : Command → Task
task_of (Read verb input) = task_on verb input
task_of (Gen seed vars clauses) = text_task (formula_text (made seed vars clauses))
task_of (Demo seed count) = text_task (counts_text seed count)

-- What is known of the text of a task's input, where the desk tells.
abbrev pub known_for : (Text → Option Text) → Task → Option Text
known_for content (job_task job terms input) = content input
known_for content (check_task decide terms input) = content input
known_for content (script_task terms input) = content input
known_for content (text_task text) = None

-- The task is about one formula or circuit, and this is so of the format of its input, of its terms and of the text
-- that its input holds, where the desk tells.
abbrev pub OfFormula : Task → (Text → Option Text) → (Format → Terms → Text → Type 0) → Type 0
OfFormula (job_task job terms input) content P = IfSome (content input) (P (format_of job) terms)
OfFormula (check_task decide terms input) content P = IfSome (content input) (P as_formula terms)
OfFormula (script_task terms input) content P = ⊥
OfFormula (text_task text) content P = ⊥

-- The task is about a script, and this is so of both.
abbrev pub OfScript : Task → (Text → Option Text) → (Terms → Text → Type 0) → Type 0
OfScript (job_task job terms input) content P = ⊥
OfScript (check_task decide terms input) content P = ⊥
OfScript (script_task terms input) content P = IfSome (content input) (P terms)
OfScript (text_task text) content P = ⊥

-- The task is to check the certificate of one formula, and this is so of whether it decides the check formula, of its
-- terms and of that text.
abbrev pub OfCheckTask : Task → (Text → Option Text) → (Bool → Terms → Text → Type 0) → Type 0
OfCheckTask (job_task job terms input) content P = ⊥
OfCheckTask (check_task decide terms input) content P = IfSome (content input) (P decide terms)
OfCheckTask (script_task terms input) content P = ⊥
OfCheckTask (text_task text) content P = ⊥

-- The task has no input.
abbrev pub IsSample : Task → Type 0
IsSample (job_task job terms input) = ⊥
IsSample (check_task decide terms input) = ⊥
IsSample (script_task terms input) = ⊥
IsSample (text_task text) = ⊤

-- The words ask for a command about one formula or circuit, and this is so of format, terms and text.
abbrev pub Asked : List Text → (Text → Option Text) → (Format → Terms → Text → Type 0) → Type 0
Asked words content P = (c : Command) × Asks words c × OfFormula (task_of c) content P

-- The words ask for a script, and this is so of terms and text.
abbrev pub AskedScript : List Text → (Text → Option Text) → (Terms → Text → Type 0) → Type 0
AskedScript words content P = (c : Command) × Asks words c × OfScript (task_of c) content P

-- The words ask for a check of one formula's certificate, and this is so of it.
abbrev pub AskedCheck : List Text → (Text → Option Text) → (Bool → Terms → Text → Type 0) → Type 0
AskedCheck words content P = (c : Command) × Asks words c × OfCheckTask (task_of c) content P

-- The words ask for a command that makes formulas from a seed.
abbrev pub AskedSample : List Text → Type 0
AskedSample words = (c : Command) × Asks words c × IsSample (task_of c)

-- The words ask for a command about one formula or circuit of which the one is so, or for a script of which the other
-- is so.
abbrev pub AskedEither : List Text → (Text → Option Text) → (P : Format → Terms → Text → Type 0)
    → (Q : Terms → Text → Type 0) → Type 0
AskedEither words content P Q = Asked words content P ⊎ AskedScript words content Q

-- The same, or for a command without an input.
abbrev pub AskedAny : List Text → (Text → Option Text) → (P : Format → Terms → Text → Type 0)
    → (Q : Terms → Text → Type 0) → Type 0
AskedAny words content P Q = AskedEither words content P Q ⊎ AskedSample words

-- The desk is steady for a task's input, if it has one.
abbrev pub SteadyFor : Task → (Text → Type 0) → Type 0
SteadyFor (job_task job terms input) steady = steady input
SteadyFor (check_task decide terms input) steady = steady input
SteadyFor (script_task terms input) steady = steady input
SteadyFor (text_task text) steady = ⊤

-- The desk is steady for the input that the words ask for.
abbrev pub SteadyForInput : List Text → (Text → Type 0) → Type 0
SteadyForInput words steady = (c : Command) → Asks words c → SteadyFor (task_of c) steady

-- The output has room for each text that a task can write whose input is this text, where it is told.
abbrev pub RoomForTask : Task → Option Text → (ℕ → Type 0) → Type 0
RoomForTask (job_task job terms input) known has_room = RoomForJob job terms known has_room
RoomForTask (check_task decide terms input) known has_room = RoomForCheck decide terms known has_room
RoomForTask (script_task terms input) known has_room = RoomForReplies terms known has_room
RoomForTask (text_task text) known has_room = has_room (length text)

-- The output has room for all that the words and the input can have written.
abbrev pub RoomForOutput : List Text → (Text → Option Text) → (ℕ → Type 0) → Type 0
RoomForOutput words content has_room =
    (c : Command) → Asks words c → RoomForTask (task_of c) (known_for content (task_of c)) has_room
