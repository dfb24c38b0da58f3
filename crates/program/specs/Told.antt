-- What a run writes, and what it tells of searches that stopped.
use Rattle.std.specs.Prelude.{◌≡◌, ◌≢◌, ◌⊎◌, ℕ, Bool, List, [], ◌∷◌, Contains, Option, Some, IfSome}
use Rattle.std.specs.Io.KnownBytes.{Appends, Keeps}
use Rattle.ports.specs.Bytes.{AllFlushed, AppendsFront}
use Rattle.ports.specs.Causes.{Rose}
use Rattle.qdimacs.specs.Reads.{Reads}
use Rattle.qdimacs.specs.Rules.{parsed}
use Rattle.truth.specs.declared.formula.Formula.{Formula}
use Rattle.trail.specs.State.{Account}
use Rattle.command.specs.Forms.{Asks, Text}
use Rattle.command.specs.declared.command.Command.{Command}
use Rattle.qscript.specs.declared.command.Command.{Command as ScriptCommand}
use Rattle.versions.specs.declared.version.Version.{Version}
use Rattle.qscript.specs.Reads.{Ending as ScriptEnding, ReadsScript}
use Rattle.solve.specs.declared.answer.Answer.{Answer}
use Rattle.session.specs.Replies.{Leads}
use Rattle.solve.specs.Outputs.{Output}
use Rattle.session.specs.Scripts.{AreFirst, start_in}
use Rattle.reading.specs.declared.refusal.Quantity.{Quantity}
use Rattle.files.specs.declared.check.Outcome.{Outcome}
use Rattle.files.specs.declared.check.Outcome.TheVariants.{Beyond}
use Rattle.solve.specs.declared.ending.Ending.TheVariants.{Done}
use Rattle.files.specs.Checks.{IsBeyond, IsCheckOn, check_ending}
use Rattle.files.specs.Inputs.Format.{as_formula}
use Rattle.files.specs.Jobs.{IsReplyOn}
use Rattle.files.specs.Solve.{HasAnswer, OfAnswer}
use Rattle.solve.specs.Standing.{Standing}
use Rattle.solve.specs.Terms.{Terms}
use Rattle.files.specs.declared.job.Job.{Job}
use Rattle.program.specs.Asked.{AskedCheck, AskedEither, Task, known_for, task_of}
use Rattle.program.specs.Asked.Task.{job_task, check_task, script_task, text_task}
use Rattle.program.specs.Run.{IsLimited, IsLimitedScript, check_limit_line}

-- What a job on a formula leaves on the output and tells: its reply with an answer, a front of one after a write fault,
-- and else nothing. With UNKNOWN an entry is told of its search, and else none. `written` is what stood on the output
-- and stands on it.
pub record IsJobOutput (job : Job) (terms : Terms) (known : Option Text) (written : Option Text × Option Text)
    (stops : List Account) (status : ℕ) : Type 0 where
  pub reply : HasAnswer status → OfAnswer status (λ answer. (text : Text)
      × IsReplyOn job terms known ([], stops) answer text × Appends written.0 written.1 text)
  pub front : status ≡ 4 → (answer : Answer) × (text : Text) × IsReplyOn job terms known ([], stops) answer text
      × AppendsFront written.0 written.1 text
  pub nothing : Contains (2 ∷ 3 ∷ 5 ∷ 6 ∷ []) status → Keeps written.0 written.1 × (stops ≡ [])

-- What a check of a certificate leaves on the output and tells: its text where it comes to an answer, or to a limit of
-- the check formula, a front of one after a write fault, and else nothing. With 6 nothing is there only where the input
-- itself goes beyond a limit.
pub record IsCheckOutput (decide : Bool) (terms : Terms) (known : Option Text) (written : Option Text × Option Text)
    (stops : List Account) (status : ℕ) : Type 0 where
  pub reply : HasAnswer status → (outcome : Outcome) × (text : Text) × (check_ending outcome ≡ Done status)
      × IsCheckOn decide terms known ([], stops) outcome text × Appends written.0 written.1 text
  pub limit : status ≡ 6
      → (IfSome known (IsLimited as_formula) × Keeps written.0 written.1 × (stops ≡ []))
      ⊎ ((quantity : Quantity) × (text : Text)
      × IsCheckOn decide terms known ([], stops) (Beyond quantity) text × Appends written.0 written.1 text)
  pub front : status ≡ 4 → (outcome : Outcome) × (text : Text)
      × IsCheckOn decide terms known ([], stops) outcome text × AppendsFront written.0 written.1 text
  pub nothing : Contains (2 ∷ 3 ∷ 5 ∷ []) status → Keeps written.0 written.1 × (stops ≡ [])

-- No fault was counted at the input and at the output, and all that stands on the output is flushed: `reads` and
-- `writes` are the counts of faults before and after, `flushed` what was flushed before and is.
pub record IsSound (reads writes : ℕ × ℕ) (written : Option Text) (flushed : Option Text × Option Text) : Type 0 where
  pub no_read_fault : reads.1 ≡ reads.0
  pub no_write_fault : writes.1 ≡ writes.0
  pub all_flushed : AllFlushed written flushed.0 flushed.1

-- The check formula of one circuit goes beyond a limit. Nothing is left of the input. That circuit is on the output,
-- and the line that names what there is too much of on the error output, `said`: a front of it, and all of it where no
-- fault was counted there.
pub record IsOneBeyond (terms : Terms) (left : Option Text) (written : Option Text × Option Text)
    (stops : List Account) (faults : ℕ × ℕ) (said : Option Text × Option Text) (input : Text) : Type 0 where
  pub formula : Formula
  pub reads : Reads input (parsed formula)
  pub quantity : Quantity
  pub text : Text
  pub beyond : IsBeyond terms formula quantity ([], stops) text
  pub whole_input : left ≡ Some []
  pub output : Appends written.0 written.1 text
  pub front : AppendsFront said.0 said.1 (check_limit_line quantity)
  pub whole : ¬ Rose faults.0 faults.1 → Appends said.0 said.1 (check_limit_line quantity)

-- What goes beyond a limit with status 6: the input, or the check formula of one circuit, and then `Sound` is so.
abbrev pub IsLimitOf : (words : List Text) (content : Text → Option Text) (left : Option Text)
    (written : Option Text × Option Text) (stops : List Account) (faults : ℕ × ℕ)
    (said : Option Text × Option Text) (Sound : Type 0) → Type 0
IsLimitOf words content left written stops faults said Sound =
    AskedEither words content (λ format terms text. IsLimited format text) (λ terms text. IsLimitedScript text)
    ⊎ (AskedCheck words content (λ decide terms text. IsOneBeyond terms left written stops faults said text) × Sound)

-- What a script leaves on the output: allowed replies to commands, all of them, or after a write fault a front of them.
-- The commands are the first of the text's script, by the version that its header names, if the text is told, and all
-- of them where it was read to its ending. What is told of searches is an entry for each UNKNOWN among the replies, in
-- their order.
pub record IsScriptOutput (terms : Terms) (known : Option Text) (written : Option Text × Option Text)
    (stops : List Account) (status : ℕ) : Type 0 where
  pub version : Option Version
  pub commands : List ScriptCommand
  pub out : Output
  pub after : Standing
  pub allowed : Leads terms (start_in version) commands out after
  pub first : IfSome known (λ text. AreFirst text version commands)
  pub all : Contains (0 ∷ 2 ∷ 6 ∷ []) status →
      IfSome known (λ text. (ending : ScriptEnding) × ReadsScript text version commands ending)
  pub front : AppendsFront written.0 written.1 out.text
  pub whole : status ≢ 4 → Appends written.0 written.1 out.text
  pub told : stops ≡ out.stops

-- What a command leaves on the output that makes formulas and writes this text: all of it, or after a write fault a
-- front of it; or nothing, for want of memory. No search is told of.
pub record IsSampleOutput (text : Text) (written : Option Text × Option Text) (stops : List Account) (status : ℕ)
    : Type 0 where
  pub whole : status ≡ 0 → Appends written.0 written.1 text
  pub front : status ≡ 4 → AppendsFront written.0 written.1 text
  pub nothing : status ≡ 5 → Keeps written.0 written.1
  pub none : stops ≡ []
  pub ends : Contains (0 ∷ 4 ∷ 5 ∷ []) status

-- what a task leaves on the output and tells, whose input is this text, where it is told
abbrev pub IsOutputOf : Task → (known : Option Text) (written : Option Text × Option Text)
    (stops : List Account) → ℕ → Type 0
IsOutputOf (job_task job terms input) known written stops status = IsJobOutput job terms known written stops status
IsOutputOf (check_task decide terms input) known written stops status =
    IsCheckOutput decide terms known written stops status
IsOutputOf (script_task terms input) known written stops status = IsScriptOutput terms known written stops status
IsOutputOf (text_task text) known written stops status = IsSampleOutput text written stops status

-- What a run leaves on the output and tells: what the command does that the words ask for. Nothing, where they ask for
-- none, or want of memory came before.
abbrev pub IsOutput : (words : List Text) (content : Text → Option Text) (written : Option Text × Option Text)
    (stops : List Account) → ℕ → Type 0
IsOutput words content written stops status =
    (Contains (5 ∷ 7 ∷ []) status × Keeps written.0 written.1 × (stops ≡ []))
    ⊎ ((c : Command) × Asks words c × IsOutputOf (task_of c) (known_for content (task_of c)) written stops status)
