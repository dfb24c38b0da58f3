-- Tasks that words ask for.
use Rattle.std.proofs.Common.{◌≡◌, Bool, List, Option, sym, subst}
use Rattle.command.specs.Forms.{Asks, HasNoForm, Text}
use Rattle.command.specs.declared.command.Command.{Command}
use Rattle.files.specs.Inputs.{Format}
use Rattle.solve.specs.Terms.{Terms}
use Rattle.program.specs.Asked.{Asked, AskedCheck, AskedSample, AskedScript, IsSample, OfCheckTask, OfFormula, OfScript, Task, task_of}

-- the words ask for a command that comes to this task
abbrev pub AsksFor : List Text → Task → Type 0
AsksFor words task = (c : Command) × Asks words c × (task_of c ≡ task)

module _ (words : List Text) (task : Task) (asks : AsksFor words task) where
  -- so they have a form
  pub has_form : HasNoForm words → ⊥
  has_form none = none asks.0 asks.1

  -- what is so of the task is so of what the words ask for
  pub asked_formula : (content : Text → Option Text) (P : Format → Terms → Text → Type 0) → OfFormula task content P
      → Asked words content P
  asked_formula content P h = (asks.0, asks.1, subst (λ t. OfFormula t content P) (sym asks.2) h)

  pub asked_script : (content : Text → Option Text) (P : Terms → Text → Type 0) → OfScript task content P
      → AskedScript words content P
  asked_script content P h = (asks.0, asks.1, subst (λ t. OfScript t content P) (sym asks.2) h)

  pub asked_check : (content : Text → Option Text) (P : Bool → Terms → Text → Type 0) → OfCheckTask task content P
      → AskedCheck words content P
  asked_check content P h = (asks.0, asks.1, subst (λ t. OfCheckTask t content P) (sym asks.2) h)

  pub asked_sample : IsSample task → AskedSample words
  asked_sample h = (asks.0, asks.1, subst IsSample (sym asks.2) h)
