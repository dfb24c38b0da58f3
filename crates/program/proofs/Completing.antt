-- A valid input is answered, where no fault comes and there is memory.
use Rattle.std.proofs.Common.{◌≡◌, inl, inr, ℕ, Bool, List, [], ◌∷◌, Option, None, Some, Contains, refl, sym, subst, ⊎_elim, arith}
use Rattle.std.specs.Prelude.{IfSome}
use Rattle.trail.specs.State.{Account}
use Rattle.command.specs.Forms.{Text}
use Rattle.qdimacs.specs.Rules.{parsed, refused, limit}
use Rattle.qcir_reader.specs.Rules.{parsed as circuit, refused as circuit_refused, limit as circuit_limit}
use Rattle.qscript.specs.declared.command.Command.{Command as ScriptCommand}
use Rattle.qscript.specs.Reads.{Ending as ScriptEnding, done, limit as script_limit, refused as script_refused}
use Rattle.solve.specs.declared.answer.Answer.TheVariants.{Sat, Unsat, Unknown}
use Rattle.session.specs.Scripts.{IsScriptEnding, IsScriptOf}
use Rattle.files.specs.Inputs.{Format, Says, format_of}
use Rattle.files.specs.Inputs.Format.{as_circuit, as_formula}
use Rattle.files.specs.Solve.{HasAnswer, IsEnding}
use Rattle.solve.specs.declared.ending.Ending.{Ending}
use Rattle.solve.specs.declared.ending.Ending.TheVariants.{Done, Refused, Limit, CheckLimit, ReadFault, WriteFault, NoMemory}
use Rattle.program.specs.declared.ending.RunEnding.{RunEnding}
use Rattle.program.specs.declared.ending.RunEnding.TheVariants.{Worked, Usage}
use Rattle.program.specs.Asked.{Task, known_for, task_of}
use Rattle.program.specs.Asked.Task.{job_task, check_task, script_task, text_task}
use Rattle.program.specs.Complete.{IsComplete, IsFormula, IsOfFormat, IsScript, IsValid, IsValidFor}
use Rattle.program.specs.Run.{status_of}
use Rattle.program.specs.Work.{Carried, IsCheckWork, IsMade, IsWorkOf}
use Rattle.qdimacs.proofs.Before.{one_outcome}
use Rattle.qcir_reader.proofs.Complete.{one_outcome as one_circuit}
use Rattle.qscript.proofs.Outcomes.{one_reading}
use Rattle.program.proofs.Asking.{AsksFor}
use Rattle.program.proofs.Checking.{beyond_some, check_status}
use Rattle.program.proofs.Solving.{Content}
use Rattle.solve.specs.Terms.{Terms}

-- the statuses of an input that is answered
abbrev pub Complete : ℕ → Type 0
Complete n = Contains (10 ∷ 20 ∷ 0 ∷ 5 ∷ []) n

answer_complete : (s : ℕ) → HasAnswer s → Complete s
answer_complete s (Sat, e) = (0, omega arith, sym e)
answer_complete s (Unsat, e) = (1, omega arith, sym e)
answer_complete s (Unknown, e) = (2, omega arith, sym e)

-- a command that makes formulas ends well
sample_complete : (text : Text) (output : Option Text × Option Text) (told : List Account × List Account) (f : Ending)
    → IsMade text output told f → (f ≡ WriteFault → ⊥) → Complete (status_of (Worked f))
sample_complete text output told (Done s) so write = (2, omega arith, sym so.leaves.0)
sample_complete text output told (Refused number at) so write = absurd so.leaves
sample_complete text output told (Limit quantity at) so write = absurd so.leaves
sample_complete text output told (CheckLimit quantity) so write = absurd so.leaves
sample_complete text output told ReadFault so write = absurd so.leaves
sample_complete text output told WriteFault so write = absurd (write refl)
sample_complete text output told NoMemory so write = (3, omega arith, refl)

unrefused : (format : Format) (known : Option Text) (number at : ℕ) → IsOfFormat format known
    → IfSome known (λ text. Says format text (refused number at)) → ⊥
unrefused as_formula None number at valid h = valid
unrefused as_formula (Some text) number at valid h =
    let same : parsed valid.0 ≡ refused number at = one_outcome text _ _ valid.1 h in cc
unrefused as_circuit None number at valid h = valid
unrefused as_circuit (Some text) number at valid h =
    let same : circuit valid.0 ≡ circuit_refused number at = one_circuit text _ _ valid.1 h in cc

unlimited : (format : Format) (known : Option Text) (quantity : _) (at : ℕ) → IsOfFormat format known
    → IfSome known (λ text. Says format text (limit quantity at)) → ⊥
unlimited as_formula None quantity at valid h = valid
unlimited as_formula (Some text) quantity at valid h =
    let same : parsed valid.0 ≡ limit quantity at = one_outcome text _ _ valid.1 h in cc
unlimited as_circuit None quantity at valid h = valid
unlimited as_circuit (Some text) quantity at valid h =
    let same : circuit valid.0 ≡ circuit_limit quantity at = one_circuit text _ _ valid.1 h in cc

some_told : (format : Format) (known : Option Text) → IsOfFormat format known → known ≡ None → ⊥
some_told as_formula None valid is = valid
some_told as_formula (Some text) valid is = absurd (let bad : Some text ≡ None = is in cc)
some_told as_circuit None valid is = valid
some_told as_circuit (Some text) valid is = absurd (let bad : Some text ≡ None = is in cc)

-- a formula is answered, and so is a circuit
formula_complete : (format : Format) (terms : Terms) (known : Option Text) → IsOfFormat format known → (f : Ending)
    → IfSome known (λ text. IsEnding format terms text f) → ((s : ℕ) → f ≡ Done s → HasAnswer s)
    → (f ≡ ReadFault → ⊥) → (f ≡ WriteFault → ⊥) → Complete (status_of (Worked f))
formula_complete format terms known valid (Done s) ending status read write = answer_complete s (status s refl)
formula_complete format terms known valid (Refused number at) ending status read write =
    absurd (unrefused format known number at valid ending)
formula_complete format terms known valid (Limit quantity at) ending status read write =
    absurd (unlimited format known quantity at valid ending)
formula_complete format terms None valid (CheckLimit quantity) ending status read write =
    absurd (some_told format None valid refl)
formula_complete format terms (Some text) valid (CheckLimit quantity) ending status read write = absurd ending
formula_complete format terms known valid ReadFault ending status read write = absurd (read refl)
formula_complete format terms known valid WriteFault ending status read write = absurd (write refl)
formula_complete format terms known valid NoMemory ending status read write = (3, omega arith, refl)

ends_well : (known : Option Text) → IsScript known → (e : ScriptEnding)
    → IfSome known (λ text. (cs : List ScriptCommand) × IsScriptOf text cs e) → done ≡ e
ends_well None valid e h = absurd valid
ends_well (Some text) valid e h = (one_reading text valid.1.0 h.1.0 valid.0 h.0 done e valid.1.1 h.1.1).2

-- a script that ends well is answered
script_complete : (known : Option Text) → IsScript known → (f : Ending)
    → IfSome known (λ text. IsScriptEnding text f) → ((s : ℕ) → f ≡ Done s → s ≡ 0)
    → (f ≡ ReadFault → ⊥) → (f ≡ WriteFault → ⊥) → Complete (status_of (Worked f))
script_complete known valid (Done s) ending status read write = (2, omega arith, sym (status s refl))
script_complete known valid (Refused number at) ending status read write =
    absurd (let same : done ≡ script_refused number at = ends_well known valid _ ending in cc)
script_complete None valid (Limit quantity at) ending status read write = absurd valid
script_complete (Some text) valid (Limit quantity at) ending status read write =
    absurd (let same : done ≡ script_limit at = ends_well (Some text) valid _ (ending.1, ending.2) in cc)
script_complete None valid (CheckLimit quantity) ending status read write = absurd valid
script_complete (Some text) valid (CheckLimit quantity) ending status read write = absurd ending
script_complete known valid ReadFault ending status read write = absurd (read refl)
script_complete known valid WriteFault ending status read write = absurd (write refl)
script_complete known valid NoMemory ending status read write = (3, omega arith, refl)

module _ (words : List Text) (content : Content) (left : Option Text) (output : Option Text × Option Text)
    (told : List Account × List Account) (valid : IsValid words content) where
  -- a check comes to an answer, or to a limit of its check formula
  check_complete : (decide : Bool) (terms : Terms) (input : Text) → AsksFor words (check_task decide terms input)
      → IsFormula (content input) → (f : Ending)
      → IsCheckWork decide terms (content input) left output told f → (f ≡ ReadFault → ⊥)
      → (f ≡ WriteFault → ⊥) → IsComplete words content (status_of (Worked f))
  check_complete decide terms input asks formula (Done s) so read write =
      inl (answer_complete s (check_status decide terms _ left output told (Done s) so s refl))
  check_complete decide terms input asks formula (Refused number at) so read write =
      absurd (unrefused as_formula _ number at formula (so.unread tt))
  check_complete decide terms input asks formula (Limit quantity at) so read write =
      absurd (unlimited as_formula _ quantity at formula (so.unread tt))
  check_complete decide terms input asks formula (CheckLimit quantity) so read write =
      let out = so.output_of in
      inr (
        refl,
        beyond_some words content left output told decide terms (check_task decide terms input)
            input asks (λ P h. h) (λ P h. h) quantity out.0 out.1,
      )
  check_complete decide terms input asks formula ReadFault so read write = absurd (read refl)
  check_complete decide terms input asks formula WriteFault so read write = absurd (write refl)
  check_complete decide terms input asks formula NoMemory so read write = inl (3, omega arith, refl)

  -- the input of a task that was asked for is valid
  valid_for : (t : Task) → AsksFor words t → IsValidFor t content
  valid_for t asks = subst (λ u. IsValidFor u content) asks.2 (valid.valid asks.0 asks.1)

  -- the work on a task
  by : (t : Task) (f : Ending) → AsksFor words t → IsWorkOf t (known_for content t) left output told f
      → (f ≡ ReadFault → ⊥) → (f ≡ WriteFault → ⊥) → IsComplete words content (status_of (Worked f))
  by (job_task job terms input) f asks so read write =
      inl (formula_complete (format_of job) terms _ (valid_for (job_task job terms input) asks) f so.ending so.status
      read write)
  by (check_task decide terms input) f asks so read write =
      check_complete decide terms input asks (valid_for (check_task decide terms input) asks) f so read write
  by (script_task terms input) f asks so read write =
      inl (script_complete _ (valid_for (script_task terms input) asks) f so.ending so.status read write)
  by (text_task text) f asks so read write = inl (sample_complete text output told f so write)

  pub complete : (e : RunEnding) → Carried words content left output told e → (e ≡ Worked ReadFault → ⊥)
      → (e ≡ Worked WriteFault → ⊥) → IsComplete words content (status_of e)
  complete (Usage text) carried read write = absurd (carried.0 valid.command valid.asks)
  complete (Worked f) carried read write =
      ⊎_elim (λ h. subst (λ g. IsComplete words content (status_of (Worked g))) (sym h.0)
      (inl (3, omega arith, refl)))
      (λ h. by (task_of h.0) f (h.0, h.1, refl) h.2 (λ is. read (subst (λ g. Worked f ≡ Worked g) is refl))
      (λ is. write (subst (λ g. Worked f ≡ Worked g) is refl))) carried
