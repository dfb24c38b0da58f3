-- What is known of the work of a command that makes formulas, by its status.
use Rattle.std.proofs.Common.{◌≡◌, ◌≢◌, ◌≤◌, inl, inr, ℕ, List, [], Option, refl, sym, subst, arith, ◌∙◌}
use Rattle.ports.specs.Bytes.{AllFlushed}
use Rattle.ports.specs.Causes.{IsCounted}
use Rattle.reading.specs.declared.refusal.Quantity.{Quantity}
use Rattle.trail.specs.State.{Account}
use Rattle.command.specs.Forms.{HasNoForm, Text}
use Rattle.solve.specs.declared.ending.Ending.{Ending}
use Rattle.solve.specs.declared.ending.Ending.TheVariants.{Done, Refused, Limit, CheckLimit, ReadFault, WriteFault, NoMemory}
use Rattle.program.specs.declared.ending.RunEnding.TheVariants.{Worked}
use Rattle.program.specs.Asked.{AskedSample}
use Rattle.program.specs.Asked.Task.{text_task}
use Rattle.program.specs.Run.{IsErrorLine, IsVerdict, line_of, status_of}
use Rattle.program.specs.Told.{IsSampleOutput}
use Rattle.samples.specs.Samples.{LeavesText}
use Rattle.solve.specs.Endings.{IsDone}
use Rattle.files.specs.Checks.{IsFinished}
use Rattle.program.specs.Work.{IsDue, IsMade}
use Rattle.program.proofs.Asking.{AsksFor, asked_sample, has_form}
use Rattle.program.proofs.Checking.{finished_counted, finished_done}
use Rattle.program.proofs.Solving.{Content, plain_line, plain_verdict}

module _ (text : Text) (output : Option Text × Option Text) (told : List Account × List Account) where
  -- such a command that ends well does so with 0
  pub sample_status : (f : Ending) → IsMade text output told f → (s : ℕ) → f ≡ Done s → s ≡ 0
  sample_status (Done n) so s is = (let same : n ≡ s = cc in sym same) ∙ so.leaves.0
  sample_status (Refused number at) so s is = absurd so.leaves
  sample_status (Limit quantity at) so s is = absurd so.leaves
  sample_status (CheckLimit quantity) so s is = absurd so.leaves
  sample_status ReadFault so s is = absurd so.leaves
  sample_status WriteFault so s is = absurd (let same : WriteFault ≡ Done s = is in cc)
  sample_status NoMemory so s is = absurd (let same : NoMemory ≡ Done s = is in cc)

  pub sample_output : told.0 ≡ [] → (f : Ending) → IsMade text output told f
      → IsSampleOutput text output told.1 (status_of (Worked f))
  sample_output empty (Done s) so =
      let zero_is : s ≡ 0 = so.leaves.0 in
      record {
        whole = λ _. so.leaves.1;
        front = λ h. absurd (omega (arith, h, zero_is));
        nothing = λ h. absurd (omega (arith, h, zero_is));
        none = so.none_told ∙ empty;
        ends = (0, omega arith, sym zero_is);
      }
  sample_output empty (Refused number at) so = absurd so.leaves
  sample_output empty (Limit quantity at) so = absurd so.leaves
  sample_output empty (CheckLimit quantity) so = absurd so.leaves
  sample_output empty ReadFault so = absurd so.leaves
  sample_output empty WriteFault so = record {
    whole = λ h. absurd (omega (arith, h));
    front = λ _. so.leaves;
    nothing = λ h. absurd (omega (arith, h));
    none = so.none_told ∙ empty;
    ends = (1, omega arith, refl);
  }
  sample_output empty NoMemory so = record {
    whole = λ h. absurd (omega (arith, h));
    front = λ h. absurd (omega (arith, h));
    nothing = λ _. so.leaves;
    none = so.none_told ∙ empty;
    ends = (2, omega arith, refl);
  }

module _ (words : List Text) (content : Content) (output : Option Text × Option Text)
    (told : List Account × List Account) (text : Text) where
  -- a command of that kind that ends well
  well : (s : ℕ) → s ≡ 0 → AskedSample words → (HasNoForm words → ⊥) → IsVerdict words content s
  well s zero_is asked some_form = record {
    sat = λ h. absurd (omega (arith, h, zero_is));
    unsat = λ h. absurd (omega (arith, h, zero_is));
    unknown = λ _. inl (inr asked);
    slow = λ _. inl (inr asked);
    solved = λ _. inl (inr asked);
    refused = λ h. absurd (omega (arith, h, zero_is));
    limit = λ h. absurd (omega (arith, h, zero_is));
    usage = λ h. absurd (omega (arith, h, zero_is));
    unasked = λ none. absurd (some_form none);
  }

  pub sample_verdict : AsksFor words (text_task text) → (f : Ending) → IsMade text output told f
      → IsVerdict words content (status_of (Worked f))
  sample_verdict asks (Done s) so = well s so.leaves.0 (asked_sample words (text_task text) asks tt)
      (has_form words (text_task text) asks)
  sample_verdict asks (Refused number at) so = absurd so.leaves
  sample_verdict asks (Limit quantity at) so = absurd so.leaves
  sample_verdict asks (CheckLimit quantity) so = absurd so.leaves
  sample_verdict asks ReadFault so = absurd so.leaves
  sample_verdict asks WriteFault so =
      plain_verdict words content 4 refl (λ e. omega (arith, e)) (λ e. omega (arith, e)) (λ e. omega (arith, e))
      (has_form words (text_task text) asks)
  sample_verdict asks NoMemory so =
      plain_verdict words content 5 refl (λ e. omega (arith, e)) (λ e. omega (arith, e)) (λ e. omega (arith, e))
      (has_form words (text_task text) asks)

  pub sample_line : (f : Ending) → IsMade text output told f
      → IsErrorLine words content (status_of (Worked f)) (line_of (Worked f))
  sample_line (Done s) so =
      subst (λ n. IsErrorLine words content n []) (sym so.leaves.0)
      (plain_line words content 0 [] (λ e. omega (arith, e)) (λ e. omega (arith, e)) refl)
  sample_line (Refused number at) so = absurd so.leaves
  sample_line (Limit quantity at) so = absurd so.leaves
  sample_line (CheckLimit quantity) so = absurd so.leaves
  sample_line ReadFault so = absurd so.leaves
  sample_line WriteFault so = plain_line words content 4 _ (λ e. omega (arith, e)) (λ e. omega (arith, e)) refl
  sample_line NoMemory so = plain_line words content 5 _ (λ e. omega (arith, e)) (λ e. omega (arith, e)) refl

-- what such a command owes to the outside: it reads nothing
module _ {D O : Type 0} (read_faults : D → ℕ) (written flushes : O → Option Text) (write_faults : O → ℕ)
    (is_steady is_roomy : Type 0) (desk : D) (old new : O) (text : Text) (e : Ending)
    (leaves : LeavesText text (written old) (written new) e) where
  no_check : (quantity : Quantity) → e ≡ CheckLimit quantity → ⊥
  no_check quantity is = subst (LeavesText text (written old) (written new)) is leaves

  pub made_due : IsCounted (e ≡ WriteFault) (IsDone e) (write_faults old) (write_faults new)
      → (is_roomy → e ≢ WriteFault) → (IsDone e → AllFlushed (written new) (flushes old) (flushes new))
      → IsDue read_faults written flushes write_faults is_steady is_roomy (desk, desk) (old, new) (λ f. e ≡ f)
      (IsFinished e)
  made_due counted room flushed = record {
    read_fault = record {
      later = let same : read_faults desk ≤ read_faults desk = omega arith in same;
      rose = λ is. absurd (subst (LeavesText text (written old) (written new)) is leaves);
      kept = λ _. refl;
    };
    write_fault = finished_counted (e ≡ WriteFault) e (write_faults old) (write_faults new) no_check counted;
    steady = λ steady is. subst (LeavesText text (written old) (written new)) is leaves;
    room = room;
    flushed = λ finished. flushed (finished_done e no_check finished);
  }
