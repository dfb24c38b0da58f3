-- What is known of the check of a certificate, by its status.
use Rattle.std.proofs.Common.{◌≡◌, ◌≢◌, ◌⊎◌, inl, inr, ℕ, Bool, true, false, List, [], ◌∷◌, Option, Some, refl, sym, subst, ⊎_elim, arith, ◌∙◌}
use Rattle.std.specs.Prelude.{IfSome}
use Rattle.std.specs.Io.KnownBytes.{Keeps}
use Rattle.truth.specs.declared.formula.Formula.{Formula}
use Rattle.trail.specs.State.{Account}
use Rattle.reading.specs.declared.refusal.Quantity.{Quantity}
use Rattle.qdimacs.specs.Reads.{Reads}
use Rattle.qdimacs.specs.Rules.{limit, parsed, refused}
use Rattle.command.specs.Forms.{HasNoForm, Text}
use Rattle.solve.specs.declared.answer.Answer.{Answer}
use Rattle.solve.specs.declared.answer.Answer.TheVariants.{Sat, Unsat, Unknown as Unanswered}
use Rattle.files.specs.declared.check.Outcome.{Outcome}
use Rattle.files.specs.declared.check.Outcome.TheVariants.{Unknown, Checked, Undecided, Beyond}
use Rattle.solve.specs.declared.ending.Ending.{Ending}
use Rattle.solve.specs.declared.ending.Ending.TheVariants.{Done, Refused, Limit, CheckLimit, ReadFault, WriteFault, NoMemory}
use Rattle.files.specs.declared.job.Job.TheVariants.{Solve as SolveJob}
use Rattle.ports.specs.Causes.{IsCounted}
use Rattle.files.specs.Checks.{IsCheck, IsCheckOn, IsFinished, OfCheck, check_ending}
use Rattle.files.specs.Inputs.{Format, Says}
use Rattle.files.specs.Inputs.Format.{as_formula}
use Rattle.solve.specs.Decisions.{answer_with}
use Rattle.solve.specs.Answers.{IsAnswerTo, IsShort, answer_status}
use Rattle.solve.specs.Endings.{IsDone}
use Rattle.files.specs.Solve.{HasAnswer, OfAnswer, Solves}
use Rattle.solve.specs.Terms.{Terms}
use Rattle.program.specs.declared.ending.RunEnding.TheVariants.{Worked}
use Rattle.program.specs.Asked.{Asked, AskedCheck, OfCheckTask, OfFormula, Task}
use Rattle.program.specs.Run.{IsCheckBeyond, IsErrorLine, IsLimited, IsLimitedCheck, IsRefused, IsUndecidedCheck, IsVerdict, line_of, status_of}
use Rattle.program.specs.Told.{IsCheckOutput}
use Rattle.program.specs.Work.{IsCheckWork}
use Rattle.program.proofs.Asking.{AsksFor, asked_check, asked_formula, has_form}
use Rattle.program.proofs.Solving.{Content, answer_line, answer_verdict, other_verdict, plain_line, plain_verdict, some_map}
use Rattle.program.proofs.Statuses.{absent, answer_absent, is_answer, no_answer}

-- the check formula of a certificate is to be decided, and the budget is short for it
abbrev IsShortCheck : Bool → Terms → Formula → Type 0
IsShortCheck decide terms f = (value : Bool) × OfCheck terms f value (λ g. (decide ≡ true) × IsShort terms g)

-- the status is that of a right answer, or 0 without one
abbrev IsAnsweredAs : Bool → Terms → Formula → ℕ → Type 0
IsAnsweredAs decide terms f s = ((a : Answer) × (s ≡ answer_status a) × IsAnswerTo terms f a)
    ⊎ ((s ≡ 0) × IsShortCheck decide terms f)

verdict_at : (decide : Bool) (terms : Terms) (f : Formula) (value : Bool) (P : Formula → Type 0) (s : ℕ)
    → answer_status (answer_with value) ≡ s → OfCheck terms f value P → IsAnsweredAs decide terms f s
verdict_at decide terms f true P s is check = inl (Sat, sym is, check.certified.right)
verdict_at decide terms f false P s is check = inl (Unsat, sym is, check.certified.right)

answered_as : (decide : Bool) (terms : Terms) (f : Formula) (stops : List Account × List Account) (outcome : Outcome)
    (text : Text) → IsCheck decide terms f stops outcome text → (s : ℕ) → check_ending outcome ≡ Done s
    → IsAnsweredAs decide terms f s
answered_as decide terms f stops Unknown text is s end =
    inl (Unanswered, (let same : 0 ≡ s = cc in sym same), is.short)
answered_as decide terms f stops (Checked value) text is s end =
    verdict_at decide terms f value _ s (let same : answer_status (answer_with value) ≡ s = cc in same) is
answered_as decide terms f stops Undecided text is s end =
    inr (
      (let same : 0 ≡ s = cc in sym same),
      (
        is.0,
        record {
          circuit = is.1.circuit;
          certified = is.1.certified;
          within = is.1.within;
          unsatisfiable = is.1.unsatisfiable;
          is = (is.1.is.asked, is.1.is.short);
        },
      ),
    )
answered_as decide terms f stops (Beyond quantity) text is s end =
    absurd (let bad : CheckLimit quantity ≡ Done s = end in cc)

of_value : (value : Bool) (s : ℕ) → answer_status (answer_with value) ≡ s → HasAnswer s
of_value true s is = (Sat, sym is)
of_value false s is = (Unsat, sym is)

has_answer : (outcome : Outcome) (s : ℕ) → check_ending outcome ≡ Done s → HasAnswer s
has_answer Unknown s end = (Unanswered, (let same : 0 ≡ s = cc in sym same))
has_answer (Checked value) s end = of_value value s (let same : answer_status (answer_with value) ≡ s = cc in same)
has_answer Undecided s end = (Unanswered, (let same : 0 ≡ s = cc in sym same))
has_answer (Beyond quantity) s end = absurd (let bad : CheckLimit quantity ≡ Done s = end in cc)

module _ (decide : Bool) (terms : Terms) (known left : Option Text) (output : Option Text × Option Text)
    (told : List Account × List Account) where
  abbrev Work : Ending → Type 0
  Work f = IsCheckWork decide terms known left output told f

  -- it ends with an answer's status, where it ends well
  pub check_status : (f : Ending) → Work f → (s : ℕ) → f ≡ Done s → HasAnswer s
  check_status (Done n) so s is =
      let out = so.output_of in
      subst HasAnswer (let same : n ≡ s = cc in same) (has_answer out.0 n out.2)
  check_status (Refused number at) so s is = absurd (let bad : Refused number at ≡ Done s = is in cc)
  check_status (Limit quantity at) so s is = absurd (let bad : Limit quantity at ≡ Done s = is in cc)
  check_status (CheckLimit quantity) so s is = absurd (let bad : CheckLimit quantity ≡ Done s = is in cc)
  check_status ReadFault so s is = absurd (let bad : ReadFault ≡ Done s = is in cc)
  check_status WriteFault so s is = absurd (let bad : WriteFault ≡ Done s = is in cc)
  check_status NoMemory so s is = absurd (let bad : NoMemory ≡ Done s = is in cc)

  module _ (empty : told.0 ≡ []) where
    -- where none was told before
    first_check : (outcome : Outcome) (text : Text) → IsCheckOn decide terms known told outcome text
        → IsCheckOn decide terms known ([], told.1) outcome text
    first_check outcome text h = subst (λ before. IsCheckOn decide terms known (before, told.1) outcome text) empty h

    quiet : (n : ℕ) → (HasAnswer n → ⊥) → n ≢ 4 → n ≢ 6 → Keeps output.0 output.1 × (told.1 ≡ told.0)
        → IsCheckOutput decide terms known output told.1 n
    quiet n none four six same = record {
      reply = λ h. absurd (none h);
      limit = λ h. absurd (six h);
      front = λ h. absurd (four h);
      nothing = λ _. (same.0, same.1 ∙ empty);
    }

    -- what it leaves on the output
    pub check_output : (f : Ending) → Work f → IsCheckOutput decide terms known output told.1 (status_of (Worked f))
    check_output (Done s) so =
        let out = so.output_of in
        let has : HasAnswer s = has_answer out.0 s out.2 in
        record {
          reply = λ _. (out.0, out.1, out.2, first_check out.0 out.1 out.3, out.4);
          limit = λ h. is_answer s 6 refl has h;
          front = λ h. is_answer s 4 refl has h;
          nothing = λ h. answer_absent (2 ∷ 3 ∷ 5 ∷ []) s refl refl refl has h;
        }
    check_output WriteFault so =
        let out = so.output_of in
        record {
          reply = λ h. no_answer 4 refl h;
          limit = λ h. absurd (omega (arith, h));
          front = λ _. (out.0, out.1, first_check out.0 out.1 out.2, out.3);
          nothing = λ h. absent (2 ∷ 3 ∷ 5 ∷ []) 4 refl h;
        }
    check_output (CheckLimit quantity) so =
        let out = so.output_of in
        record {
          reply = λ h. no_answer 6 refl h;
          limit = λ _. inr (quantity, out.0, first_check (Beyond quantity) out.0 out.1, out.2);
          front = λ h. absurd (omega (arith, h));
          nothing = λ h. absent (2 ∷ 3 ∷ 5 ∷ []) 6 refl h;
        }
    check_output (Refused number at) so =
        quiet 2 (λ h. no_answer 2 refl h) (λ e. omega (arith, e)) (λ e. omega (arith, e)) so.output_of
    check_output (Limit quantity at) so =
        let is : IfSome known (IsLimited as_formula) =
        some_map known (λ text. Reads text (limit quantity at)) (IsLimited as_formula) (λ text h. (quantity, at, h))
        (so.unread tt) in
        record {
          reply = λ h. no_answer 6 refl h;
          limit = λ _. inl (is, so.output_of.0, so.output_of.1 ∙ empty);
          front = λ h. absurd (omega (arith, h));
          nothing = λ h. absent (2 ∷ 3 ∷ 5 ∷ []) 6 refl h;
        }
    check_output ReadFault so =
        quiet 3 (λ h. no_answer 3 refl h) (λ e. omega (arith, e)) (λ e. omega (arith, e)) so.output_of
    check_output NoMemory so =
        quiet 5 (λ h. no_answer 5 refl h) (λ e. omega (arith, e)) (λ e. omega (arith, e)) so.output_of

module _ (words : List Text) (content : Content) (left : Option Text) (output : Option Text × Option Text)
    (told : List Account × List Account) (decide : Bool) (terms : Terms) (task : Task) (input : Text)
    (asks : AsksFor words task)
    (of : (P : Format → Terms → Text → Type 0) → IfSome (content input) (P as_formula terms)
    → OfFormula task content P)
    (of_check : (P : Bool → Terms → Text → Type 0) → IfSome (content input) (P decide terms)
    → OfCheckTask task content P) where
  -- what is so of the text is so of the input that was asked for
  asked : (P : Format → Terms → Text → Type 0) → IfSome (content input) (P as_formula terms)
      → Asked words content P
  asked P h = asked_formula words task asks content P (of P h)

  asked_of_check : (P : Bool → Terms → Text → Type 0) → IfSome (content input) (P decide terms)
      → AskedCheck words content P
  asked_of_check P h = asked_check words task asks content P (of_check P h)

  some_form : HasNoForm words → ⊥
  some_form none = has_form words task asks none

  abbrev Works : Ending → Type 0
  Works f = IsCheckWork decide terms (content input) left output told f

  -- neither an answer to the formula nor one to its check formula
  undecided : (s : ℕ) → s ≡ 0 → AskedCheck words content IsUndecidedCheck → IsVerdict words content s
  undecided s zero_is short = record {
    sat = λ h. absurd (omega (arith, h, zero_is));
    unsat = λ h. absurd (omega (arith, h, zero_is));
    unknown = λ _. inr short;
    slow = λ _. inr short;
    solved = λ _. inr (zero_is, short);
    refused = λ h. absurd (omega (arith, h, zero_is));
    limit = λ h. absurd (omega (arith, h, zero_is));
    usage = λ h. absurd (omega (arith, h, zero_is));
    unasked = λ none. absurd (some_form none);
  }

  done_verdict : (outcome : Outcome) (text : Text) (s : ℕ) → check_ending outcome ≡ Done s
      → IsCheckOn decide terms (content input) told outcome text → IsVerdict words content s
  done_verdict outcome text s end on =
      ⊎_elim (λ a. answer_verdict words content left output told SolveJob terms task input asks of s (has_answer
      outcome s end)
      (some_map (content input) (λ bytes. Reads bytes (parsed on.formula))
      (λ bytes. OfAnswer s (Solves as_formula terms bytes))
      (λ bytes reads. (a.0, a.1, (on.formula, reads, a.2))) on.read))
      (λ u. undecided s u.0 (asked_of_check IsUndecidedCheck
      (some_map (content input) (λ bytes. Reads bytes (parsed on.formula)) (IsUndecidedCheck decide terms)
      (λ bytes reads. (on.formula, reads, u.1.0, u.1.1)) on.read)))
      (answered_as decide terms on.formula told outcome text on.is s end)

  -- a limit of the check formula
  beyond : (quantity : Quantity) (text : Text)
      → IsCheckOn decide terms (content input) told (Beyond quantity) text
      → AskedCheck words content (IsCheckBeyond quantity)
  beyond quantity text on = asked_of_check (IsCheckBeyond quantity)
      (some_map (content input) (λ bytes. Reads bytes (parsed on.formula)) (IsCheckBeyond quantity decide terms)
      (λ bytes reads. (on.formula, reads, on.is.value, on.is.circuit, on.is.certified, on.is.limit)) on.read)

  pub beyond_some : (quantity : Quantity) (text : Text)
      → IsCheckOn decide terms (content input) told (Beyond quantity) text
      → AskedCheck words content IsLimitedCheck
  beyond_some quantity text on = asked_of_check IsLimitedCheck
      (some_map (content input) (λ bytes. Reads bytes (parsed on.formula)) (IsLimitedCheck decide terms)
      (λ bytes reads. (quantity, (on.formula, reads, on.is.value, on.is.circuit, on.is.certified, on.is.limit)))
      on.read)

  pub check_verdict : (f : Ending) → Works f → IsVerdict words content (status_of (Worked f))
  check_verdict (Done s) so =
      let out = so.output_of in done_verdict out.0 out.1 s out.2 out.3
  check_verdict (Refused number at) so =
      other_verdict words content 2 refl
      (λ _. inl (asked (λ format n text. IsRefused format text)
      (some_map _ (λ text. Reads text (refused number at)) (IsRefused as_formula) (λ text h. (number, at, h))
      (so.unread tt))))
      (λ e. absurd (omega (arith, e))) (λ e. absurd (omega (arith, e))) (λ none. absurd (some_form none))
  check_verdict (Limit quantity at) so =
      other_verdict words content 6 refl (λ e. absurd (omega (arith, e)))
      (λ _. inl (inl (asked (λ format n text. IsLimited format text)
      (some_map _ (λ text. Reads text (limit quantity at)) (IsLimited as_formula) (λ text h. (quantity, at, h))
      (so.unread tt)))))
      (λ e. absurd (omega (arith, e))) (λ none. absurd (some_form none))
  check_verdict (CheckLimit quantity) so =
      let out = so.output_of in
      other_verdict words content 6 refl (λ e. absurd (omega (arith, e))) (λ _. inr (beyond_some quantity out.0 out.1))
      (λ e. absurd (omega (arith, e))) (λ none. absurd (some_form none))
  check_verdict ReadFault so =
      plain_verdict words content 3 refl (λ e. omega (arith, e)) (λ e. omega (arith, e)) (λ e. omega (arith, e))
      some_form
  check_verdict WriteFault so =
      plain_verdict words content 4 refl (λ e. omega (arith, e)) (λ e. omega (arith, e)) (λ e. omega (arith, e))
      some_form
  check_verdict NoMemory so =
      plain_verdict words content 5 refl (λ e. omega (arith, e)) (λ e. omega (arith, e)) (λ e. omega (arith, e))
      some_form

  pub check_error : (f : Ending) → Works f → IsErrorLine words content (status_of (Worked f)) (line_of (Worked f))
  check_error (Done s) so =
      let out = so.output_of in answer_line words content s (has_answer out.0 s out.2)
  check_error (Refused number at) so = record {
    refused = λ _.
        (number, at, refl, inl (asked (λ format n text. Says format text (refused number at)) (so.unread tt)));
    limit = λ h. absurd (omega (arith, h));
    other = λ n _ _. absurd (n refl);
  }
  check_error (Limit quantity at) so = record {
    refused = λ h. absurd (omega (arith, h));
    limit = λ _. inl
        (quantity, at, refl, inl (asked (λ format n text. Says format text (limit quantity at)) (so.unread tt)));
    other = λ _ n _. absurd (n refl);
  }
  check_error (CheckLimit quantity) so =
      let out = so.output_of in
      record {
        refused = λ h. absurd (omega (arith, h));
        limit = λ _. inr (quantity, refl, beyond quantity out.0 out.1);
        other = λ _ n _. absurd (n refl);
      }
  check_error ReadFault so = plain_line words content 3 _ (λ e. omega (arith, e)) (λ e. omega (arith, e)) refl
  check_error WriteFault so = plain_line words content 4 _ (λ e. omega (arith, e)) (λ e. omega (arith, e)) refl
  check_error NoMemory so = plain_line words content 5 _ (λ e. omega (arith, e)) (λ e. omega (arith, e)) refl

  pub check_reads : (f : Ending) → Works f → HasAnswer (status_of (Worked f))
      → Asked words content (λ format n text. left ≡ Some [])
  check_reads (Done s) so h = asked (λ format n text. left ≡ Some []) (so.read tt)
  check_reads (Refused number at) so h = no_answer 2 refl h
  check_reads (Limit quantity at) so h = no_answer 6 refl h
  check_reads (CheckLimit quantity) so h = no_answer 6 refl h
  check_reads ReadFault so h = no_answer 3 refl h
  check_reads WriteFault so h = no_answer 4 refl h
  check_reads NoMemory so h = no_answer 5 refl h

-- what is finished is done, where it is no limit of a check formula
pub finished_done : (e : Ending) → ((quantity : Quantity) → e ≡ CheckLimit quantity → ⊥) → IsFinished e → IsDone e
finished_done (Done status) none finished = tt
finished_done (Refused number line) none finished = finished
finished_done (Limit quantity line) none finished = finished
finished_done (CheckLimit quantity) none finished = absurd (none quantity refl)
finished_done ReadFault none finished = finished
finished_done WriteFault none finished = finished
finished_done NoMemory none finished = finished

pub finished_counted : (fault : Type 0) (e : Ending) (before now : ℕ)
    → ((quantity : Quantity) → e ≡ CheckLimit quantity → ⊥) → IsCounted fault (IsDone e) before now
    → IsCounted fault (IsFinished e) before now
finished_counted fault e before now none counted = record {
  later = counted.later;
  rose = counted.rose;
  kept = λ finished. counted.kept (finished_done e none finished);
}
