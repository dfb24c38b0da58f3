-- What is known of the work on a formula, by its status.
use Rattle.std.proofs.Common.{◌≡◌, ◌≢◌, ◌⊎◌, inl, ℕ, Bool, true, false, List, [], ◌∷◌, Option, None, Some, Contains, refl, sym, subst, arith, ◌∙◌}
use Rattle.std.specs.Prelude.{IfSome}
use Rattle.std.specs.Io.KnownBytes.{Keeps}
use Rattle.truth.specs.declared.formula.Formula.{Formula}
use Rattle.truth.specs.Truth.{truth}
use Rattle.trail.specs.State.{Account}
use Rattle.qdimacs.specs.Rules.{parsed, refused, limit}
use Rattle.command.specs.Forms.{HasNoForm, Text}
use Rattle.solve.specs.declared.answer.Answer.{Answer}
use Rattle.solve.specs.declared.answer.Answer.TheVariants.{Sat, Unsat, Unknown}
use Rattle.solve.specs.Answers.{answer_status, IsAnswerTo, IsShort}
use Rattle.files.specs.Solve.{HasAnswer, OfAnswer, Solves}
use Rattle.files.specs.Inputs.{Format, Says, format_of}
use Rattle.files.specs.Inputs.Format.{as_circuit, as_formula}
use Rattle.files.specs.Jobs.{IsReplyOn}
use Rattle.solve.specs.declared.ending.Ending.{Ending}
use Rattle.solve.specs.declared.ending.Ending.TheVariants.{Done, Refused, Limit, CheckLimit, ReadFault, WriteFault, NoMemory}
use Rattle.files.specs.declared.job.Job.{Job}
use Rattle.program.specs.declared.ending.RunEnding.TheVariants.{Worked}
use Rattle.program.specs.Asked.{Asked, AskedCheck, AskedEither, OfFormula, Task}
use Rattle.program.specs.Run.{HasTruth, IsBeyond, IsErrorLine, IsLimited, IsLimitedCheck, IsLimitedScript, IsRefused, IsRefusedScript, IsSlow, IsVerdict, line_of, status_of, fixed_line}
use Rattle.program.specs.Told.{IsJobOutput}
use Rattle.program.specs.Work.{IsJobWork}
use Rattle.program.proofs.Asking.{AsksFor, asked_formula, has_form}
use Rattle.program.proofs.Statuses.{absent, answer_absent, answers, is_among, is_answer, no_answer}
use Rattle.solve.specs.Terms.{Terms}

abbrev pub Content : Type 0
Content = Text → Option Text

-- what follows from the text, follows where it is told
pub some_map : (known : Option Text) (P Q : Text → Type 0) → ((text : Text) → P text → Q text) → IfSome known P
    → IfSome known Q
some_map None P Q f h = tt
some_map (Some text) P Q f h = f text h

-- what the statuses of answers say of a formula
is_true : (terms : Terms) (f : Formula) (a : Answer) → IsAnswerTo terms f a → 10 ≡ answer_status a
    → truth f.prefix f.clauses ≡ true
is_true terms f Sat e at = e
is_true terms f Unsat e at = absurd (omega (arith, at))
is_true terms f Unknown e at = absurd (omega (arith, at))

is_false : (terms : Terms) (f : Formula) (a : Answer) → IsAnswerTo terms f a → 20 ≡ answer_status a
    → truth f.prefix f.clauses ≡ false
is_false terms f Sat e at = absurd (omega (arith, at))
is_false terms f Unsat e at = e
is_false terms f Unknown e at = absurd (omega (arith, at))

is_short : (terms : Terms) (f : Formula) (a : Answer) → IsAnswerTo terms f a → 0 ≡ answer_status a → IsShort terms f
is_short terms f Sat e at = absurd (omega (arith, at))
is_short terms f Unsat e at = absurd (omega (arith, at))
is_short terms f Unknown e at = e

-- a formula's truth is that of the text that says it, which may be a circuit
truth_of : (format : Format) (text : Text) (f : Formula) (value : Bool) → Says format text (parsed f)
    → truth f.prefix f.clauses ≡ value → HasTruth format text value
truth_of as_formula text f value reads e = (f, reads, e)
truth_of as_circuit text f value reads e = (reads.source, reads.read, sym reads.same_truth ∙ e)

true_of : (format : Format) (terms : Terms) (s : ℕ) → s ≡ 10 → (text : Text)
    → OfAnswer s (Solves format terms text) → HasTruth format text true
true_of format terms s is text (a, at, (f, reads, e)) =
    truth_of format text f true reads (is_true terms f a e (sym is ∙ at))

false_of : (format : Format) (terms : Terms) (s : ℕ) → s ≡ 20 → (text : Text)
    → OfAnswer s (Solves format terms text) → HasTruth format text false
false_of format terms s is text (a, at, (f, reads, e)) =
    truth_of format text f false reads (is_false terms f a e (sym is ∙ at))

beyond_of : (format : Format) (terms : Terms) (s : ℕ) → s ≡ 0 → (text : Text)
    → OfAnswer s (Solves format terms text) → IsBeyond format terms text
beyond_of format terms s is text (a, at, (f, reads, e)) = (f, reads, (is_short terms f a e (sym is ∙ at)).limit)

slow_of : (format : Format) (terms : Terms) (s : ℕ) → s ≡ 0 → (text : Text)
    → OfAnswer s (Solves format terms text) → IsSlow format terms text
slow_of format terms s is text (a, at, (f, reads, e)) = (f, reads, (is_short terms f a e (sym is ∙ at)).propagation)

-- a status that no answer has
pub other_verdict : (words : List Text) (content : Content) (n : ℕ) → is_among answers n ≡ false
    → (n ≡ 2 → AskedEither words content (λ format terms text. IsRefused format text)
    (λ terms text. IsRefusedScript text))
    → (n ≡ 6 → AskedEither words content (λ format terms text. IsLimited format text)
    (λ terms text. IsLimitedScript text) ⊎ AskedCheck words content IsLimitedCheck)
    → (n ≡ 7 → HasNoForm words) → (HasNoForm words → Contains (5 ∷ 7 ∷ []) n) → IsVerdict words content n
other_verdict words content n none two six seven unasked = record {
  sat = λ h. no_answer n none (Sat, h);
  unsat = λ h. no_answer n none (Unsat, h);
  unknown = λ h. no_answer n none (Unknown, h);
  slow = λ h. no_answer n none (Unknown, h);
  solved = λ h. no_answer n none h;
  refused = two;
  limit = six;
  usage = seven;
  unasked = unasked;
}

-- a status that says nothing of the text, where the words ask for a command
pub plain_verdict : (words : List Text) (content : Content) (n : ℕ) → is_among answers n ≡ false → n ≢ 2 → n ≢ 6
    → n ≢ 7 → (HasNoForm words → ⊥) → IsVerdict words content n
plain_verdict words content n none two six seven some_form =
    other_verdict words content n none (λ h. absurd (two h)) (λ h. absurd (six h)) (λ h. absurd (seven h))
    (λ no. absurd (some_form no))

-- the line on the error output of a status that says it alone
pub plain_line : (words : List Text) (content : Content) (n : ℕ) (line : Text) → n ≢ 2 → n ≢ 6 → line ≡ fixed_line n
    → IsErrorLine words content n line
plain_line words content n line two six is =
    record { refused = λ h. absurd (two h); limit = λ h. absurd (six h); other = λ _ _ _. is }

-- and none for an answer
pub answer_line : (words : List Text) (content : Content) (s : ℕ) → HasAnswer s → IsErrorLine words content s []
answer_line words content s has = record {
  refused = λ h. is_answer s 2 refl has h;
  limit = λ h. is_answer s 6 refl has h;
  other = λ _ _ _. no_line s has;
}
  where
    no_line : (s : ℕ) → HasAnswer s → [] ≡ fixed_line s
    no_line s (Sat, e) = rw e refl
    no_line s (Unsat, e) = rw e refl
    no_line s (Unknown, e) = rw e refl

module _ (job : Job) (terms : Terms) (known left : Option Text) (output : Option Text × Option Text)
    (told : List Account × List Account) (empty : told.0 ≡ []) where
  -- nothing written, and nothing told
  quiet : (n : ℕ) → is_among answers n ≡ false → n ≢ 4 → Keeps output.0 output.1 × (told.1 ≡ told.0)
      → IsJobOutput job terms known output told.1 n
  quiet n none four same = record {
    reply = λ h. no_answer n none h;
    front = λ h. absurd (four h);
    nothing = λ _. (same.0, same.1 ∙ empty);
  }

  -- a reply where none was told before
  first_reply : (a : Answer) (text : Text) → IsReplyOn job terms known told a text
      → IsReplyOn job terms known ([], told.1) a text
  first_reply a text h = subst (λ before. IsReplyOn job terms known (before, told.1) a text) empty h

  -- what a job leaves on the output
  pub solve_output : (f : Ending) → IsJobWork job terms known left output told f
      → IsJobOutput job terms known output told.1 (status_of (Worked f))
  solve_output (Done s) so =
      let has : HasAnswer s = so.status s refl in
      let out = so.output_of in
      record {
        reply = λ _. (out.0, out.1, (out.2.0, first_reply out.0 out.2.0 out.2.1, out.2.2));
        front = λ h. is_answer s 4 refl has h;
        nothing = λ h. answer_absent (2 ∷ 3 ∷ 5 ∷ 6 ∷ []) s refl refl refl has h;
      }
  solve_output WriteFault so = record {
    reply = λ h. no_answer 4 refl h;
    front = λ _.
        let out = so.output_of in (out.0, out.1, first_reply out.0 out.1 out.2, out.3);
    nothing = λ h. absent (2 ∷ 3 ∷ 5 ∷ 6 ∷ []) 4 refl h;
  }
  solve_output (Refused number at) so = quiet 2 refl (λ e. omega (arith, e)) so.output_of
  solve_output (Limit quantity at) so = quiet 6 refl (λ e. omega (arith, e)) so.output_of
  solve_output (CheckLimit quantity) so = absurd so.output_of
  solve_output ReadFault so = quiet 3 refl (λ e. omega (arith, e)) so.output_of
  solve_output NoMemory so = quiet 5 refl (λ e. omega (arith, e)) so.output_of

module _ (words : List Text) (content : Content) (left : Option Text) (output : Option Text × Option Text)
    (told : List Account × List Account) (job : Job) (terms : Terms) (task : Task) (input : Text)
    (asks : AsksFor words task)
    (of : (P : Format → Terms → Text → Type 0) → IfSome (content input) (P (format_of job) terms)
    → OfFormula task content P) where
  -- what is so of the text is so of the input that was asked for
  asked : (P : Format → Terms → Text → Type 0) → IfSome (content input) (P (format_of job) terms)
      → Asked words content P
  asked P h = asked_formula words task asks content P (of P h)

  some_form : HasNoForm words → ⊥
  some_form none = has_form words task asks none

  -- an answer to the formula
  pub answer_verdict : (s : ℕ) → HasAnswer s
      → IfSome (content input) (λ text. OfAnswer s (Solves (format_of job) terms text))
      → IsVerdict words content s
  answer_verdict s has ending = record {
    sat = λ h. asked (λ format n text. HasTruth format text true)
        (some_map _ _ _ (true_of (format_of job) terms s h) ending);
    unsat = λ h. asked (λ format n text. HasTruth format text false)
        (some_map _ _ _ (false_of (format_of job) terms s h) ending);
    unknown = λ h. inl (inl (inl (asked IsBeyond (some_map _ _ _ (beyond_of (format_of job) terms s h) ending))));
    slow = λ h. inl (inl (inl (asked IsSlow (some_map _ _ _ (slow_of (format_of job) terms s h) ending))));
    solved = λ _. inl (inl (inl (asked (λ format n text. OfAnswer s (Solves format n text)) ending)));
    refused = λ h. is_answer s 2 refl has h;
    limit = λ h. is_answer s 6 refl has h;
    usage = λ h. is_answer s 7 refl has h;
    unasked = λ none. absurd (some_form none);
  }

  pub solve_verdict : (f : Ending) → IsJobWork job terms (content input) left output told f
      → IsVerdict words content (status_of (Worked f))
  solve_verdict (Done s) so = answer_verdict s (so.status s refl) so.ending
  solve_verdict (Refused number at) so =
      other_verdict words content 2 refl
      (λ _. inl (asked (λ format n text. IsRefused format text)
      (some_map _ (λ text. Says (format_of job) text (refused number at)) (IsRefused (format_of job))
      (λ text h. (number, at, h)) so.ending)))
      (λ e. absurd (omega (arith, e))) (λ e. absurd (omega (arith, e))) (λ none. absurd (some_form none))
  solve_verdict (Limit quantity at) so =
      other_verdict words content 6 refl (λ e. absurd (omega (arith, e)))
      (λ _. inl (inl (asked (λ format n text. IsLimited format text)
      (some_map _ (λ text. Says (format_of job) text (limit quantity at)) (IsLimited (format_of job))
      (λ text h. (quantity, at, h)) so.ending))))
      (λ e. absurd (omega (arith, e))) (λ none. absurd (some_form none))
  solve_verdict (CheckLimit quantity) so = absurd so.output_of
  solve_verdict ReadFault so =
      plain_verdict words content 3 refl (λ e. omega (arith, e)) (λ e. omega (arith, e)) (λ e. omega (arith, e))
      some_form
  solve_verdict WriteFault so =
      plain_verdict words content 4 refl (λ e. omega (arith, e)) (λ e. omega (arith, e)) (λ e. omega (arith, e))
      some_form
  solve_verdict NoMemory so =
      plain_verdict words content 5 refl (λ e. omega (arith, e)) (λ e. omega (arith, e)) (λ e. omega (arith, e))
      some_form

  pub solve_line : (f : Ending) → IsJobWork job terms (content input) left output told f
      → IsErrorLine words content (status_of (Worked f)) (line_of (Worked f))
  solve_line (Done s) so = answer_line words content s (so.status s refl)
  solve_line (Refused number at) so = record {
    refused = λ _. (number, at, refl, inl (asked (λ format n text. Says format text (refused number at)) so.ending));
    limit = λ h. absurd (omega (arith, h));
    other = λ n _ _. absurd (n refl);
  }
  solve_line (Limit quantity at) so = record {
    refused = λ h. absurd (omega (arith, h));
    limit = λ _. inl
        (quantity, at, refl, inl (asked (λ format n text. Says format text (limit quantity at)) so.ending));
    other = λ _ n _. absurd (n refl);
  }
  solve_line (CheckLimit quantity) so = absurd so.output_of
  solve_line ReadFault so = plain_line words content 3 _ (λ e. omega (arith, e)) (λ e. omega (arith, e)) refl
  solve_line WriteFault so = plain_line words content 4 _ (λ e. omega (arith, e)) (λ e. omega (arith, e)) refl
  solve_line NoMemory so = plain_line words content 5 _ (λ e. omega (arith, e)) (λ e. omega (arith, e)) refl

  pub solve_read : (f : Ending) → IsJobWork job terms (content input) left output told f
      → HasAnswer (status_of (Worked f)) → Asked words content (λ format n text. left ≡ Some [])
  solve_read (Done s) so h = asked (λ format n text. left ≡ Some []) (so.read tt)
  solve_read (Refused number at) so h = no_answer 2 refl h
  solve_read (Limit quantity at) so h = no_answer 6 refl h
  solve_read (CheckLimit quantity) so h = no_answer 6 refl h
  solve_read ReadFault so h = no_answer 3 refl h
  solve_read WriteFault so h = no_answer 4 refl h
  solve_read NoMemory so h = no_answer 5 refl h
