-- What is known of a run says what its status does.
use Rattle.std.proofs.Common.{◌≡◌, inl, inr, ℕ, List, [], ◌∷◌, Option, Some, Contains, refl, sym, ap, subst, ⊎_elim, arith, ◌∙◌}
use Rattle.std.specs.Io.KnownBytes.{Keeps}
use Rattle.trail.specs.State.{Account}
use Rattle.command.specs.Forms.{HasNoForm, Text}
use Rattle.solve.specs.declared.answer.Answer.TheVariants.{Sat, Unsat, Unknown}
use Rattle.files.specs.Checks.{IsFinished}
use Rattle.files.specs.Solve.{HasAnswer}
use Rattle.solve.specs.declared.ending.Ending.{Ending}
use Rattle.solve.specs.declared.ending.Ending.TheVariants.{Done, Refused, Limit, CheckLimit, ReadFault, WriteFault, NoMemory}
use Rattle.program.specs.declared.ending.RunEnding.{RunEnding}
use Rattle.program.specs.declared.ending.RunEnding.TheVariants.{Worked, Usage}
use Rattle.program.specs.Asked.{AskedAny, Task, known_for, task_of}
use Rattle.program.specs.Asked.Task.{job_task, check_task, script_task, text_task}
use Rattle.program.specs.Run.{IsErrorLine, IsVerdict, line_of, status_of}
use Rattle.program.specs.Told.{IsOutput, IsOutputOf}
use Rattle.program.specs.Work.{Carried, IsAtEnd, IsWorkOf}
use Rattle.program.proofs.Asking.{AsksFor, asked_sample}
use Rattle.program.proofs.Checking.{check_error, check_output, check_reads, check_status, check_verdict}
use Rattle.program.proofs.Sampling.{sample_line, sample_output, sample_status, sample_verdict}
use Rattle.program.proofs.Scripting.{script_line, script_output, script_read, script_verdict}
use Rattle.program.proofs.Solving.{Content, other_verdict, plain_line, solve_line, solve_output, solve_read, solve_verdict}
use Rattle.program.proofs.Statuses.{is_answer, no_answer}

-- the statuses of all endings
abbrev Listed : ℕ → Type 0
Listed n = Contains (10 ∷ 20 ∷ 0 ∷ 2 ∷ 3 ∷ 4 ∷ 5 ∷ 6 ∷ 7 ∷ []) n

answer_listed : (s : ℕ) → HasAnswer s → Listed s
answer_listed s (Sat, e) = (0, omega arith, sym e)
answer_listed s (Unsat, e) = (1, omega arith, sym e)
answer_listed s (Unknown, e) = (2, omega arith, sym e)

ending_listed : (f : Ending) → ((s : ℕ) → f ≡ Done s → HasAnswer s) → Listed (status_of (Worked f))
ending_listed (Done s) h = answer_listed s (h s refl)
ending_listed (Refused number line) h = (3, omega arith, refl)
ending_listed ReadFault h = (4, omega arith, refl)
ending_listed WriteFault h = (5, omega arith, refl)
ending_listed NoMemory h = (6, omega arith, refl)
ending_listed (Limit quantity line) h = (7, omega arith, refl)
ending_listed (CheckLimit quantity) h = (7, omega arith, refl)

-- an answer's status is that of an ending with an answer
ended : (f : Ending) → HasAnswer (status_of (Worked f)) → IsFinished f
ended (Done s) h = tt
ended (Refused number line) h = no_answer 2 refl h
ended ReadFault h = no_answer 3 refl h
ended WriteFault h = no_answer 4 refl h
ended NoMemory h = no_answer 5 refl h
ended (Limit quantity line) h = no_answer 6 refl h
ended (CheckLimit quantity) h = no_answer 6 refl h

pub answered : (e : RunEnding) → HasAnswer (status_of e) → IsAtEnd e
answered (Usage text) h = no_answer 7 refl h
answered (Worked f) h = ended f h

-- the status of a fault is that of no other ending
read_fault : (f : Ending) → ((s : ℕ) → f ≡ Done s → HasAnswer s) → status_of (Worked f) ≡ 3 → f ≡ ReadFault
read_fault (Done s) has is = is_answer s 3 refl (has s refl) is
read_fault (Refused number line) has is = absurd (omega (arith, is))
read_fault ReadFault has is = refl
read_fault WriteFault has is = absurd (omega (arith, is))
read_fault NoMemory has is = absurd (omega (arith, is))
read_fault (Limit quantity line) has is = absurd (omega (arith, is))
read_fault (CheckLimit quantity) has is = absurd (omega (arith, is))

write_fault : (f : Ending) → ((s : ℕ) → f ≡ Done s → HasAnswer s) → status_of (Worked f) ≡ 4 → f ≡ WriteFault
write_fault (Done s) has is = is_answer s 4 refl (has s refl) is
write_fault (Refused number line) has is = absurd (omega (arith, is))
write_fault ReadFault has is = absurd (omega (arith, is))
write_fault WriteFault has is = refl
write_fault NoMemory has is = absurd (omega (arith, is))
write_fault (Limit quantity line) has is = absurd (omega (arith, is))
write_fault (CheckLimit quantity) has is = absurd (omega (arith, is))

module _ (words : List Text) (content : Content) (left : Option Text) (output : Option Text × Option Text)
    (told : List Account × List Account) where
  -- what is so of words without a form, of want of memory, and of the work on each task, is so of each run
  pub each : (P : RunEnding → Type 0)
      → ((text : _) → HasNoForm words → Keeps output.0 output.1 → told.1 ≡ told.0 → P (Usage text))
      → (Keeps output.0 output.1 → told.1 ≡ told.0 → P (Worked NoMemory))
      → ((t : Task) (f : Ending) → AsksFor words t → IsWorkOf t (known_for content t) left output told f
      → P (Worked f)) → (e : RunEnding) → Carried words content left output told e → P e
  each P usage early work (Usage text) c = usage text c.0 c.1 c.2
  each P usage early work (Worked f) c =
      ⊎_elim (λ h. subst (λ g. P (Worked g)) (sym h.0) (early h.1 h.2)) (λ h. work (task_of h.0) f (h.0, h.1, refl)
      h.2) c

  pub verdict : (e : RunEnding) → Carried words content left output told e → IsVerdict words content (status_of e)
  verdict e carried = each (λ e. IsVerdict words content (status_of e))
      (λ text none kept same. other_verdict words content 7 refl (λ e. absurd (omega (arith, e)))
      (λ e. absurd (omega (arith, e))) (λ _. none) (λ _. (1, omega arith, refl)))
      (λ kept same. other_verdict words content 5 refl (λ e. absurd (omega (arith, e)))
      (λ e. absurd (omega (arith, e))) (λ e. absurd (omega (arith, e))) (λ _. (0, omega arith, refl)))
      by e carried
    where
      by : (t : Task) (f : Ending) → AsksFor words t → IsWorkOf t (known_for content t) left output told f
          → IsVerdict words content (status_of (Worked f))
      by (job_task job terms input) f asks so =
          solve_verdict words content left output told job terms (job_task job terms input) input asks (λ P h. h) f so
      by (check_task decide terms input) f asks so =
          check_verdict words content left output told decide terms (check_task decide terms input) input asks
          (λ P h. h) (λ P h. h) f so
      by (script_task terms input) f asks so =
          script_verdict words content left output told terms input asks f so
      by (text_task text) f asks so = sample_verdict words content output told text asks f so

  pub output_is : told.0 ≡ [] → (e : RunEnding) → Carried words content left output told e
      → IsOutput words content output told.1 (status_of e)
  output_is empty e carried = each (λ e. IsOutput words content output told.1 (status_of e))
      (λ text none kept same. inl ((1, omega arith, refl), kept, same ∙ empty))
      (λ kept same. inl ((0, omega arith, refl), kept, same ∙ empty))
      (λ t f asks so. inr (
        asks.0,
        asks.1,
        subst (λ u. IsOutputOf u (known_for content u) output told.1 (status_of (Worked f))) (sym asks.2) (by t f so),
      ))
      e carried
    where
      by : (t : Task) (f : Ending) → IsWorkOf t (known_for content t) left output told f
          → IsOutputOf t (known_for content t) output told.1 (status_of (Worked f))
      by (job_task job terms input) f so = solve_output job terms _ left output told empty f so
      by (check_task decide terms input) f so = check_output decide terms _ left output told empty f so
      by (script_task terms input) f so = script_output terms _ output told empty f so.answered
      by (text_task text) f so = sample_output text output told empty f so

  error_line : (e : RunEnding) → Carried words content left output told e
      → IsErrorLine words content (status_of e) (line_of e)
  error_line e carried = each (λ e. IsErrorLine words content (status_of e) (line_of e))
      (λ text none kept same. record {
        refused = λ h. absurd (omega (arith, h));
        limit = λ h. absurd (omega (arith, h));
        other = λ _ _ n. absurd (n refl);
      })
      (λ kept same. plain_line words content 5 _ (λ e. omega (arith, e)) (λ e. omega (arith, e)) refl)
      by e carried
    where
      by : (t : Task) (f : Ending) → AsksFor words t → IsWorkOf t (known_for content t) left output told f
          → IsErrorLine words content (status_of (Worked f)) (line_of (Worked f))
      by (job_task job terms input) f asks so =
          solve_line words content left output told job terms (job_task job terms input) input asks (λ P h. h) f so
      by (check_task decide terms input) f asks so =
          check_error words content left output told decide terms (check_task decide terms input) input asks
          (λ P h. h) (λ P h. h) f so
      by (script_task terms input) f asks so =
          script_line words content left output told terms input asks f so
      by (text_task text) f asks so = sample_line words content output told text f so

  pub error_at : (e : RunEnding) → Carried words content left output told e → (s : ℕ) → s ≡ status_of e
      → IsErrorLine words content s (line_of e)
  error_at e c s is = subst (λ n. IsErrorLine words content n (line_of e)) (sym is) (error_line e c)

  abbrev Read : Type 0
  Read = AskedAny words content (λ format n text. left ≡ Some []) (λ n text. left ≡ Some [])

  pub whole_input : (e : RunEnding) → Carried words content left output told e → HasAnswer (status_of e) → Read
  whole_input e carried = each (λ e. HasAnswer (status_of e) → Read) (λ text none kept same h. no_answer 7 refl h)
      (λ kept same h. no_answer 5 refl h) by e carried
    where
      by : (t : Task) (f : Ending) → AsksFor words t → IsWorkOf t (known_for content t) left output told f
          → HasAnswer (status_of (Worked f)) → Read
      by (job_task job terms input) f asks so h =
          inl (inl (solve_read words content left output told job terms (job_task job terms input) input asks
          (λ P h. h) f so h))
      by (check_task decide terms input) f asks so h =
          inl (inl (check_reads words content left output told decide terms (check_task decide terms input) input asks
          (λ P h. h) (λ P h. h) f so h))
      by (script_task terms input) f asks so h =
          inl (inr (script_read words content left output told terms input asks f so h))
      by (text_task text) f asks so h = inr (asked_sample words (text_task text) asks tt)

  -- what ends with an answer's status, where it ends well
  done_status : (t : Task) (f : Ending) → IsWorkOf t (known_for content t) left output told f → (s : ℕ)
      → f ≡ Done s → HasAnswer s
  done_status (job_task job terms input) f so = so.status
  done_status (check_task decide terms input) f so = check_status decide terms _ left output told f so
  done_status (script_task terms input) f so = λ s is. (Unknown, so.status s is)
  done_status (text_task text) f so = λ s is. (Unknown, sample_status text output told f so s is)

  pub statuses : (e : RunEnding) → Carried words content left output told e → Listed (status_of e)
  statuses e carried = each (λ e. Listed (status_of e)) (λ text none kept same. (8, omega arith, refl))
      (λ kept same. (6, omega arith, refl)) (λ t f asks so. ending_listed f (done_status t f so)) e carried

  pub is_read_fault : (e : RunEnding) → Carried words content left output told e → status_of e ≡ 3
      → e ≡ Worked ReadFault
  is_read_fault e carried = each (λ e. status_of e ≡ 3 → e ≡ Worked ReadFault)
      (λ text none kept same is. absurd (omega (arith, is))) (λ kept same is. absurd (omega (arith, is)))
      (λ t f asks so is. ap Worked (read_fault f (done_status t f so) is)) e carried

  pub is_write_fault : (e : RunEnding) → Carried words content left output told e → status_of e ≡ 4
      → e ≡ Worked WriteFault
  is_write_fault e carried = each (λ e. status_of e ≡ 4 → e ≡ Worked WriteFault)
      (λ text none kept same is. absurd (omega (arith, is))) (λ kept same is. absurd (omega (arith, is)))
      (λ t f asks so is. ap Worked (write_fault f (done_status t f so) is)) e carried
