-- What is written behind the numbers of a buffer: these stay the same, and the bytes are what is written without them.
use Rattle.std.proofs.Common.{◌≡◌, inl, inr, ◌⊎◌, ℕ, zero, suc, Bool, List, [], ◌∷◌, Option, Some, Contains, sym, arith}
use Rattle.std.specs.Prelude.{IfSome}
use Rattle.std.specs.Io.KnownBytes.{Appends, Keeps}
use Rattle.ports.specs.Bytes.{AppendsFront}
use Rattle.calls.specs.Lent.{behind}
use Rattle.trail.specs.State.{Account}
use Rattle.command.specs.Forms.{Text}
use Rattle.files.specs.Solve.{HasAnswer, OfAnswer}
use Rattle.solve.specs.declared.answer.Answer.{Answer}
use Rattle.solve.specs.declared.answer.Answer.TheVariants.{Sat, Unsat, Unknown}
use Rattle.solve.specs.Terms.{Terms}
use Rattle.solve.specs.declared.ending.Ending.TheVariants.{Done}
use Rattle.reading.specs.declared.refusal.Quantity.{Quantity}
use Rattle.files.specs.Checks.{IsCheckOn, check_ending}
use Rattle.files.specs.Inputs.Format.{as_formula}
use Rattle.files.specs.Jobs.{IsReplyOn}
use Rattle.files.specs.declared.check.Outcome.{Outcome}
use Rattle.files.specs.declared.check.Outcome.TheVariants.{Beyond}
use Rattle.files.specs.declared.job.Job.{Job}
use Rattle.program.specs.Asked.{Task, known_for, task_of}
use Rattle.program.specs.Asked.Task.{job_task, check_task, script_task, text_task}
use Rattle.program.specs.Run.{IsLimited, IsVerdict}
use Rattle.program.specs.Told.{IsCheckOutput, IsJobOutput, IsOutput, IsOutputOf, IsSampleOutput, IsScriptOutput}

-- the numbers of a buffer, and bytes behind them
abbrev pub Mark : Type 0
Mark = ℕ × ℕ

abbrev pub marked : Mark → List ℕ → Option (List ℕ)
marked mark bytes = behind mark.0 mark.1 bytes

abbrev pub Same : Mark → Mark → Type 0
Same m n = (n.0 ≡ m.0) × (n.1 ≡ m.1)

same_list : (a b c d : ℕ) (xs ys : List ℕ) → a ∷ b ∷ xs ≡ c ∷ d ∷ ys → (a ≡ c) × (b ≡ d)
same_list a b c d xs ys h = (cc, cc)

bare_list : (a b c d : ℕ) (xs ys : List ℕ) → a ∷ b ∷ xs ≡ c ∷ d ∷ ys → xs ≡ ys
bare_list a b c d xs ys h = cc

-- what was empty stands behind the same numbers
same_appended : (m n : Mark) (bytes text : List ℕ) → Appends (marked m []) (marked n bytes) text → Same m n
same_appended m n bytes text h = same_list n.0 n.1 m.0 m.1 bytes text h

same_kept : (m n : Mark) (bytes : List ℕ) → Keeps (marked m []) (marked n bytes) → Same m n
same_kept m n bytes h = same_list n.0 n.1 m.0 m.1 bytes [] h

pub same_front : (m n : Mark) (bytes text : List ℕ) → AppendsFront (marked m []) (marked n bytes) text → Same m n
same_front m n bytes text h = same_appended m n bytes _ h.appended

-- and without them the same was written to what was empty
pub bare : (m n : Mark) (bytes text : List ℕ) → Appends (marked m []) (marked n bytes) text
    → Appends (Some []) (Some bytes) text
bare m n bytes text h = bare_list n.0 n.1 m.0 m.1 bytes text h

bare_kept : (m n : Mark) (bytes : List ℕ) → Keeps (marked m []) (marked n bytes) → Keeps (Some []) (Some bytes)
bare_kept m n bytes h = bare_list n.0 n.1 m.0 m.1 bytes [] h

pub bare_front : (m n : Mark) (bytes text : List ℕ) → AppendsFront (marked m []) (marked n bytes) text
    → AppendsFront (Some []) (Some bytes) text
bare_front m n bytes text h = record { count = h.count; within = h.within; appended = bare m n bytes _ h.appended }

-- a status of a run, by what is written with it
data Sort (status : ℕ) : Type 0 where
  an_answer : HasAnswer status → Sort status
  a_write_fault : status ≡ 4 → Sort status
  no_reply : Contains (2 ∷ 3 ∷ 5 ∷ []) status → Sort status
  a_limit : status ≡ 6 → Sort status
  no_command : status ≡ 7 → Sort status

sort_of : (status : ℕ) → Contains (10 ∷ 20 ∷ 0 ∷ 2 ∷ 3 ∷ 4 ∷ 5 ∷ 6 ∷ 7 ∷ []) status → Sort status
sort_of status (zero, low, is) = an_answer (Sat, sym is)
sort_of status (suc zero, low, is) = an_answer (Unsat, sym is)
sort_of status (suc (suc zero), low, is) = an_answer (Unknown, sym is)
sort_of status (suc (suc (suc zero)), low, is) = no_reply (0, omega arith, is)
sort_of status (suc (suc (suc (suc zero))), low, is) = no_reply (1, omega arith, is)
sort_of status (suc (suc (suc (suc (suc zero)))), low, is) = a_write_fault (sym is)
sort_of status (suc (suc (suc (suc (suc (suc zero))))), low, is) = no_reply (2, omega arith, is)
sort_of status (suc (suc (suc (suc (suc (suc (suc zero)))))), low, is) = a_limit (sym is)
sort_of status (suc (suc (suc (suc (suc (suc (suc (suc zero))))))), low, is) = no_command (sym is)
sort_of status (suc (suc (suc (suc (suc (suc (suc (suc (suc i)))))))), low, is) = absurd (omega (arith, low))

six_of : (status : ℕ) → status ≡ 6 → Contains (2 ∷ 3 ∷ 5 ∷ 6 ∷ []) status
six_of status is = (3, omega arith, sym is)

more : (status : ℕ) → Contains (2 ∷ 3 ∷ 5 ∷ []) status → Contains (2 ∷ 3 ∷ 5 ∷ 6 ∷ []) status
more status (zero, low, is) = (0, omega arith, is)
more status (suc zero, low, is) = (1, omega arith, is)
more status (suc (suc zero), low, is) = (2, omega arith, is)
more status (suc (suc (suc i)), low, is) = absurd (omega (arith, low))

module _ (m n : Mark) (bytes : List ℕ) (stops : List Account) (status : ℕ) where
  abbrev Of : (Option Text × Option Text → List Account → ℕ → Type 0) → Type 0
  Of Is = Is (marked m [], marked n bytes) stops status

  abbrev Bare : (Option Text × Option Text → List Account → ℕ → Type 0) → Type 0
  Bare Is = Is (Some [], Some bytes) stops status

  module _ (job : Job) (terms : Terms) (known : Option Text) where
    abbrev Reply : Option Text → Option Text → Answer → Type 0
    Reply old new answer = (text : Text) × IsReplyOn job terms known ([], stops) answer text × Appends old new text

    same_reply : OfAnswer status (Reply (marked m []) (marked n bytes)) → Same m n
    same_reply (answer, is, (text, reply, appends)) = same_appended m n bytes text appends

    bare_reply : OfAnswer status (Reply (marked m []) (marked n bytes)) → OfAnswer status (Reply (Some []) (Some bytes))
    bare_reply (answer, is, (text, reply, appends)) = (answer, is, (text, reply, bare m n bytes text appends))

    abbrev Front : Option Text → Option Text → Type 0
    Front old new =
        (answer : Answer) × (text : Text) × IsReplyOn job terms known ([], stops) answer text × AppendsFront old new text

    same_part : Front (marked m []) (marked n bytes) → Same m n
    same_part (answer, text, reply, front) = same_front m n bytes text front

    bare_part : Front (marked m []) (marked n bytes) → Front (Some []) (Some bytes)
    bare_part (answer, text, reply, front) = (answer, text, reply, bare_front m n bytes text front)

    same_job : Sort status → (status ≡ 7 → ⊥) → Of (IsJobOutput job terms known) → Same m n
    same_job (an_answer h) asked o = same_reply (o.reply h)
    same_job (a_write_fault h) asked o = same_part (o.front h)
    same_job (no_reply h) asked o = same_kept m n bytes (o.nothing (more status h)).0
    same_job (a_limit h) asked o = same_kept m n bytes (o.nothing (six_of status h)).0
    same_job (no_command h) asked o = absurd (asked h)

    bare_job : Of (IsJobOutput job terms known) → Bare (IsJobOutput job terms known)
    bare_job o = record {
      reply = λ h. bare_reply (o.reply h);
      front = λ h. bare_part (o.front h);
      nothing = λ h. let kept = o.nothing h in (bare_kept m n bytes kept.0, kept.1);
    }

  module _ (decide : Bool) (terms : Terms) (known : Option Text) where
    abbrev Text_of : Outcome → Text → Type 0
    Text_of outcome text = IsCheckOn decide terms known ([], stops) outcome text

    abbrev Checked : Option Text → Option Text → Type 0
    Checked old new = (outcome : Outcome) × (text : Text) × (check_ending outcome ≡ Done status) × Text_of outcome text
        × Appends old new text

    same_checked : Checked (marked m []) (marked n bytes) → Same m n
    same_checked (outcome, text, ends, check, appends) = same_appended m n bytes text appends

    bare_checked : Checked (marked m []) (marked n bytes) → Checked (Some []) (Some bytes)
    bare_checked (outcome, text, ends, check, appends) = (outcome, text, ends, check, bare m n bytes text appends)

    abbrev Limited : Option Text → Option Text → Type 0
    Limited old new = (IfSome known (IsLimited as_formula) × Keeps old new × (stops ≡ []))
        ⊎ ((quantity : Quantity) × (text : Text) × Text_of (Beyond quantity) text × Appends old new text)

    same_limited : Limited (marked m []) (marked n bytes) → Same m n
    same_limited (inl (limited, kept, none)) = same_kept m n bytes kept
    same_limited (inr (quantity, text, check, appends)) = same_appended m n bytes text appends

    bare_limited : Limited (marked m []) (marked n bytes) → Limited (Some []) (Some bytes)
    bare_limited (inl (limited, kept, none)) = inl (limited, bare_kept m n bytes kept, none)
    bare_limited (inr (quantity, text, check, appends)) = inr (quantity, text, check, bare m n bytes text appends)

    abbrev Started : Option Text → Option Text → Type 0
    Started old new = (outcome : Outcome) × (text : Text) × Text_of outcome text × AppendsFront old new text

    same_started : Started (marked m []) (marked n bytes) → Same m n
    same_started (outcome, text, check, front) = same_front m n bytes text front

    bare_started : Started (marked m []) (marked n bytes) → Started (Some []) (Some bytes)
    bare_started (outcome, text, check, front) = (outcome, text, check, bare_front m n bytes text front)

    same_check : Sort status → (status ≡ 7 → ⊥) → Of (IsCheckOutput decide terms known) → Same m n
    same_check (an_answer h) asked o = same_checked (o.reply h)
    same_check (a_write_fault h) asked o = same_started (o.front h)
    same_check (no_reply h) asked o = same_kept m n bytes (o.nothing h).0
    same_check (a_limit h) asked o = same_limited (o.limit h)
    same_check (no_command h) asked o = absurd (asked h)

    bare_check : Of (IsCheckOutput decide terms known) → Bare (IsCheckOutput decide terms known)
    bare_check o = record {
      reply = λ h. bare_checked (o.reply h);
      limit = λ h. bare_limited (o.limit h);
      front = λ h. bare_started (o.front h);
      nothing = λ h. let kept = o.nothing h in (bare_kept m n bytes kept.0, kept.1);
    }

  module _ (terms : Terms) (known : Option Text) where
    same_script : Of (IsScriptOutput terms known) → Same m n
    same_script o = same_front m n bytes _ o.front

    bare_script : Of (IsScriptOutput terms known) → Bare (IsScriptOutput terms known)
    bare_script o = record {
      version = o.version;
      commands = o.commands;
      out = o.out;
      after = o.after;
      allowed = o.allowed;
      first = o.first;
      all = o.all;
      front = bare_front m n bytes _ o.front;
      whole = λ h. bare m n bytes _ (o.whole h);
      told = o.told;
    }

  module _ (text : Text) where
    by_end : Of (IsSampleOutput text) → Contains (0 ∷ 4 ∷ 5 ∷ []) status → Same m n
    by_end o (zero, low, is) = same_appended m n bytes text (o.whole (sym is))
    by_end o (suc zero, low, is) = same_front m n bytes text (o.front (sym is))
    by_end o (suc (suc zero), low, is) = same_kept m n bytes (o.nothing (sym is))
    by_end o (suc (suc (suc i)), low, is) = absurd (omega (arith, low))

    same_sample : Of (IsSampleOutput text) → Same m n
    same_sample o = by_end o o.ends

    bare_sample : Of (IsSampleOutput text) → Bare (IsSampleOutput text)
    bare_sample o = record {
      whole = λ h. bare m n bytes text (o.whole h);
      front = λ h. bare_front m n bytes text (o.front h);
      nothing = λ h. bare_kept m n bytes (o.nothing h);
      none = o.none;
      ends = o.ends;
    }

  same_task : (t : Task) (known : Option Text) → Sort status → (status ≡ 7 → ⊥) → Of (IsOutputOf t known) → Same m n
  same_task (job_task job terms input) known sort asked o = same_job job terms known sort asked o
  same_task (check_task decide terms input) known sort asked o = same_check decide terms known sort asked o
  same_task (script_task terms input) known sort asked o = same_script terms known o
  same_task (text_task text) known sort asked o = same_sample text o

  bare_task : (t : Task) (known : Option Text) → Of (IsOutputOf t known) → Bare (IsOutputOf t known)
  bare_task (job_task job terms input) known o = bare_job job terms known o
  bare_task (check_task decide terms input) known o = bare_check decide terms known o
  bare_task (script_task terms input) known o = bare_script terms known o
  bare_task (text_task text) known o = bare_sample text o

  module _ (words : List Text) (content : Text → Option Text) where
    -- what a run leaves stands behind the same numbers
    pub same_output : Contains (10 ∷ 20 ∷ 0 ∷ 2 ∷ 3 ∷ 4 ∷ 5 ∷ 6 ∷ 7 ∷ []) status → IsVerdict words content status
        → Of (IsOutput words content) → Same m n
    same_output statuses verdict (inl (ends, kept, none)) = same_kept m n bytes kept
    same_output statuses verdict (inr (command, asks, o)) =
        same_task (task_of command) (known_for content (task_of command)) (sort_of status statuses)
        (λ is. verdict.usage is command asks) o

    -- and is the same as without them
    pub bare_output : Of (IsOutput words content) → Bare (IsOutput words content)
    bare_output (inl (ends, kept, none)) = inl (ends, bare_kept m n bytes kept, none)
    bare_output (inr (command, asks, o)) =
        inr (command, asks, bare_task (task_of command) (known_for content (task_of command)) o)
