-- With status 6 a limit is that of the input, or of the one circuit that is written.
use Rattle.std.proofs.Common.{◌≡◌, inl, inr, ℕ, Bool, List, [], Option, None, Some, refl, subst, arith}
use Rattle.std.specs.Prelude.{IfSome}
use Rattle.std.specs.Io.KnownBytes.{Appends}
use Rattle.ports.specs.Bytes.{AppendsFront}
use Rattle.ports.specs.Causes.{Rose}
use Rattle.trail.specs.State.{Account}
use Rattle.reading.specs.declared.refusal.Quantity.{Quantity}
use Rattle.qdimacs.specs.Reads.{Reads}
use Rattle.qdimacs.specs.Rules.{limit, parsed}
use Rattle.command.specs.Forms.{Text}
use Rattle.files.specs.declared.job.Job.{Job}
use Rattle.files.specs.Checks.{IsBeyond, IsFinished}
use Rattle.files.specs.Solve.{HasAnswer}
use Rattle.solve.specs.declared.answer.Answer.TheVariants.{Unknown}
use Rattle.files.specs.Inputs.{Format, Says, format_of}
use Rattle.files.specs.Inputs.Format.{as_formula}
use Rattle.session.specs.Scripts.{IsScriptEnding}
use Rattle.solve.specs.Terms.{Terms}
use Rattle.solve.specs.declared.ending.Ending.{Ending}
use Rattle.solve.specs.declared.ending.Ending.TheVariants.{Done, Refused, Limit, CheckLimit, ReadFault, WriteFault, NoMemory}
use Rattle.program.specs.declared.ending.RunEnding.{RunEnding}
use Rattle.program.specs.declared.ending.RunEnding.TheVariants.{Worked}
use Rattle.program.specs.Asked.{OfFormula, Task, known_for}
use Rattle.program.specs.Asked.Task.{job_task, check_task, script_task, text_task}
use Rattle.program.specs.Run.{IsLimited, IsLimitedScript, line_of, status_of}
use Rattle.program.specs.Told.{IsLimitOf, IsOneBeyond}
use Rattle.program.specs.Work.{Carried, IsAtEnd, IsWorkOf}
use Rattle.program.proofs.Asking.{AsksFor, asked_check, asked_formula, asked_script}
use Rattle.program.proofs.Checking.{check_status}
use Rattle.program.proofs.Endings.{each}
use Rattle.program.proofs.Solving.{Content, some_map}
use Rattle.program.proofs.Statuses.{is_answer}

-- with status 6 an ending is a limit of the input, or of a check formula
at_limit : {A : Type 0} (W : Ending → Type 0) → ((s : ℕ) → W (Done s) → HasAnswer s)
    → ((quantity : Quantity) (at : ℕ) → W (Limit quantity at) → A)
    → ((quantity : Quantity) → W (CheckLimit quantity) → A) → (f : Ending) → W f → status_of (Worked f) ≡ 6 → A
at_limit W has input check (Done s) so is = is_answer s 6 refl (has s so) is
at_limit W has input check (Refused number at) so is = absurd (omega (arith, is))
at_limit W has input check (Limit quantity at) so is = input quantity at so
at_limit W has input check (CheckLimit quantity) so is = check quantity so
at_limit W has input check ReadFault so is = absurd (omega (arith, is))
at_limit W has input check WriteFault so is = absurd (omega (arith, is))
at_limit W has input check NoMemory so is = absurd (omega (arith, is))

-- what is so of a text that is told twice
some_both : (known : Option Text) (P Q : Text → Type 0) → IfSome known P → IfSome known Q
    → IfSome known (λ text. P text × Q text)
some_both None P Q p q = tt
some_both (Some text) P Q p q = (p, q)

module _ (words : List Text) (content : Content) (left : Option Text) (output : Option Text × Option Text)
    (told : List Account × List Account) (empty : told.0 ≡ []) (faults : ℕ × ℕ)
    (said : Option Text × Option Text) (Sound : Type 0) where
  abbrev Limits : Type 0
  Limits = IsLimitOf words content left output told.1 faults said Sound

  -- the line of an ending is said
  abbrev pub Tells : RunEnding → Type 0
  Tells e = AppendsFront said.0 said.1 (line_of e) × (¬ Rose faults.0 faults.1 → Appends said.0 said.1 (line_of e))

  -- what a task's work comes to, with its line said, and sound where it came to its end
  abbrev Works : Task → Ending → Type 0
  Works t f = IsWorkOf t (known_for content t) left output told f × Tells (Worked f) × (IsFinished f → Sound)

  -- of a formula's text, or a circuit's
  limited : (task : Task) → AsksFor words task → (format : Format) (terms : Terms) (input : Text)
      → ((P : Format → Terms → Text → Type 0) → IfSome (content input) (P format terms) → OfFormula task content P)
      → (quantity : Quantity) (at : ℕ) → IfSome (content input) (λ text. Says format text (limit quantity at)) → Limits
  limited task asks format terms input of quantity at reads =
      let P : Format → Terms → Text → Type 0 = (λ format terms text. IsLimited format text) in
      inl (inl (asked_formula words task asks content P (of P
      (some_map (content input) (λ text. Says format text (limit quantity at)) (IsLimited format)
      (λ text h. (quantity, at, h)) reads))))

  -- of the check formula of the circuit that is written
  beyond : (decide : Bool) (terms : Terms) (input : Text) → AsksFor words (check_task decide terms input)
      → (quantity : Quantity) → Works (check_task decide terms input) (CheckLimit quantity) → Limits
  beyond decide terms input asks quantity so =
      let out = so.0.output_of in
      let P : Bool → Terms → Text → Type 0 =
      (λ decide terms text. IsOneBeyond terms left output told.1 faults said text) in
      inr (
        asked_check words (check_task decide terms input) asks content P
            (some_map (content input) (λ text. Reads text (parsed out.1.formula) × (left ≡ Some [])) (P decide terms)
            (λ text is. record {
              formula = out.1.formula;
              reads = is.0;
              quantity = quantity;
              text = out.0;
              beyond = subst (λ before. IsBeyond terms out.1.formula quantity (before, told.1) out.0) empty out.1.is;
              whole_input = is.1;
              output = out.2;
              front = so.1.0;
              whole = so.1.1;
            }) (some_both (content input) (λ text. Reads text (parsed out.1.formula)) (λ text. left ≡ Some [])
            out.1.read (so.0.read tt))),
        so.2 tt,
      )

  by_task : (t : Task) (f : Ending) → AsksFor words t → Works t f → status_of (Worked f) ≡ 6 → Limits
  by_task (job_task job terms input) f asks so is =
      let t : Task = job_task job terms input in
      at_limit (Works t) (λ s h. h.0.status s refl)
      (λ quantity at h. limited t asks (format_of job) terms input (λ P k. k) quantity at h.0.ending)
      (λ quantity h. absurd h.0.output_of) f so is
  by_task (check_task decide terms input) f asks so is =
      let t : Task = check_task decide terms input in
      at_limit (Works t) (λ s h. check_status decide terms (content input) left output told (Done s) h.0 s refl)
      (λ quantity at h. limited t asks as_formula terms input (λ P k. k) quantity at (h.0.unread tt))
      (beyond decide terms input asks) f so is
  by_task (script_task terms input) f asks so is =
      let t : Task = script_task terms input in
      at_limit (Works t) (λ s h. (Unknown, h.0.status s refl))
      (λ quantity at h. inl (inr (asked_script words t asks content (λ terms text. IsLimitedScript text)
      (some_map (content input) (λ text. IsScriptEnding text (Limit quantity at)) IsLimitedScript
      (λ text e. (at, (e.1, e.2))) h.0.ending))))
      (λ quantity h. absurd h.0.answered.ends) f so is
  by_task (text_task text) f asks so is =
      at_limit (Works (text_task text)) (λ s h. (Unknown, h.0.leaves.0))
      (λ quantity at h. absurd h.0.leaves) (λ quantity h. absurd h.0.leaves) f so is

  pub limit_is : (e : RunEnding) → Carried words content left output told e → Tells e → (IsAtEnd e → Sound)
      → status_of e ≡ 6 → Limits
  limit_is e carried = each words content left output told
      (λ e. Tells e → (IsAtEnd e → Sound) → status_of e ≡ 6 → Limits)
      (λ text none kept same tells sound is. absurd (omega (arith, is)))
      (λ kept same tells sound is. absurd (omega (arith, is)))
      (λ t f asks so tells sound is. by_task t f asks (so, tells, sound) is) e carried
