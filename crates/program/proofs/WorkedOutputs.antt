-- Worked values: what a run leaves on the output and tells of searches, and the room that it wants.
use Rattle.std.proofs.Common.{◌≡◌, ◌≢◌, ◌⊎◌, ◌∙◌, ◌≤◌, ℕ, zero, suc, false, List, [], ◌∷◌, length, take, codes, Some, Contains, inl, inr, ⊎_elim, refl, sym, ap, subst, arith}
use Rattle.std.specs.Io.KnownBytes.{Appends, Keeps}
use Rattle.std.proofs.lemmas.Bool.{true≢false}
use Rattle.truth.specs.declared.formula.Formula.{Formula}
use Rattle.truth.specs.Truth.{truth}
use Rattle.generate.specs.Made.{made}
use Rattle.trail.specs.State.{Account}
use Rattle.qdimacs_out.specs.Texts.{formula_text}
use Rattle.qscript.specs.declared.command.Command.TheVariants.{Pop}
use Rattle.qscript.specs.Reads.{done}
use Rattle.command.specs.Forms.{Text}
use Rattle.solve.specs.declared.answer.Answer.{Answer}
use Rattle.solve.specs.declared.answer.Answer.TheVariants.{Sat, Unknown, Unsat}
use Rattle.solve.specs.declared.ending.Ending.{Ending}
use Rattle.solve.specs.declared.ending.Ending.TheVariants.{Done, NoMemory, WriteFault}
use Rattle.files.specs.declared.job.Job.TheVariants.{Solve as SolveJob}
use Rattle.files.specs.Jobs.{IsReplyOn}
use Rattle.session.specs.Replies.{Leads}
use Rattle.solve.specs.Outputs.{says}
use Rattle.session.specs.Scripts.{AreAnswered, EndsScript, IsReadOut}
use Rattle.files.specs.Solve.{OfAnswer}
use Rattle.versions.specs.declared.version.Version.TheVariants.{One}
use Rattle.solve.specs.Standing.{start}
use Rattle.solve.specs.Worked.{at_thirty_six}
use Rattle.files.specs.Worked.{anything_fits}
use Rattle.session.specs.WorkedScripts.{one_refusal, two_pops, two_refusals}
use Rattle.files.proofs.JobValues.{bare, bare_is, bare_reads, line_length, sat}
use Rattle.session.proofs.ScriptValues.{at_start, both_read, first_ones, front_head, leads_two, none_told, read_length, reply_length, some_reply, too_short, whole_length}
use Rattle.program.specs.Asked.{RoomForOutput, RoomForTask, known_for, task_of}
use Rattle.program.specs.Told.{IsJobOutput, IsOutput, IsOutputOf, IsSampleOutput, IsScriptOutput}
use Rattle.program.proofs.Statuses.{absent}
use Rattle.program.proofs.WorkedVerdicts.{holds}
use Rattle.program.proofs.WorkedWords.{asks_gen, asks_script, asks_solve, gen, gen_words, only_gen, only_script, only_solve, plain, script, script_words, solve, solve_words}

-- on an output on which nothing stood
abbrev pub Leaves : List Text → Text → Text → List Account → ℕ → Type 0
Leaves words input output stops status = IsOutput words (holds input) (Some [], Some output) stops status

-- a run that does something for the command
module _ (input output : Text) (stops : List Account) (status : ℕ) where
  quiet : Contains (5 ∷ 7 ∷ []) status × Keeps (Some []) (Some output) × (stops ≡ []) → output ≡ []
  quiet h = h.1

  -- unless nothing is written
  of_solve : (output ≡ [] → ⊥) → Leaves solve_words input output stops status
      → IsJobOutput SolveJob plain (Some input) (Some [], Some output) stops status
  of_solve some h = ⊎_elim (λ q. absurd (some (quiet q)))
      (λ r. subst (λ c. IsOutputOf (task_of c) (known_for (holds input) (task_of c)) (Some [], Some output) stops
      status)
      (only_solve r.0 r.1) r.2) h

  of_script : (output ≡ [] → ⊥) → Leaves script_words input output stops status
      → IsScriptOutput plain (Some input) (Some [], Some output) stops status
  of_script some h = ⊎_elim (λ q. absurd (some (quiet q)))
      (λ r. subst (λ c. IsOutputOf (task_of c) (known_for (holds input) (task_of c)) (Some [], Some output) stops
      status)
      (only_script r.0 r.1) r.2) h

  of_gen : (output ≡ [] → ⊥) → Leaves gen_words input output stops status
      → IsSampleOutput (formula_text (made 0 3 1)) (Some [], Some output) stops status
  of_gen some h = ⊎_elim (λ q. absurd (some (quiet q)))
      (λ r. subst (λ c. IsOutputOf (task_of c) (known_for (holds input) (task_of c)) (Some [], Some output) stops
      status)
      (only_gen r.0 r.1) r.2) h

-- the line of an answer, flushed or not
pub says_sat : Leaves solve_words bare (codes "SAT\n") [] 10
says_sat = inr (
  solve,
  asks_solve,
  record {
    reply = λ _. (
      Sat,
      refl,
      (
        codes "SAT\n",
        record {
          formula = anything_fits;
          read = bare_reads;
          reply = record { right = refl; says = sat plain; told = refl };
        },
        refl,
      ),
    );
    front = λ e. absurd (omega (arith, e));
    nothing = λ h. absent (2 ∷ 3 ∷ 5 ∷ 6 ∷ []) 10 refl h;
  },
)

-- with the status of an answer no other line
other_line : OfAnswer 10 (λ a. (text : Text) × IsReplyOn SolveJob plain (Some bare) ([], []) a text
    × Appends (Some []) (Some (codes "UNSAT\n")) text) → ⊥
other_line (Sat, at, (text, on, appended)) =
    let same : codes "UNSAT\n" ≡ codes "SAT\n" = appended ∙ on.reply.says.says in
    let n : 6 ≡ 4 = ap (λ (t : Text). length t) same in omega (arith, n)
other_line (Unsat, at, rest) = absurd (let no : 10 ≡ 20 = at in omega (arith, no))
other_line (Unknown, at, rest) = absurd (let no : 10 ≡ 0 = at in omega (arith, no))

pub says_unsat : Leaves solve_words bare (codes "UNSAT\n") [] 10 → ⊥
says_unsat h = other_line ((of_solve bare (codes "UNSAT\n") [] 10
    (λ e. absurd (let no : codes "UNSAT\n" ≡ [] = e in cc)) h).reply (Sat, refl))

-- nor is nothing written
silent : OfAnswer 10 (λ a. (text : Text) × IsReplyOn SolveJob plain (Some bare) ([], []) a text
    × Appends (Some []) (Some []) text) → ⊥
silent (Sat, at, (text, on, appended)) =
    let no : 0 ≡ 4 = ap (λ (t : Text). length t) (appended ∙ on.reply.says.says) in omega (arith, no)
silent (Unsat, at, rest) = absurd (let no : 10 ≡ 20 = at in omega (arith, no))
silent (Unknown, at, rest) = absurd (let no : 10 ≡ 0 = at in omega (arith, no))

pub says_nothing : Leaves solve_words bare [] [] 10 → ⊥
says_nothing h = ⊎_elim (λ q. absent (5 ∷ 7 ∷ []) 10 refl q.0)
    (λ r. silent ((subst (λ c. IsOutputOf (task_of c) (known_for (holds bare) (task_of c)) (Some [], Some []) [] 10)
    (only_solve r.0 r.1) r.2).reply (Sat, refl))) h

-- the reply is one to the formula that the text says
other_formula : OfAnswer 20 (λ a. (text : Text) × IsReplyOn SolveJob plain (Some bare) ([], []) a text
    × Appends (Some []) (Some (codes "UNSAT\n")) text) → ⊥
other_formula (Sat, at, rest) = absurd (let no : 20 ≡ 10 = at in omega (arith, no))
other_formula (Unsat, at, (text, on, appended)) =
    absurd (true≢false (subst (λ (f : Formula). truth f.prefix f.clauses ≡ false) (bare_is on.formula on.read)
    on.reply.right))
other_formula (Unknown, at, rest) = absurd (let no : 20 ≡ 0 = at in omega (arith, no))

pub says_other_formula : Leaves solve_words bare (codes "UNSAT\n") [] 20 → ⊥
says_other_formula h = other_formula ((of_solve bare (codes "UNSAT\n") [] 20
    (λ e. absurd (let no : codes "UNSAT\n" ≡ [] = e in cc)) h).reply (Unsat, refl))

-- each UNKNOWN is told of
untold : OfAnswer 0 (λ a. (text : Text) × IsReplyOn SolveJob plain (Some bare) ([], []) a text
    × Appends (Some []) (Some (codes "UNKNOWN\n")) text) → ⊥
untold (Sat, at, rest) = absurd (let no : 0 ≡ 10 = at in omega (arith, no))
untold (Unsat, at, rest) = absurd (let no : 0 ≡ 20 = at in omega (arith, no))
untold (Unknown, at, (text, on, appended)) =
    absurd (let none : [] ≡ on.reply.told.0 ∷ [] = on.reply.told.1 in cc)

pub unknown_untold : Leaves solve_words bare (codes "UNKNOWN\n") [] 0 → ⊥
unknown_untold h = untold ((of_solve bare (codes "UNKNOWN\n") [] 0
    (λ e. absurd (let no : codes "UNKNOWN\n" ≡ [] = e in cc)) h).reply (Unknown, refl))

-- after a write fault a front of a line
abbrev head_or : Text → ℕ
head_or [] = 85
head_or (x ∷ xs) = x

-- a line begins with S or U
begins : (n : ℕ) → (n ≡ 83) ⊎ (n ≡ 85) → (text : Text) → head_or text ≡ n → (count : ℕ)
    → (head_or (take count text) ≡ 83) ⊎ (head_or (take count text) ≡ 85)
begins n is text head zero = inr (none text)
  where
    none : (text : Text) → head_or (take 0 text) ≡ 85
    none [] = refl
    none (x ∷ xs) = refl
begins n is [] head (suc count) = inr refl
begins n is (x ∷ xs) head (suc count) = ⊎_elim (λ e. inl (head ∙ e)) (λ e. inr (head ∙ e)) is

fronts : (answer : Answer) (text : Text) → IsReplyOn SolveJob plain (Some bare) ([], []) answer text → (count : ℕ)
    → (head_or (take count text) ≡ 83) ⊎ (head_or (take count text) ≡ 85)
fronts Sat text on count = begins 83 (inl refl) text (ap head_or on.reply.says.says) count
fronts Unsat text on count = begins 85 (inr refl) text (ap head_or on.reply.says.says) count
fronts Unknown text on count = begins 85 (inr refl) text (ap head_or on.reply.says) count

pub other_front : Leaves solve_words bare (codes "x") [] 4 → ⊥
other_front h =
    let is = (of_solve bare (codes "x") [] 4 (λ e. absurd (let no : codes "x" ≡ [] = e in cc)) h).front refl in
    let same : codes "x" ≡ take is.3.count is.1 = is.3.appended in
    let head : 120 ≡ head_or (take is.3.count is.1) = ap head_or same in
    ⊎_elim (λ e. absurd (let no : 120 ≡ 83 = head ∙ e in omega (arith, no)))
    (λ e. absurd (let no : 120 ≡ 85 = head ∙ e in omega (arith, no)))
    (fronts is.0 is.1 is.2 is.3.count)

-- with a status of an ending without an answer nothing is written, and nothing told
pub writes_more : (status : ℕ) → Contains (2 ∷ 3 ∷ 5 ∷ 6 ∷ []) status → Leaves solve_words bare (codes "x") [] status
    → ⊥
writes_more status ends h =
    let none : codes "x" ≡ [] = ((of_solve bare (codes "x") [] status
    (λ e. absurd (let no : codes "x" ≡ [] = e in cc)) h).nothing ends).0 in absurd (cc)

pub writes_nothing : Leaves solve_words bare [] [] 5
writes_nothing = inl ((0, omega arith, refl), refl, refl)

told_none : (status : ℕ) → Contains (2 ∷ 3 ∷ 5 ∷ 6 ∷ []) status → Leaves solve_words bare [] (at_thirty_six ∷ []) status
    → at_thirty_six ∷ [] ≡ []
told_none status ends h = ⊎_elim (λ q. q.2)
    (λ r. ((subst (λ c. IsOutputOf (task_of c) (known_for (holds bare) (task_of c)) (Some [], Some []) (at_thirty_six ∷
    []) status)
    (only_solve r.0 r.1) r.2).nothing ends).1) h

pub tells_more : (status : ℕ) → Contains (2 ∷ 3 ∷ 5 ∷ 6 ∷ []) status
    → Leaves solve_words bare [] (at_thirty_six ∷ []) status → ⊥
tells_more status ends h =
    absurd (let no : at_thirty_six ∷ [] ≡ [] = told_none status ends h in cc)

-- a script's replies are those to its commands
answered_at : (output : Text) (stops : List Account) (status : ℕ) (ending : Ending)
    → (IsReadOut ending → Contains (0 ∷ 2 ∷ 6 ∷ []) status) → (ending ≢ WriteFault → status ≢ 4)
    → EndsScript ending → IsScriptOutput plain (Some two_pops) (Some [], Some output) stops status
    → AreAnswered plain (Some two_pops) (Some [], Some output) ([], stops) ending
answered_at output stops status ending read sound ends is = record {
  version = is.version;
  commands = is.commands;
  out = is.out;
  after = is.after;
  allowed = is.allowed;
  first = is.first;
  all = λ out. is.all (read out);
  front = is.front;
  whole = λ whole. is.whole (sound whole);
  told = is.told;
  ends = ends;
}

pub both_replies : Leaves script_words two_pops two_refusals [] 0
both_replies = inr (
  script,
  asks_script,
  record {
    version = Some One;
    commands = Pop ∷ Pop ∷ [];
    out = says two_refusals;
    after = start;
    allowed = leads_two plain;
    first = ([], done, both_read);
    all = λ ends. (done, both_read);
    front = record { count = 22; within = omega arith; appended = refl };
    whole = λ sound. refl;
    told = refl;
  },
)

-- with each status but 4 they are whole
pub part_of_reply : (status : ℕ) → status ≢ 4 → Leaves script_words two_pops (codes "ref") [] status → ⊥
part_of_reply status sound h =
    too_short 3 (whole_length plain (codes "ref") [] NoMemory
    (answered_at (codes "ref") [] status NoMemory (λ read. absurd read) (λ _. sound) tt
    (of_script two_pops (codes "ref") [] status (λ e. absurd (let no : codes "ref" ≡ [] = e in cc)) h))
    (λ e. absurd (let no : NoMemory ≡ WriteFault = e in cc)))
    (λ e. omega (arith, e)) (λ e. omega (arith, e)) (λ e. omega (arith, e))

-- with 0, 2 and 6 all of them are there
pub first_alone : (status : ℕ) → Contains (0 ∷ 2 ∷ 6 ∷ []) status
    → Leaves script_words two_pops one_refusal [] status → ⊥
first_alone status ends h =
    let n : 11 ≡ 22 = read_length plain one_refusal [] (Done 0)
    (answered_at one_refusal [] status (Done 0) (λ _. ends)
    (λ _ four. absent (0 ∷ 2 ∷ 6 ∷ []) 4 refl (subst (Contains (0 ∷ 2 ∷ 6 ∷ [])) four ends)) tt
    (of_script two_pops one_refusal [] status (λ e. absurd (let no : one_refusal ≡ [] = e in cc)) h)) tt
    (λ e. absurd (let no : Done 0 ≡ WriteFault = e in cc)) in
    omega (arith, n)

-- with 4 a front of them
pub no_reply_front : Leaves script_words two_pops (codes "SAT\n") [] 4 → ⊥
no_reply_front h =
    let n : 83 ≡ 114 = front_head plain (codes "SAT\n") [] WriteFault
    (answered_at (codes "SAT\n") [] 4 WriteFault (λ read. absurd read) (λ apart. absurd (apart refl)) tt
    (of_script two_pops (codes "SAT\n") [] 4 (λ e. absurd (let no : codes "SAT\n" ≡ [] = e in cc)) h)) in
    omega (arith, n)

-- no search is told of where none was made
pub reply_told : (status : ℕ) → Leaves script_words two_pops two_refusals (at_thirty_six ∷ []) status → ⊥
reply_told status h =
    let is = of_script two_pops two_refusals (at_thirty_six ∷ []) status
    (λ e. absurd (let no : two_refusals ≡ [] = e in cc)) h in
    absurd (let no : at_thirty_six ∷ [] ≡ [] = none_told plain two_refusals (at_thirty_six ∷ []) WriteFault
    (answered_at two_refusals (at_thirty_six ∷ []) status WriteFault (λ read. absurd read)
    (λ apart. absurd (apart refl)) tt is) in cc)

-- a formula that is made is written whole, or after a write fault a front of it, or nothing without memory
pub made_whole : (input : Text) → Leaves gen_words input (formula_text (made 0 3 1)) [] 0
made_whole input = inr (
  gen,
  asks_gen,
  record {
    whole = λ _. refl;
    front = λ e. absurd (omega (arith, e));
    nothing = λ e. absurd (omega (arith, e));
    none = refl;
    ends = (0, omega arith, refl);
  },
)

pub made_more : (input : Text) → Leaves gen_words input (codes "x") [] 5 → ⊥
made_more input h =
    let none : codes "x" ≡ [] = (of_gen input (codes "x") [] 5
    (λ e. absurd (let no : codes "x" ≡ [] = e in cc)) h).nothing refl in absurd (cc)

pub made_told : (input : Text) → Leaves gen_words input (codes "x") (at_thirty_six ∷ []) 4 → ⊥
made_told input h =
    let none : at_thirty_six ∷ [] ≡ [] = (of_gen input (codes "x") (at_thirty_six ∷ []) 4
    (λ e. absurd (let no : codes "x" ≡ [] = e in cc)) h).none in absurd (cc)

pub made_otherwise : (input : Text) → Leaves gen_words input (codes "x") [] 10 → ⊥
made_otherwise input h = absent (0 ∷ 4 ∷ 5 ∷ []) 10 refl (of_gen input (codes "x") [] 10
    (λ e. absurd (let no : codes "x" ≡ [] = e in cc)) h).ends

pub sample_part : IsSampleOutput (codes "ab") (Some [], Some (codes "a")) [] 0 → ⊥
sample_part h = absurd (let no : codes "a" ≡ codes "ab" = h.whole refl in
    let n : 1 ≡ 2 = ap (λ (t : Text). length t) no in omega (arith, n))

pub sample_front : IsSampleOutput (codes "ab") (Some [], Some (codes "a")) [] 4
sample_front = record {
  whole = λ e. absurd (omega (arith, e));
  front = λ _. record { count = 1; within = omega arith; appended = refl };
  nothing = λ e. absurd (omega (arith, e));
  none = refl;
  ends = (1, omega arith, refl);
}

pub sample_no_front : IsSampleOutput (codes "ab") (Some [], Some (codes "abc")) [] 4 → ⊥
sample_no_front h =
    let front = h.front refl in
    let same : codes "abc" ≡ take front.count (codes "ab") = front.appended in
    by front.count same
  where
    by : (count : ℕ) → codes "abc" ≡ take count (codes "ab") → ⊥
    by zero e = absurd (let n : 3 ≡ 0 = ap (λ (t : Text). length t) e in omega (arith, n))
    by (suc zero) e = absurd (let n : 3 ≡ 1 = ap (λ (t : Text). length t) e in omega (arith, n))
    by (suc (suc n)) e = absurd (let long : 3 ≡ 2 = ap (λ (t : Text). length t) e ∙ short n in omega (arith, long))
      where
        short : (n : ℕ) → length (take (suc (suc n)) (codes "ab")) ≡ 2
        short zero = refl
        short (suc n) = refl

-- the room that a run wants: eight bytes for a solve, 22 for the replies, and the length of what is made
pub room_for_solve : RoomForOutput solve_words (holds bare) (λ n. n ≤ 8)
room_for_solve c asks = subst (λ d. RoomForTask (task_of d) (known_for (holds bare) (task_of d)) (λ n. n ≤ 8)) (sym
    (only_solve c asks))
    (λ f a text read right says. line_length plain f a text says)

pub no_room_for_solve : RoomForOutput solve_words (holds bare) (λ n. n ≤ 3) → ⊥
no_room_for_solve room =
    let few : 4 ≤ 3 = room solve asks_solve anything_fits Sat (codes "SAT\n") bare_reads refl (sat plain) in
    omega (arith, few)

pub room_for_script : RoomForOutput script_words (holds two_pops) (λ n. n ≤ 22)
room_for_script c asks = subst (λ d. RoomForTask (task_of d) (known_for (holds two_pops) (task_of d)) (λ n. n ≤ 22))
    (sym (only_script c asks))
    (λ version commands out after leads first.
    let long = reply_length out (some_reply plain commands (first_ones version commands first) out after
    (subst (λ s. Leads plain s commands out after) (at_start version commands first) leads))
    (length out.text) refl in
    ⊎_elim (λ n. omega (arith, n)) (⊎_elim (λ n. omega (arith, n)) (λ n. omega (arith, n))) long)

pub no_room_for_script : RoomForOutput script_words (holds two_pops) (λ n. n ≤ 21) → ⊥
no_room_for_script room =
    let few : 22 ≤ 21 = room script asks_script (Some One) (Pop ∷ Pop ∷ []) (says two_refusals) start (leads_two plain)
    ([], done, both_read) in
    omega (arith, few)

pub room_for_gen : (input : Text) → RoomForOutput gen_words (holds input) (λ n. n ≡ length (formula_text (made 0 3 1)))
room_for_gen input c asks = subst (λ d. RoomForTask (task_of d) (known_for (holds input) (task_of d))
    (λ n. n ≡ length (formula_text (made 0 3 1)))) (sym (only_gen c asks)) refl

pub no_room_for_gen : (input : Text) → RoomForOutput gen_words (holds input)
    (λ n. n ≢ length (formula_text (made 0 3 1))) → ⊥
no_room_for_gen input room = room gen asks_gen refl
