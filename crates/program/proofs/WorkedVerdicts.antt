-- Worked values: what a status says of words and input, the line on the error output, and valid inputs.
use Rattle.std.proofs.Common.{◌≡◌, ◌≢◌, ◌∙◌, ◌<◌, ◌≤◌, ◌-◌, ◌^◌, ℕ, zero, suc, take, Bool, true, false, [], ◌∷◌, codes, Option, Some, None, inl, inr, refl, sym, subst, arith}
use Rattle.std.specs.Prelude.{string_bytes}
use Rattle.std.specs.List.{AllByRecursion}
use Rattle.std.specs.Fmt.{digits}
use Rattle.std.specs.declared.io.ErrorKind.{ErrorKind}
use Rattle.std.specs.declared.io.ErrorKind.TheVariants.{OutOfMemory}
use Rattle.ports.specs.Bytes.{AppendsFront}
use Rattle.ports.specs.Causes.{Rose}
use Rattle.steps.specs.Counter.{step_limit}
use Rattle.truth.specs.declared.formula.Formula.{Formula}
use Rattle.truth.specs.Truth.{truth}
use Rattle.calculus.specs.Limits.{propagation_limit}
use Rattle.calculus.specs.Search.{IsRefuted}
use Rattle.calculus.specs.Search.IsRefuted.{bad_clause}
use Rattle.calculus.proofs.Lists.{contains_head, contains_nil}
use Rattle.search.specs.Counting.{size_of}
use Rattle.reading.specs.declared.refusal.Quantity.TheVariants.{Bytes, Variables}
use Rattle.qdimacs.specs.Reads.{Reads}
use Rattle.qdimacs.specs.Rules.{limit, parsed, refused}
use Rattle.qdimacs.proofs.Before.{one_outcome}
use Rattle.qdimacs.proofs.Outcomes.{computed_reads}
use Rattle.versions.specs.declared.version.Version.TheVariants.{One}
use Rattle.session.specs.Scripts.{IsScriptOf}
use Rattle.qscript.specs.Reads.{Ending as ScriptEnding, done, limit as script_limit, refused as script_refused}
use Rattle.qscript.proofs.Outcomes.{computed_reading, one_reading}
use Rattle.command.specs.Forms.{Text}
use Rattle.command.specs.declared.command.Command.TheVariants.{Demo, Read}
use Rattle.command.specs.declared.command.Verb.TheVariants.{Cert, Check, Solve, Trace}
use Rattle.command.specs.declared.command.SolveForm.TheVariants.{Qdo}
use Rattle.solve.specs.declared.answer.Answer.TheVariants.{Sat, Unknown, Unsat}
use Rattle.solve.specs.declared.ending.Ending.{Ending}
use Rattle.solve.specs.declared.ending.Ending.TheVariants.{CheckLimit, Done, Limit, NoMemory, ReadFault, Refused, WriteFault}
use Rattle.files.specs.Inputs.{Says}
use Rattle.files.specs.Inputs.Format.{as_formula}
use Rattle.files.specs.Solve.{OfAnswer, Solves}
use Rattle.solve.specs.Worked.{nothing_fits}
use Rattle.files.specs.Worked.{anything_fits}
use Rattle.files.proofs.JobValues.{bare, bare_is, bare_reads}
use Rattle.program.specs.Asked.{task_of}
use Rattle.program.specs.Complete.{IsValid, IsValidFor}
use Rattle.program.specs.Run.{EndsIn, HasTruth, IsBeyond, IsCheckBeyond, IsErrorLine, IsErrorOutput, IsLimited, IsLimitedCheck, IsLimitedScript, IsRefused, IsRefusedScript, IsSlow, IsUndecidedCheck, IsVerdict, refused_line, status_of}
use Rattle.program.specs.Words.{IsRefusal}
use Rattle.program.specs.declared.ending.RunEnding.TheVariants.{Usage, Worked}
use Rattle.program.proofs.Solving.{other_verdict}
use Rattle.program.proofs.Statuses.{absent}
use Rattle.program.proofs.WorkedCommands.{some_input}
use Rattle.program.proofs.WorkedWords.{any_of_script, any_of_solve, asks_gen, asks_script, asks_solve, either_of_script, either_of_solve, first_one, gen, gen_words, is_sample, no_check, no_check_of_script, no_words, of_solve, only_gen, only_script, only_solve, plain, script, script_words, solve, solve_words, to_solve, whole}

-- each input holds this text
abbrev pub holds : Text → Text → Option Text
holds text name = Some text

-- a formula that is false, a text that is malformed on line 1, and one that goes beyond a limit there
abbrev false_text : Text
false_text = codes "p cnf 0 1\n0\n"

abbrev bad_text : Text
bad_text = codes "p dnf 1 0\n"

abbrev pub great_text : Text
great_text = codes "p cnf 1048577 0\n"

false_reads : Reads false_text (parsed nothing_fits)
false_reads = computed_reads false_text (parsed nothing_fits) refl

false_is : (f : Formula) → Reads false_text (parsed f) → f ≡ nothing_fits
false_is f reads =
    let same : parsed f ≡ parsed nothing_fits =
    one_outcome false_text (parsed f) (parsed nothing_fits) reads false_reads in cc

bad_reads : Reads bad_text (refused 11 1)
bad_reads = computed_reads bad_text (refused 11 1) refl

pub great_reads : Reads great_text (limit Variables 1)
great_reads = computed_reads great_text (limit Variables 1) refl

not_refused : (number at : ℕ) → Reads bare (refused number at) → ⊥
not_refused number at reads =
    absurd (let same : parsed anything_fits ≡ refused number at =
    one_outcome bare (parsed anything_fits) (refused number at) bare_reads reads in cc)

not_limited : (quantity : _) (at : ℕ) → Reads bare (limit quantity at) → ⊥
not_limited quantity at reads =
    absurd (let same : parsed anything_fits ≡ limit quantity at =
    one_outcome bare (parsed anything_fits) (limit quantity at) bare_reads reads in cc)

true_is : (value : Bool) → HasTruth as_formula bare value → value ≡ true
true_is value (f, reads, is) =
    sym (subst (λ (g : Formula). truth g.prefix g.clauses ≡ value) (bare_is f reads) is)

false_truth : (value : Bool) → HasTruth as_formula false_text value → value ≡ false
false_truth value (f, reads, is) =
    sym (subst (λ (g : Formula). truth g.prefix g.clauses ≡ value) (false_is f reads) is)

-- scripts that end well, that are malformed, and that have a command
abbrev header : Text
header = codes "p qscript 1\n"

header_reads : IsScriptOf header [] done
header_reads = (Some One, computed_reading header)

abbrev bad_script : Text
bad_script = codes "p qscript 1\nsat\n"

bad_script_reads : IsScriptOf bad_script [] (script_refused 31 2)
bad_script_reads = (Some One, computed_reading bad_script)

ends_well : (e : ScriptEnding) → EndsIn header e → e ≡ done
ends_well e (commands, reads) =
    sym (one_reading header (Some One) reads.0 [] commands done e (computed_reading header) reads.1).2

ends_badly : (e : ScriptEnding) → EndsIn bad_script e → e ≡ script_refused 31 2
ends_badly e (commands, reads) =
    sym (one_reading bad_script (Some One) reads.0 [] commands (script_refused 31 2) e (computed_reading bad_script)
    reads.1).2

-- a true formula has status 10
pub answered_true : IsVerdict solve_words (holds bare) 10
answered_true = record {
  sat = λ _. to_solve (holds bare) (λ format terms text. HasTruth format text true) (anything_fits, bare_reads, refl);
  unsat = λ e. absurd (omega (arith, e));
  unknown = λ e. absurd (omega (arith, e));
  slow = λ e. absurd (omega (arith, e));
  solved = λ _. inl (inl (inl (to_solve (holds bare) (λ format terms text. OfAnswer 10 (Solves format terms text))
      (Sat, refl, (anything_fits, bare_reads, refl)))));
  refused = λ e. absurd (omega (arith, e));
  limit = λ e. absurd (omega (arith, e));
  usage = λ e. absurd (omega (arith, e));
  unasked = λ none. absurd (none solve asks_solve);
}

-- a malformed text 2, one beyond a limit 6, and no words 7
pub answered_refused : IsVerdict solve_words (holds bad_text) 2
answered_refused = other_verdict solve_words (holds bad_text) 2 refl
    (λ _. inl (to_solve (holds bad_text) (λ format terms text. IsRefused format text) (11, 1, bad_reads)))
    (λ e. absurd (omega (arith, e))) (λ e. absurd (omega (arith, e))) (λ none. absurd (none solve asks_solve))

pub answered_limit : IsVerdict solve_words (holds great_text) 6
answered_limit = other_verdict solve_words (holds great_text) 6 refl (λ e. absurd (omega (arith, e)))
    (λ _. inl (inl (to_solve (holds great_text) (λ format terms text. IsLimited format text)
    (Variables, 1, great_reads))))
    (λ e. absurd (omega (arith, e))) (λ none. absurd (none solve asks_solve))

pub answered_usage : IsVerdict [] (holds bare) 7
answered_usage = other_verdict [] (holds bare) 7 refl (λ e. absurd (omega (arith, e)))
    (λ e. absurd (omega (arith, e))) (λ _. no_words) (λ _. (1, omega arith, refl))

-- a script that ends well, and a formula that is made, 0
pub answered_script : IsVerdict script_words (holds header) 0
answered_script = record {
  sat = λ e. absurd (omega (arith, e));
  unsat = λ e. absurd (omega (arith, e));
  unknown = λ _. inl (inl (inr (script, asks_script, ([], header_reads))));
  slow = λ _. inl (inl (inr (script, asks_script, ([], header_reads))));
  solved = λ _. inl (inl (inr (script, asks_script, (refl, ([], header_reads)))));
  refused = λ e. absurd (omega (arith, e));
  limit = λ e. absurd (omega (arith, e));
  usage = λ e. absurd (omega (arith, e));
  unasked = λ none. absurd (none script asks_script);
}

pub answered_sample : IsVerdict gen_words (holds bare) 0
answered_sample = record {
  sat = λ e. absurd (omega (arith, e));
  unsat = λ e. absurd (omega (arith, e));
  unknown = λ _. inl (inr is_sample);
  slow = λ _. inl (inr is_sample);
  solved = λ _. inl (inr is_sample);
  refused = λ e. absurd (omega (arith, e));
  limit = λ e. absurd (omega (arith, e));
  usage = λ e. absurd (omega (arith, e));
  unasked = λ none. absurd (none gen asks_gen);
}

-- a false formula hasn't status 10, nor a true one 20
pub false_as_true : IsVerdict solve_words (holds false_text) 10 → ⊥
false_as_true h =
    absurd (let is : true ≡ false = false_truth true (of_solve (holds false_text)
    (λ format terms text. HasTruth format text true) (h.sat refl)) in cc)

pub true_as_false : IsVerdict solve_words (holds bare) 20 → ⊥
true_as_false h =
    absurd (let is : false ≡ true = true_is false (of_solve (holds bare)
    (λ format terms text. HasTruth format text false) (h.unsat refl)) in cc)

-- nor does one that is decided within the budget have 0
pub true_as_unknown : IsVerdict solve_words (holds bare) 0 → ⊥
true_as_unknown h =
    let beyond = any_of_solve (holds bare) IsBeyond (λ terms text. EndsIn text done)
    (first_one (h.unknown refl) (no_check (holds bare) IsUndecidedCheck)) in
    let low : 2 ^ 64 - 1 < 16 = subst (λ (g : Formula). whole < step_limit 0 (size_of g.prefix))
    (bare_is beyond.0 beyond.1) beyond.2 in omega (arith, low)

empty_refuted : IsRefuted [] ([] ∷ []) []
empty_refuted = bad_clause [] (contains_head [] []) (λ l i. absurd (contains_nil l i))

pub refuted_as_unknown : IsVerdict solve_words (holds false_text) 0 → ⊥
refuted_as_unknown h =
    let slow = any_of_solve (holds false_text) IsSlow (λ terms text. EndsIn text done)
    (first_one (h.slow refl) (no_check (holds false_text) IsUndecidedCheck)) in
    let low : 2 ^ 64 - 1 < 0 = subst (λ (g : Formula). IsRefuted g.prefix g.clauses []
    → whole < propagation_limit (size_of g.prefix)) (false_is slow.0 slow.1) slow.2 empty_refuted in
    omega (arith, low)

-- an answer is one to the formula, whichever it is
answer_of_true : OfAnswer 20 (Solves as_formula plain bare) → ⊥
answer_of_true (Sat, at, solves) = absurd (let no : 20 ≡ 10 = at in omega (arith, no))
answer_of_true (Unsat, at, (f, reads, is)) =
    absurd (let no : false ≡ true = true_is false (f, reads, is) in cc)
answer_of_true (Unknown, at, solves) = absurd (let no : 20 ≡ 0 = at in omega (arith, no))

pub true_solved : IsVerdict solve_words (holds bare) 20 → ⊥
true_solved h = answer_of_true (any_of_solve (holds bare) (λ format terms text. OfAnswer 20 (Solves format terms text))
    (λ terms text. (20 ≡ 0) × EndsIn text done)
    (first_one (h.solved (Unsat, refl)) (λ c. no_check (holds bare) IsUndecidedCheck c.1)))

-- a formula isn't refused, nor a script that ends well; and neither goes beyond a limit
pub true_as_refused : IsVerdict solve_words (holds bare) 2 → ⊥
true_as_refused h =
    let is = either_of_solve (holds bare) (λ format terms text. IsRefused format text)
    (λ terms text. IsRefusedScript text) (h.refused refl) in not_refused is.0 is.1 is.2

pub script_as_refused : IsVerdict script_words (holds header) 2 → ⊥
script_as_refused h =
    let is = either_of_script (holds header) (λ format terms text. IsRefused format text)
    (λ terms text. IsRefusedScript text) (h.refused refl) in
    absurd (let no : script_refused is.0 is.1 ≡ done = ends_well (script_refused is.0 is.1) is.2 in cc)

pub true_as_limit : IsVerdict solve_words (holds bare) 6 → ⊥
true_as_limit h =
    let is = either_of_solve (holds bare) (λ format terms text. IsLimited format text)
    (λ terms text. IsLimitedScript text)
    (first_one (h.limit refl) (no_check (holds bare) IsLimitedCheck)) in not_limited is.0 is.1 is.2

pub script_as_limit : IsVerdict script_words (holds header) 6 → ⊥
script_as_limit h =
    let is = either_of_script (holds header) (λ format terms text. IsLimited format text)
    (λ terms text. IsLimitedScript text)
    (first_one (h.limit refl) (no_check_of_script (holds header) IsLimitedCheck)) in
    absurd (let no : script_limit is.0 ≡ done = ends_well (script_limit is.0) is.1 in cc)

-- a malformed script doesn't end well
pub bad_script_done : IsVerdict script_words (holds bad_script) 0 → ⊥
bad_script_done h =
    let is = any_of_script (holds bad_script) IsBeyond (λ terms text. EndsIn text done)
    (first_one (h.unknown refl) (no_check_of_script (holds bad_script) IsUndecidedCheck)) in
    absurd (let no : done ≡ script_refused 31 2 = ends_badly done is in cc)

-- words that ask for a command are no wrong ones, and wrong ones have no other status than 5 and 7
pub solve_as_usage : IsVerdict solve_words (holds bare) 7 → ⊥
solve_as_usage h = h.usage refl solve asks_solve

pub unasked_true : IsVerdict [] (holds bare) 10 → ⊥
unasked_true h = absent (5 ∷ 7 ∷ []) 10 refl (h.unasked no_words)

-- the line of a malformed text, of one beyond a limit, and of faults
pub refused_says : IsErrorLine solve_words (holds bad_text) 2 (codes "qbf: line 1: refused 11\n")
unfolding digits
refused_says = record {
  refused = λ _. (
    11,
    1,
    refl,
    inl (to_solve (holds bad_text)
        (λ format terms text. Says format text (refused 11 1)) bad_reads),
  );
  limit = λ e. absurd (omega (arith, e));
  other = λ n _ _. absurd (n refl);
}

pub limit_says : IsErrorLine solve_words (holds great_text) 6 (codes "qbf: line 1: limit variables\n")
unfolding digits
limit_says = record {
  refused = λ e. absurd (omega (arith, e));
  limit = λ _. inl (
    Variables,
    1,
    refl,
    inl (to_solve (holds great_text) (λ format terms text. Says format text (limit Variables 1))
        great_reads),
  );
  other = λ _ n _. absurd (n refl);
}

pub says_nothing : IsErrorLine solve_words (holds bare) 10 []
says_nothing = record {
  refused = λ e. absurd (omega (arith, e));
  limit = λ e. absurd (omega (arith, e));
  other = λ _ _ _. refl;
}

pub true_says_refused : (line : Text) → IsErrorLine solve_words (holds bare) 2 line → ⊥
true_says_refused line h =
    let is = h.refused refl in
    not_refused is.0 is.1 (either_of_solve (holds bare) (λ format terms text. Says format text (refused is.0 is.1))
    (λ terms text. EndsIn text (script_refused is.0 is.1)) is.3)

pub script_says_refused : (line : Text) → IsErrorLine script_words (holds header) 2 line → ⊥
script_says_refused line h =
    let is = h.refused refl in
    let ends = either_of_script (holds header) (λ format terms text. Says format text (refused is.0 is.1))
    (λ terms text. EndsIn text (script_refused is.0 is.1)) is.3 in
    absurd (let no : script_refused is.0 is.1 ≡ done = ends_well (script_refused is.0 is.1) ends in cc)

pub no_refusal : IsErrorLine solve_words (holds bad_text) 2 [] → ⊥
no_refusal h =
    let is = h.refused refl in absurd (let no : [] ≡ refused_line is.0 is.1 = is.2 in cc)

pub true_says_limit : (line : Text) → IsErrorLine solve_words (holds bare) 6 line → ⊥
true_says_limit line h =
    let is = first_one (h.limit refl) (λ c. no_check (holds bare) (IsCheckBeyond c.0) c.2) in
    not_limited is.0 is.1 (either_of_solve (holds bare) (λ format terms text. Says format text (limit is.0 is.1))
    (λ terms text. (is.0 ≡ Bytes) × EndsIn text (script_limit is.1)) is.3)

pub other_fault : IsErrorLine solve_words (holds bare) 4 (codes "qbf: read fault\n") → ⊥
other_fault h =
    absurd (let same : codes "qbf: read fault\n" ≡ codes "qbf: write fault\n" =
    h.other (λ e. omega (arith, e)) (λ e. omega (arith, e)) (λ e. omega (arith, e)) in cc)

pub no_memory_says : IsErrorLine solve_words (holds bare) 5 [] → ⊥
no_memory_says h =
    absurd (let same : [] ≡ codes "qbf: no memory\n" =
    h.other (λ e. omega (arith, e)) (λ e. omega (arith, e)) (λ e. omega (arith, e)) in cc)

-- a front of the line stands on the error output, and all of it where no fault was counted
unrisen : Rose 0 0 → ⊥
unrisen rose = let low : 1 ≤ 0 = rose in omega (arith, low)

pub stands : IsErrorOutput solve_words (holds bare) (0, 0) (Some []) (Some []) 10
stands = record {
  line = [];
  is = says_nothing;
  front = record { count = 0; within = omega arith; appended = refl };
  whole = λ _. refl;
}

no_front : (count : ℕ) → codes "x" ≡ take count [] → ⊥
no_front zero e = absurd (let no : codes "x" ≡ [] = e in cc)
no_front (suc n) e = absurd (let no : codes "x" ≡ [] = e in cc)

pub stands_more : IsErrorOutput solve_words (holds bare) (0, 1) (Some []) (Some (codes "x")) 10 → ⊥
stands_more h =
    let none : h.line ≡ [] = h.is.other (λ e. omega (arith, e)) (λ e. omega (arith, e)) (λ e. omega (arith, e)) in
    let front = subst (λ line. AppendsFront (Some []) (Some (codes "x")) line) none h.front in
    no_front front.count front.appended

pub stands_less : IsErrorOutput solve_words (holds bare) (0, 0) (Some []) (Some []) 5 → ⊥
stands_less h =
    let line : h.line ≡ codes "qbf: no memory\n" =
    h.is.other (λ e. omega (arith, e)) (λ e. omega (arith, e)) (λ e. omega (arith, e)) in
    absurd (let no : [] ≡ codes "qbf: no memory\n" = h.whole unrisen ∙ line in cc)

-- statuses of endings
pub statuses : AllByRecursion (λ (pair : Ending × ℕ). status_of (Worked pair.0) ≡ pair.1)
    ((Done 10, 10) ∷ (Refused 11 1, 2) ∷ (ReadFault, 3) ∷ (WriteFault, 4) ∷ (NoMemory, 5) ∷ (Limit Bytes 1, 6)
    ∷ (CheckLimit Variables, 6) ∷ [])
statuses = (refl, (refl, (refl, (refl, (refl, (refl, (refl, tt)))))))

-- valid inputs: formulas, scripts that end well, and none
pub valid_formula : IsValid solve_words (holds bare)
valid_formula = record {
  command = solve;
  asks = asks_solve;
  valid = λ c asks. subst (λ d. IsValidFor (task_of d) (holds bare)) (sym (only_solve c asks)) (
    anything_fits,
    bare_reads,
  );
}

pub valid_script : IsValid script_words (holds header)
valid_script = record {
  command = script;
  asks = asks_script;
  valid = λ c asks. subst (λ d. IsValidFor (task_of d) (holds header)) (sym (only_script c asks)) ([], header_reads);
}

pub valid_without : IsValid gen_words (λ name. None)
valid_without = record {
  command = gen;
  asks = asks_gen;
  valid = λ c asks. subst (λ d. IsValidFor (task_of d) (λ name. None)) (sym (only_gen c asks)) tt;
}

bad_formula : (f : Formula) × Reads bad_text (parsed f) → ⊥
bad_formula (f, reads) =
    absurd (let same : refused 11 1 ≡ parsed f = one_outcome bad_text (refused 11 1) (parsed f) bad_reads reads in cc)

pub all_valid : AllByRecursion (λ c. IsValidFor (task_of c) (holds bare))
    (Read (Solve Qdo) some_input ∷ Read Trace some_input ∷ Read (Cert true true) some_input
    ∷ Read (Check true) some_input ∷ gen ∷ Demo 0 1 ∷ [])
all_valid = (
  (anything_fits, bare_reads),
  (
    (anything_fits, bare_reads),
    (
      (anything_fits, bare_reads),
      ((anything_fits, bare_reads), (tt, (tt, tt))),
    ),
  ),
)

pub none_valid : AllByRecursion (λ c. IsValidFor (task_of c) (holds bad_text) → ⊥)
    (Read (Solve Qdo) some_input ∷ Read Trace some_input ∷ Read (Cert true true) some_input
    ∷ Read (Check true) some_input ∷ [])
none_valid = (bad_formula, (bad_formula, (bad_formula, (bad_formula, tt))))

pub bad_script_invalid : IsValid script_words (holds bad_script) → ⊥
bad_script_invalid h =
    let is : EndsIn bad_script done = h.valid script asks_script in
    absurd (let no : done ≡ script_refused 31 2 = ends_badly done is in cc)

pub untold_invalid : IsValid solve_words (λ name. None) → ⊥
untold_invalid h = h.valid solve asks_solve

pub wrong_words_invalid : IsValid [] (holds bare) → ⊥
wrong_words_invalid h = no_words h.command h.asks

-- words that the system can't give
pub wants_memory : (kind : ErrorKind) → IsRefusal kind (Worked NoMemory)
wants_memory kind = tt

pub no_usage : (text : _) → IsRefusal OutOfMemory (Usage text) → ⊥
no_usage text h = h.0 refl

pub wrong_word : (kind : ErrorKind) (text : _) → kind ≢ OutOfMemory
    → string_bytes text ≡ codes "error: a word isn't UTF-8\n" → IsRefusal kind (Usage text)
wrong_word kind text other says = (other, says)

pub says_why : (kind : ErrorKind) (text : _) → IsRefusal kind (Usage text)
    → string_bytes text ≡ codes "error: a word isn't UTF-8\n"
says_why kind text h = h.1

pub no_other_ending : (kind : ErrorKind) → AllByRecursion (λ e. IsRefusal kind (Worked e) → ⊥)
    (Refused 11 1 ∷ ReadFault ∷ WriteFault ∷ Limit Bytes 1 ∷ CheckLimit Variables ∷ [])
no_other_ending kind = (λ h. h, (λ h. h, (λ h. h, (λ h. h, (λ h. h, tt)))))

pub no_answer_for_words : (kind : ErrorKind) → IsRefusal kind (Worked (Done 0)) → ⊥
no_answer_for_words kind h = h
