-- Worked values: what a status says of a certificate that is checked, and what the check writes.
use Rattle.std.proofs.Common.{◌≡◌, ◌∙◌, ◌<◌, ◌-◌, ◌^◌, ℕ, zero, suc, Bool, true, false, List, [], ◌∷◌, codes, Contains, IfSome, Option, Some, None, ap, ap₂, inl, ⊎_elim, refl, sym, subst, take, arith}
use Rattle.std.proofs.lemmas.Bool.{false≢true}
use Rattle.std.specs.Io.KnownBytes.{Appends}
use Rattle.steps.specs.Counter.{step_limit}
use Rattle.trail.specs.State.{Account}
use Rattle.truth.specs.declared.formula.Formula.{Formula}
use Rattle.truth.specs.Truth.{truth}
use Rattle.search.specs.Counting.{size_of}
use Rattle.reading.specs.declared.refusal.Quantity.{Quantity}
use Rattle.reading.specs.declared.refusal.Quantity.TheVariants.{Variables}
use Rattle.qdimacs.specs.Rules.{limit, parsed}
use Rattle.qdimacs.proofs.Before.{one_outcome}
use Rattle.command.specs.Forms.{AreAlike, Asks, Flag, Text, check_flags, verb_flags, verb_word}
use Rattle.command.specs.Forms.Flag.{the_decide}
use Rattle.command.specs.declared.command.Command.{Command}
use Rattle.command.specs.declared.command.Command.TheVariants.{Demo, Gen, Read}
use Rattle.command.specs.declared.command.Verb.{Verb}
use Rattle.command.specs.declared.command.Verb.TheVariants.{Cert, Check, Script, Solve, Trace}
use Rattle.command.proofs.AccountLemmas.{one_command}
use Rattle.solve.specs.Terms.{Terms}
use Rattle.solve.specs.declared.answer.Answer.TheVariants.{Unsat}
use Rattle.files.specs.declared.check.Outcome.{Outcome}
use Rattle.files.specs.declared.check.Outcome.TheVariants.{Beyond, Checked, Undecided, Unknown}
use Rattle.solve.specs.declared.ending.Ending.TheVariants.{CheckLimit, Done}
use Rattle.files.specs.Checks.{IsCheckOn, check_ending}
use Rattle.files.specs.Inputs.Format.{as_formula}
use Rattle.files.specs.Worked.{anything_fits}
use Rattle.files.proofs.JobValues.{bare, bare_is, bare_reads}
use Rattle.program.specs.Asked.{AskedEither, IsSample, OfCheckTask, OfFormula, OfScript, task_of}
use Rattle.program.specs.Complete.{IsValid, IsValidFor}
use Rattle.program.specs.Run.{EndsIn, IsBeyond, IsLimited, IsLimitedCheck, IsLimitedScript, IsUndecidedCheck, IsVerdict, check_limit_line}
use Rattle.program.specs.Told.{IsCheckOutput, IsLimitOf, IsOneBeyond, IsSound}
use Rattle.qscript.specs.Reads.{done}
use Rattle.program.proofs.Solving.{other_verdict}
use Rattle.program.proofs.WorkedVerdicts.{great_reads, great_text, holds}
use Rattle.program.proofs.WorkedWords.{bare_input, is_bare, letter, no_part, plain, whole}

-- `qbf check`
abbrev pub check_words : List Text
check_words = codes "qbf" ∷ codes "check" ∷ []

abbrev pub check : Command
check = Read (Check false) bare_input

pub asks_check : Asks check_words check
asks_check = (codes "qbf", [], refl, no_part (check_flags false) refl)

is_checking : (v : Verb) → verb_word v ≡ codes "check" → ((f : Flag) → verb_flags v f ≡ check_flags false f)
    → v ≡ Check false
is_checking (Check decide) word flags = ap (λ d. Check d) (flags the_decide)
is_checking (Solve form) word flags = absurd (let n : 111 ≡ 104 = ap (letter 1) word in omega (arith, n))
is_checking Trace word flags = absurd (let n : 114 ≡ 104 = ap (letter 1) word in omega (arith, n))
is_checking (Cert binary trim) word flags = absurd (let n : 101 ≡ 104 = ap (letter 1) word in omega (arith, n))
is_checking Script word flags = absurd (let n : 99 ≡ 104 = ap (letter 1) word in omega (arith, n))

is_check : (c : Command) → AreAlike c check → c ≡ check
is_check (Read v i) alike =
    ap₂ (λ w j. Read w j) (is_checking v alike.words alike.flags)
    (is_bare i alike.budgets alike.restarts alike.kept alike.names)
is_check (Gen seed vars clauses) alike = absurd (let n : 101 ≡ 104 = ap (letter 1) alike.words in omega (arith, n))
is_check (Demo seed count) alike = absurd (let n : 101 ≡ 104 = ap (letter 1) alike.words in omega (arith, n))

pub only_check : (c : Command) → Asks check_words c → c ≡ check
only_check c asks = is_check c (one_command check_words c check asks asks_check)

-- a text beyond a limit has status 6, with `check` too
pub checked_limit : IsVerdict check_words (holds great_text) 6
checked_limit = other_verdict check_words (holds great_text) 6 refl (λ e. absurd (omega (arith, e)))
    (λ _. inl (inl (check, asks_check, (Variables, 1, great_reads))))
    (λ e. absurd (omega (arith, e))) (λ none. absurd (none check asks_check))

-- where the check formula isn't to be decided, 0 comes only where the budget is too low for the formula
low_for_true : AskedEither check_words (holds bare) IsBeyond (λ terms text. EndsIn text done) → ⊥
low_for_true h = ⊎_elim
    (λ f. let is = subst (λ d. OfFormula (task_of d) (holds bare) IsBeyond) (only_check f.0 f.1) f.2 in
    let low : 2 ^ 64 - 1 < 16 = subst (λ (g : Formula). whole < step_limit 0 (size_of g.prefix))
    (bare_is is.0 is.1) is.2 in omega (arith, low))
    (λ s. subst (λ d. OfScript (task_of d) (holds bare) (λ terms text. EndsIn text done)) (only_check s.0 s.1) s.2) h

pub true_as_unknown : IsVerdict check_words (holds bare) 0 → ⊥
true_as_unknown h = ⊎_elim
    (λ any. ⊎_elim low_for_true (λ s. subst (λ d. IsSample (task_of d)) (only_check s.0 s.1) s.2) any)
    (λ c. let is = subst (λ d. OfCheckTask (task_of d) (holds bare) IsUndecidedCheck) (only_check c.0 c.1) c.2 in
    absurd (false≢true is.3.is.0)) (h.unknown refl)

-- a formula is a valid input
pub valid_check : IsValid check_words (holds bare)
valid_check = record {
  command = check;
  asks = asks_check;
  valid = λ c asks. subst (λ d. IsValidFor (task_of d) (holds bare)) (sym (only_check c asks)) (
    anything_fits,
    bare_reads,
  );
}

same_status : (n m : ℕ) → Done n ≡ Done m → n ≡ m
same_status n m e = cc

-- a circuit that certifies a true formula is none of a false one
true_as_false : (outcome : Outcome) (text : Text) → check_ending outcome ≡ Done 20
    → IsCheckOn true plain (Some bare) ([], []) outcome text → ⊥
true_as_false Unknown text end on = absurd (let no = same_status 0 20 end in omega (arith, no))
true_as_false (Checked true) text end on = absurd (let no = same_status 10 20 end in omega (arith, no))
true_as_false (Checked false) text end on =
    absurd (false≢true (sym (subst (λ (g : Formula). truth g.prefix g.clauses ≡ false) (bare_is on.formula on.read)
    on.is.certified.right)))
true_as_false Undecided text end on = absurd (let no = same_status 0 20 end in omega (arith, no))
true_as_false (Beyond quantity) text end on = absurd (let no : CheckLimit quantity ≡ Done 20 = end in cc)

pub wins_for_false : IsCheckOutput true plain (Some bare) (Some [], Some (codes "WINS\n")) [] 20 → ⊥
wins_for_false h = let is = h.reply (Unsat, refl) in true_as_false is.0 is.1 is.2 is.3

-- with a status of an ending without an answer nothing is written
pub writes_more : (status : ℕ) → Contains (2 ∷ 3 ∷ 5 ∷ []) status
    → IsCheckOutput true plain (Some bare) (Some [], Some (codes "WINS\n")) [] status → ⊥
writes_more status ends h = let none : codes "WINS\n" ≡ [] = (h.nothing ends).0 in absurd (cc)

-- with 6 nothing is written only where the text goes beyond a limit, and this one is a formula
within_limits : IfSome (Some bare) (IsLimited as_formula) → ⊥
within_limits is =
    let same : limit is.0 is.1 ≡ parsed anything_fits =
    one_outcome bare (limit is.0 is.1) (parsed anything_fits) is.2 bare_reads in
    absurd (cc)

pub silent_for_true : IsCheckOutput true plain (Some bare) (Some [], Some []) [] 6
    → (quantity : Quantity) × (text : Text) × IsCheckOn true plain (Some bare) ([], []) (Beyond quantity) text
    × Appends (Some []) (Some []) text
silent_for_true h = ⊎_elim (λ none. absurd (within_limits none.0)) (λ is. is) (h.limit refl)

-- so with 6 of a formula its check goes beyond a limit, and all else is sound
pub then_sound : (left : Option Text) (written : Option Text × Option Text) (stops : List Account) (faults : ℕ × ℕ)
    (said : Option Text × Option Text) (Sound : Type 0)
    → IsLimitOf check_words (holds bare) left written stops faults said Sound → Sound
then_sound left written stops faults said Sound h = ⊎_elim
    (λ either. ⊎_elim
    (λ f. absurd (within_limits (subst (λ d. OfFormula (task_of d) (holds bare)
    (λ format terms text. IsLimited format text)) (only_check f.0 f.1) f.2)))
    (λ s. absurd (subst (λ d. OfScript (task_of d) (holds bare) (λ terms text. IsLimitedScript text))
    (only_check s.0 s.1) s.2)) either)
    (λ c. c.1) h

-- what is said of one circuit: the check formula of a certificate of the text's formula goes beyond a limit
pub beyond_a_limit : (decide : Bool) (terms : Terms) (left : Option Text) (written : Option Text × Option Text)
    (stops : List Account) (faults : ℕ × ℕ) (said : Option Text × Option Text) (input : Text)
    → IsOneBeyond terms left written stops faults said input → IsLimitedCheck decide terms input
beyond_a_limit decide terms left written stops faults said input h =
    (h.quantity, (h.formula, h.reads, h.beyond.value, h.beyond.circuit, h.beyond.certified, h.beyond.limit))

-- not without the circuit's text, nor without the line, nor with another line
pub without_circuit : (terms : Terms) (left : Option Text) (stops : List Account) (faults : ℕ × ℕ)
    (said : Option Text × Option Text) (input : Text)
    → IsOneBeyond terms left (Some [], Some []) stops faults said input → ⊥
without_circuit terms left stops faults said input h =
    let none : [] ≡ h.text = h.output in
    let lines = h.beyond.denotes.lines in
    absurd (let no = none ∙ lines in cc)

pub without_line : (terms : Terms) (left : Option Text) (written : Option Text × Option Text)
    (stops : List Account) (input : Text) → IsOneBeyond terms left written stops (0, 0) (Some [], Some []) input → ⊥
without_line terms left written stops input h =
    absurd (let no : [] ≡ check_limit_line h.quantity = h.whole (λ rose. omega (arith, rose)) in cc)

pub with_other_line : (terms : Terms) (left : Option Text) (written : Option Text × Option Text)
    (stops : List Account) (faults : ℕ × ℕ) (input : Text)
    → IsOneBeyond terms left written stops faults (Some [], Some (codes "no\n")) input → ⊥
with_other_line terms left written stops faults input h = by h.front.count h.front.appended
  where
    by : (n : ℕ) → codes "no\n" ≡ take n (check_limit_line h.quantity) → ⊥
    by zero is = absurd (cc)
    by (suc n) is = absurd (let first : 110 ≡ 113 = ap (letter 0) is in omega (arith, first))

-- not where something is left of the input
pub with_rest : (terms : Terms) (written : Option Text × Option Text) (stops : List Account) (faults : ℕ × ℕ)
    (said : Option Text × Option Text) (input : Text)
    → IsOneBeyond terms (Some (codes "x")) written stops faults said input → ⊥
with_rest terms written stops faults said input h = absurd (let no : Some (codes "x") ≡ Some [] = h.whole_input in cc)

-- what is sound: no fault on either side, and all flushed
pub sound : IsSound (2, 2) (0, 0) (Some (codes "x")) (Some [], Some (codes "x"))
sound = record { no_read_fault = refl; no_write_fault = refl; all_flushed = refl }

pub read_failed : (flushed : Option Text × Option Text) → IsSound (0, 1) (0, 0) (Some []) flushed → ⊥
read_failed flushed h = let no : 1 ≡ 0 = h.no_read_fault in omega (arith, no)

pub write_failed : (flushed : Option Text × Option Text) → IsSound (0, 0) (0, 1) (Some []) flushed → ⊥
write_failed flushed h = let no : 1 ≡ 0 = h.no_write_fault in omega (arith, no)

pub unflushed : IsSound (0, 0) (0, 0) (Some (codes "x")) (Some [], Some []) → ⊥
unflushed h = absurd (let no : Some [] ≡ Some (codes "x") = h.all_flushed in cc)
