-- Worked values: check formulas that go beyond a limit or for which the budget is short, and statuses of valid inputs.
use Rattle.std.proofs.Common.{◌≡◌, ◌∙◌, ◌<◌, ◌≤◌, ◌-◌, ◌^◌, length, ℕ, zero, suc, Bool, true, false, List, [], ◌∷◌, codes, take, Contains, IfSome, Option, Some, None, unwrap_or, inl, inr, ⊎_elim, refl, sym, ap, ap₂, subst, arith, lit<}
use Rattle.std.proofs.lemmas.Bool.{false≢true}
use Rattle.std.specs.Prelude.{flat_map, replicate}
use Rattle.std.specs.List.{AllByRecursion}
use Rattle.std.proofs.lemmas.List.{length-replicate}
use Rattle.std.specs.Fmt.{digits}
use Rattle.std.specs.Io.KnownBytes.{Keeps}
use Rattle.prefix.specs.declared.quant.Quant.{Quant}
use Rattle.prefix.specs.declared.quant.Quant.TheVariants.{Exists, Forall}
use Rattle.steps.specs.Counter.{step_limit}
use Rattle.trail.specs.State.{Account}
use Rattle.truth.specs.Formed.{IsClauseOver}
use Rattle.truth.specs.Limits.{max_clauses, max_vars}
use Rattle.calculus.specs.Rows.{Row}
use Rattle.qdimacs_out.specs.Texts.{formula_text}
use Rattle.qdimacs_out.specs.Writable.{IsWritable}
use Rattle.qdimacs_out.proofs.Lengths.{text_long}
use Rattle.qdimacs_out.proofs.ReadBack.{written_read}
use Rattle.truth.specs.declared.formula.Formula.{Formula}
use Rattle.search.specs.Counting.{size_of}
use Rattle.aig.specs.declared.strategy.Strategy.{Strategy}
use Rattle.reading.specs.declared.refusal.Quantity.{Quantity}
use Rattle.reading.specs.declared.refusal.Quantity.TheVariants.{Bytes, Clauses, Literals, Scopes, Variables}
use Rattle.certcheck.specs.Building.{limit_of}
use Rattle.qdimacs.specs.Reads.{Reads}
use Rattle.qdimacs.specs.Rules.{limit, parsed}
use Rattle.qdimacs.proofs.Before.{one_outcome}
use Rattle.qdimacs.proofs.Outcomes.{computed_reads}
use Rattle.qscript.specs.Reads.{limit as script_limit}
use Rattle.engine.specs.Refusals.{winner_of}
use Rattle.command.specs.Forms.{Text}
use Rattle.solve.specs.Answers.{IsShort}
use Rattle.solve.specs.Worked.{at_thirty_six}
use Rattle.solve.specs.declared.answer.Answer.TheVariants.{Sat}
use Rattle.solve.specs.Terms.{Terms, terms_of}
use Rattle.files.specs.Checks.{HasCircuit, IsCheckOn, check_of}
use Rattle.files.specs.Inputs.{Says}
use Rattle.files.specs.Inputs.Format.{as_formula}
use Rattle.files.specs.Worked.{anything_fits}
use Rattle.files.specs.WorkedVerdicts.{always, one, repeated}
use Rattle.files.specs.declared.check.Outcome.{Outcome}
use Rattle.files.specs.declared.check.Outcome.TheVariants.{Beyond, Checked, Undecided, Unknown}
use Rattle.files.proofs.JobValues.{bare, bare_is}
use Rattle.files.proofs.Repeated.{always_denotes, bare as without, certified, fits, is_true, one_scope, only_circuit, too_many}
use Rattle.program.specs.Asked.{AskedCheck, OfCheckTask, task_of}
use Rattle.program.specs.Complete.{IsComplete}
use Rattle.program.specs.Run.{EndsIn, IsCheckBeyond, IsCheckLimit, IsInputLimit, IsLimited, IsLimitedCheck, IsUndecidedCheck, check_limit_line, limit_line}
use Rattle.program.specs.Told.{IsCheckOutput, IsOneBeyond, IsSound}
use Rattle.program.proofs.Statuses.{absent, no_answer}
use Rattle.program.proofs.WorkedChecks.{asks_check, check, check_words, only_check}
use Rattle.program.proofs.WorkedVerdicts.{great_reads, great_text, holds}
use Rattle.program.proofs.WorkedWords.{either_of_script, either_of_solve, plain, script_words, solve_words, whole}

-- a formula that says that 1 is false
abbrev one_text : Text
one_text = codes "p cnf 1 1\ne 1 0\n-1 0\n"

one_reads : Reads one_text (parsed (repeated false 1))
one_reads = computed_reads one_text (parsed (repeated false 1)) refl

-- seven steps may be too few for its check formula, where that is to be decided
pub undecided : IsUndecidedCheck true (terms_of 7 0 512) one_text
undecided = (
  repeated false 1,
  one_reads,
  true,
  record {
    circuit = always false;
    certified = certified (terms_of 7 0 512) false 1;
    within = refl;
    unsatisfiable = refl;
    is = (refl, record { limit = lit< tt; propagation = λ _. lit< tt });
  },
)

pub not_decided : (terms : Terms) (text : Text) → IsUndecidedCheck false terms text → ⊥
not_decided terms text h = false≢true h.3.is.0

-- the greatest budget is enough for that of a formula without clauses
enough : (w : Quant) → whole < step_limit 0 (size_of (check_of anything_fits (without w)).prefix) → ⊥
enough Exists is = let no : 2 ^ 64 - 1 < 16 = is in omega (arith, no)
enough Forall is = let no : 2 ^ 64 - 1 < 64 = is in omega (arith, no)

never_short : (f : Formula) → f ≡ anything_fits → (value : Bool) (c : Strategy) → HasCircuit plain f value c
    → IsShort plain (check_of f c) → ⊥
never_short f is value c has short =
    let circuit : without c.winner ≡ c = only_circuit plain value c (subst (λ g. HasCircuit plain g value c) is has) in
    let same : IsShort plain (check_of anything_fits c) = subst (λ g. IsShort plain (check_of g c)) is short in
    enough c.winner (subst (λ d. whole < step_limit 0 (size_of (check_of anything_fits d).prefix)) (sym circuit)
    same.limit)

pub not_short : IsUndecidedCheck true plain bare → ⊥
not_short h = never_short h.0 (bare_is h.0 h.1) h.2 h.3.circuit h.3.certified h.3.is.1

-- what is asked of a check of the text
of_check : (text : Text) (P : Bool → Terms → Text → Type 0) → AskedCheck check_words (holds text) P → P false plain text
of_check text P h = subst (λ d. OfCheckTask (task_of d) (holds text) P) (only_check h.0 h.1) h.2

to_check : (text : Text) (P : Bool → Terms → Text → Type 0) → P false plain text → AskedCheck check_words (holds text) P
to_check text P is = (check, asks_check, is)

abbrev head_of : Text → ℕ
head_of [] = 0
head_of (x ∷ xs) = x

-- the circuit that says that 1 is true, and the line of its check formula
abbrev circuit_text : Text
circuit_text = codes "aag 0 0 0 1 0\n1\no0 1\nc\nskolem\n"

abbrev variables_line : Text
variables_line = codes "qbf: limit variables\n"

-- Where a text says more clauses than there may be variables, its check formula has too many variables: no other
-- quantity is too great, and the line says so. The status is 6.
module _ (text : Text) (n : ℕ) (over : max_vars < n) (reads : Reads text (parsed (repeated true n))) where
  pub beyond : IsCheckBeyond Variables false plain text
  beyond = (
    repeated true n,
    reads,
    true,
    always true,
    certified plain true n,
    too_many n over (always true) refl,
  )

  not_of_another : (quantity : Quantity) (f : Formula) → f ≡ repeated true n → (value : Bool) (c : Strategy)
      → HasCircuit plain f value c → limit_of (check_of f c) ≡ Some quantity → quantity ≡ Variables
  not_of_another quantity f is value c has said =
      let had = subst (λ g. HasCircuit plain g value c) is has in
      let limited = subst (λ g. limit_of (check_of g c) ≡ Some quantity) is said in
      let winner : c.winner ≡ Exists = had.certifies.winner ∙ ap winner_of (sym had.right ∙ is_true true n) in
      let same : Some quantity ≡ Some Variables = sym limited ∙ too_many n over c winner in cc

  pub of_variables : (quantity : Quantity) → IsCheckBeyond quantity false plain text → quantity ≡ Variables
  of_variables quantity h =
      let same : parsed h.0 ≡ parsed (repeated true n) =
      one_outcome text (parsed h.0) (parsed (repeated true n)) h.1 reads in
      not_of_another quantity h.0 (let is : h.0 ≡ repeated true n = cc in is) h.2 h.3 h.4 h.5

  pub says_variables : IsCheckLimit check_words (holds text) (codes "qbf: limit variables\n")
  says_variables = (Variables, refl, to_check text (IsCheckBeyond Variables) beyond)

  pub says_nothing_else : (line : Text) → IsCheckLimit check_words (holds text) line
      → line ≡ codes "qbf: limit variables\n"
  says_nothing_else line h =
      h.1 ∙ ap check_limit_line (of_variables h.0 (of_check text (IsCheckBeyond h.0) h.2))

  pub ends_with_six : IsComplete check_words (holds text) 6
  ends_with_six = inr (refl, to_check text IsLimitedCheck (Variables, beyond))

  -- nothing is left of the input, and the circuit and the line are written
  pub one_beyond : IsOneBeyond plain (Some []) (Some [], Some circuit_text) [] (0, 0)
      (Some [], Some variables_line) text
  one_beyond = record {
    formula = repeated true n;
    reads = reads;
    quantity = Variables;
    text = circuit_text;
    beyond = record {
      value = true;
      circuit = always true;
      certified = certified plain true n;
      limit = too_many n over (always true) refl;
      denotes = always_denotes;
      told = refl;
    };
    whole_input = refl;
    output = refl;
    front = record { count = 21; within = omega arith; appended = refl };
    whole = λ _. refl;
  }

  -- not where one byte is left of it
  pub one_byte_left : IsOneBeyond plain (Some (codes "\n")) (Some [], Some circuit_text) [] (0, 0)
      (Some [], Some variables_line) text → ⊥
  one_byte_left h =
      let no : 1 ≡ 0 = ap (λ (text : Option Text). length (unwrap_or text [])) h.whole_input in omega (arith, no)

  -- with 6 the circuit stands on the output
  pub no_circuit : IsCheckOutput false plain (Some text) (Some [], Some []) [] 6 → ⊥
  no_circuit h = ⊎_elim
      (λ none. absurd (let same : limit none.0.0 none.0.1 ≡ parsed (repeated true n) =
      one_outcome text (limit none.0.0 none.0.1) (parsed (repeated true n)) none.0.2 reads in cc))
      (λ is. let no : 0 ≡ 97 = ap head_of is.3 ∙ ap head_of is.2.is.denotes.lines in omega (arith, no))
      (h.limit refl)

-- there are such texts: the formula's own one, with no more clauses than a text may have
literals : (n : ℕ) → length (flat_map (λ (clause : Row). clause) (replicate n (one true ∷ []))) ≡ n
literals zero = refl
literals (suc n) = ap suc (literals n)

over_one : (n : ℕ) → AllByRecursion (IsClauseOver one_scope) (replicate n (one true ∷ []))
over_one zero = tt
over_one (suc n) = (((tt, tt), (refl, tt)), over_one n)

writable : (n : ℕ) → n ≤ max_clauses → IsWritable (repeated true n)
writable n few = record {
  turns = tt;
  filled = ((λ e. absurd (let no : 1 ∷ [] ≡ [] = e in cc)), tt);
  ascending = ((tt, tt), tt);
  distinct = (refl, tt);
  declared = ((omega arith, omega arith), tt);
  rows = over_one n;
  fewer = let all = length-replicate n (one true ∷ []) in omega (arith, all);
  vars_few = omega arith;
  scopes_few = omega arith;
  clauses_few = few;
  literals_few = let all = literals n in omega (arith, all, few);
}

pub many_read : (n : ℕ) → n ≤ max_clauses → Reads (formula_text (repeated true n)) (parsed (repeated true n))
many_read n few = written_read (repeated true n) (writable n few) (length-replicate n (one true ∷ []))
    (let long = text_long (repeated true n) (writable n few) in
    let all = length-replicate n (one true ∷ []) in
    let each = literals n in omega (arith, long, all, each, few))

-- of a text that goes beyond a limit itself nothing is written or told
module _ (output : Text) (stops : List Account) (quiet : IsCheckOutput true plain (Some great_text)
    (Some [], Some output) stops 6) where
  of_input : IfSome (Some great_text) (IsLimited as_formula) × Keeps (Some []) (Some output) × (stops ≡ [])
  of_input = ⊎_elim (λ is. is)
      (λ is. absurd (let same : parsed is.2.formula ≡ limit Variables 1 =
      one_outcome great_text (parsed is.2.formula) (limit Variables 1) is.2.read great_reads in cc)) (quiet.limit refl)

pub writes_at_limit : (stops : List Account)
    → IsCheckOutput true plain (Some great_text) (Some [], Some (codes "x")) stops 6 → ⊥
writes_at_limit stops h =
    let no : 1 ≡ 0 = ap (λ (t : Text). length t) (of_input (codes "x") stops h).1 in omega (arith, no)

pub tells_at_limit : (output : Text)
    → IsCheckOutput true plain (Some great_text) (Some [], Some output) (at_thirty_six ∷ []) 6 → ⊥
tells_at_limit output h =
    let no : 1 ≡ 0 = ap (λ (told : List Account). length told) (of_input output (at_thirty_six ∷ []) h).2 in
    omega (arith, no)

-- a script goes beyond the limit of bytes alone, at its end
pub only_bytes : (text line : Text) → IsInputLimit script_words (holds text) line
    → (at : ℕ) × (line ≡ limit_line Bytes at) × EndsIn text (script_limit at)
only_bytes text line h =
    let is = either_of_script (holds text) (λ format terms text. Says format text (limit h.0 h.1))
    (λ terms text. (h.0 ≡ Bytes) × EndsIn text (script_limit h.1)) h.3 in
    (h.1, h.2 ∙ ap (λ q. limit_line q h.1) is.0, is.1)

-- no formula without clauses has status 6, and no valid input 2
pub true_with_ten : IsComplete check_words (holds bare) 10
true_with_ten = inl (0, omega arith, refl)

never_beyond : (f : Formula) → f ≡ anything_fits → (quantity : Quantity) (value : Bool) (c : Strategy)
    → HasCircuit plain f value c → limit_of (check_of f c) ≡ Some quantity → ⊥
never_beyond f is quantity value c has said =
    let none = fits plain value c (subst (λ g. HasCircuit plain g value c) is has) in
    let some = subst (λ g. limit_of (check_of g c) ≡ Some quantity) is said in
    absurd (let no : Some quantity ≡ None = sym some ∙ none in cc)

pub true_with_six : IsComplete check_words (holds bare) 6 → ⊥
true_with_six h = ⊎_elim (λ i. absent (10 ∷ 20 ∷ 0 ∷ 5 ∷ []) 6 refl i)
    (λ c. let is = of_check bare IsLimitedCheck c.1 in
    never_beyond is.1.0 (bare_is is.1.0 is.1.1) is.0 is.1.2 is.1.3 is.1.4 is.1.5) h

pub refused_valid : (words : List Text) (content : Text → Option Text) → IsComplete words content 2 → ⊥
refused_valid words content h =
    ⊎_elim (λ i. absent (10 ∷ 20 ∷ 0 ∷ 5 ∷ []) 2 refl i) (λ c. absurd (omega (arith, c.0))) h

-- the line of a text that goes beyond a limit says which, and where
pub only_limit : (line : Text) → IsInputLimit solve_words (holds great_text) line
    → line ≡ codes "qbf: line 1: limit variables\n"
unfolding digits
only_limit line h =
    let is = either_of_solve (holds great_text) (λ format terms text. Says format text (limit h.0 h.1))
    (λ terms text. (h.0 ≡ Bytes) × EndsIn text (script_limit h.1)) h.3 in
    let same : limit h.0 h.1 ≡ limit Variables 1 =
    one_outcome great_text (limit h.0 h.1) (limit Variables 1) is great_reads in
    h.2 ∙ ap₂ limit_line (let q : h.0 ≡ Variables = cc in q) (let at : h.1 ≡ 1 = cc in at)

-- after a write fault a front of what a check writes stands on the output
one_wins : IsCheckOn true plain (Some one_text) ([], []) (Checked true) (codes "WINS\n")
one_wins = record {
  formula = repeated false 1;
  read = one_reads;
  is = record {
    circuit = always false;
    certified = certified plain false 1;
    within = refl;
    unsatisfiable = refl;
    is = record { says = refl; told = refl };
  };
}

pub front_of_win : IsCheckOutput true plain (Some one_text) (Some [], Some (codes "WI")) [] 4
front_of_win = record {
  reply = λ has. no_answer 4 refl has;
  limit = λ e. absurd (omega (arith, e));
  front = λ _. (Checked true, codes "WINS\n", one_wins, record { count = 2; within = omega arith; appended = refl });
  nothing = λ i. absent (2 ∷ 3 ∷ 5 ∷ []) 4 refl i;
}

head_of_front : (count : ℕ) (text : Text) → codes "x" ≡ take count text → 120 ≡ head_of text
head_of_front zero text e = absurd (let no : codes "x" ≡ [] = e ∙ none text in cc)
  where
    none : (text : Text) → take 0 text ≡ []
    none [] = refl
    none (x ∷ xs) = refl
head_of_front (suc count) [] e = absurd (let no : codes "x" ≡ [] = e in cc)
head_of_front (suc count) (x ∷ xs) e = ap head_of e

no_x : (outcome : Outcome) (text : Text) → IsCheckOn true plain (Some one_text) ([], []) outcome text
    → 120 ≡ head_of text → ⊥
no_x Unknown text on e = let no : 120 ≡ 85 = e ∙ ap head_of on.is.says in omega (arith, no)
no_x (Checked value) text on e = let no : 120 ≡ 87 = e ∙ ap head_of on.is.is.says in omega (arith, no)
no_x Undecided text on e = let no : 120 ≡ 85 = e ∙ ap head_of on.is.1.is.says in omega (arith, no)
no_x (Beyond quantity) text on e = let no : 120 ≡ 97 = e ∙ ap head_of on.is.denotes.lines in omega (arith, no)

-- with the status of an answer its text stands there
pub other_win : IsCheckOutput true plain (Some one_text) (Some [], Some (codes "x")) [] 10 → ⊥
other_win h =
    let is = h.reply (Sat, refl) in
    let same : codes "x" ≡ is.1 = is.4 in no_x is.0 is.1 is.3 (ap head_of same)

pub other_front : IsCheckOutput true plain (Some one_text) (Some [], Some (codes "x")) [] 4 → ⊥
other_front h =
    let is = h.front refl in no_x is.0 is.1 is.2 (head_of_front is.3.count is.1 is.3.appended)

-- with the status of an ending without an answer none is told
pub tells_more : (status : ℕ) → Contains (2 ∷ 3 ∷ 5 ∷ []) status
    → IsCheckOutput true plain (Some one_text) (Some [], Some []) (at_thirty_six ∷ []) status → ⊥
tells_more status ends h =
    let no : 1 ≡ 0 = ap (λ (told : List Account). length told) (h.nothing ends).1 in omega (arith, no)

-- a call that counts no fault and flushes all that it writes, whatever was counted and flushed before
pub sound : IsSound (1, 1) (2, 2) (Some (codes "ab")) (Some (codes "a"), Some (codes "ab"))
sound = record { no_read_fault = refl; no_write_fault = refl; all_flushed = refl }

pub with_read_fault : IsSound (0, 1) (0, 0) (Some []) (Some [], Some []) → ⊥
with_read_fault h = let no : 1 ≡ 0 = h.no_read_fault in omega (arith, no)

pub with_write_fault : IsSound (0, 0) (0, 1) (Some []) (Some [], Some []) → ⊥
with_write_fault h = let no : 1 ≡ 0 = h.no_write_fault in omega (arith, no)

pub unflushed : IsSound (0, 0) (0, 0) (Some (codes "x")) (Some [], Some []) → ⊥
unflushed h =
    let no : 0 ≡ 120 = ap (λ (text : Option Text). head_of (unwrap_or text [])) h.all_flushed in omega (arith, no)
