-- Worked values: words that ask for one command each, and what is so of their input.
use Rattle.std.proofs.Common.{◌≡◌, ◌≢◌, ◌∙◌, ◌-◌, ◌^◌, ◌⊎◌, ℕ, Bool, true, false, List, [], ◌∷◌, codes, decimal, map, ap, ap₂, Option, Some, None, option_map, IsPermutation, inl, ⊎_elim, refl, sym, subst, arith}
use Rattle.std.specs.Prelude.{IfSome, slice_index_or}
use Rattle.std.specs.Fmt.{digits}
use Rattle.std.proofs.lemmas.List.Sorted.{IsPermutation-refl}
use Rattle.command.specs.Forms.{AreAlike, Asks, Flag, GivesInput, HasNoForm, Part, Text, flag_parts, is_qcir, is_qdo, name_in, no_flags, solve_flags, verb_flags, verb_word}
use Rattle.command.specs.Forms.Flag.{the_qcir, the_qdo}
use Rattle.command.specs.Forms.Part.{flag_part}
use Rattle.command.specs.declared.command.Command.{Command}
use Rattle.command.specs.declared.command.Command.TheVariants.{Demo, Gen, Read}
use Rattle.command.specs.declared.command.Input.{Input}
use Rattle.command.specs.declared.command.SolveForm.{SolveForm}
use Rattle.command.specs.declared.command.SolveForm.TheVariants.{Plain, Qcir, Qdo}
use Rattle.command.specs.declared.command.Verb.{Verb}
use Rattle.command.specs.declared.command.Verb.TheVariants.{Cert, Check, Script, Solve, Trace}
use Rattle.command.proofs.AccountLemmas.{one_command}
use Rattle.files.specs.Inputs.{Format}
use Rattle.files.specs.Inputs.Format.{as_circuit, as_formula}
use Rattle.solve.specs.Terms.{Terms, terms_of}
use Rattle.program.specs.Asked.{Asked, AskedAny, AskedCheck, AskedEither, AskedSample, AskedScript, IsSample, OfCheckTask, OfFormula, OfScript, SteadyFor, SteadyForInput, input_name, known_for, task_of}

-- `qbf solve`, `qbf solve --qcir`, `qbf script` and `qbf gen 0 3 1`
abbrev pub solve_words : List Text
solve_words = codes "qbf" ∷ codes "solve" ∷ []

abbrev pub circuit_words : List Text
circuit_words = codes "qbf" ∷ codes "solve" ∷ codes "--qcir" ∷ []

abbrev pub script_words : List Text
script_words = codes "qbf" ∷ codes "script" ∷ []

abbrev pub gen_words : List Text
gen_words = codes "qbf" ∷ codes "gen" ∷ codes "0" ∷ codes "3" ∷ codes "1" ∷ []

-- the greatest budget, which none given stands for
abbrev pub whole : ℕ
whole = 2 ^ 64 - 1

abbrev pub plain : Terms
plain = terms_of whole 0 512

-- the input without a name, whose numbers aren't given
abbrev pub bare_input : Input
bare_input = record { budget = whole; restarts = 0; kept = 512; name = None }

-- the commands that they ask for
abbrev pub solve : Command
solve = Read (Solve Plain) bare_input

abbrev pub decide_circuit : Command
decide_circuit = Read (Solve Qcir) bare_input

abbrev pub script : Command
script = Read Script bare_input

abbrev pub gen : Command
gen = Gen 0 3 1

-- no word but the command
pub no_part : (flags : Flag → Bool) → flag_parts flags ≡ [] → GivesInput [] whole 0 512 flags None
no_part flags none = record {
  budget_parts = [];
  restarts_parts = [];
  kept_parts = [];
  name_parts = [];
  gives_budget = inl (refl, refl);
  gives_restarts = inl (refl, refl);
  gives_kept = inl (refl, refl);
  gives_name = refl;
  in_any_order = record {
    order = [];
    permutation = subst (λ (ps : List Part). IsPermutation ps []) (sym none) (IsPermutation-refl []);
    words_are = refl;
  };
}

pub asks_solve : Asks solve_words solve
asks_solve = (codes "qbf", [], refl, no_part (solve_flags Plain) refl)

-- the flag alone
pub asks_circuit : Asks circuit_words decide_circuit
asks_circuit = (
  codes "qbf",
  codes "--qcir" ∷ [],
  refl,
  record {
    budget_parts = [];
    restarts_parts = [];
    kept_parts = [];
    name_parts = [];
    gives_budget = inl (refl, refl);
    gives_restarts = inl (refl, refl);
    gives_kept = inl (refl, refl);
    gives_name = refl;
    in_any_order = record {
      order = flag_part the_qcir ∷ [];
      permutation = IsPermutation-refl (flag_part the_qcir ∷ []);
      words_are = refl;
    };
  },
)

pub asks_script : Asks script_words script
asks_script = (codes "qbf", [], refl, no_part no_flags refl)

pub asks_gen : Asks gen_words gen
unfolding digits
asks_gen = ((codes "qbf", refl), omega arith, (omega arith, omega arith), omega arith)

-- and no others

abbrev pub letter : ℕ → Text → ℕ
letter i text = slice_index_or text i 0

-- a form of `solve` by its flags
is_plain : (form : SolveForm) → is_qdo form ≡ false → is_qcir form ≡ false → form ≡ Plain
is_plain Plain qdo qcir = refl
is_plain Qdo qdo qcir = absurd (let no : true ≡ false = qdo in cc)
is_plain Qcir qdo qcir = absurd (let no : true ≡ false = qcir in cc)

is_circuit : (form : SolveForm) → is_qcir form ≡ true → form ≡ Qcir
is_circuit Plain qcir = absurd (let no : false ≡ true = qcir in cc)
is_circuit Qdo qcir = absurd (let no : false ≡ true = qcir in cc)
is_circuit Qcir qcir = refl

no_text : {A : Type 0} (f : A → Text) (o : Option A) → option_map f o ≡ None → o ≡ None
no_text f None h = refl
no_text f (Some x) h = absurd (let no : Some (f x) ≡ None = h in cc)

-- an input by its values
pub is_bare : (i : Input) → i.budget ≡ whole → i.restarts ≡ 0 → i.kept ≡ 512 → name_in i ≡ None → i ≡ bare_input
is_bare i budget restarts kept name =
    ap (λ b. record i { budget = b }) budget ∙ ap (λ r. record i { budget = whole; restarts = r }) restarts
    ∙ ap (λ k. record i { budget = whole; restarts = 0; kept = k }) kept
    ∙ ap (λ n. record bare_input { name = n }) (no_text (λ s. s.now) i.name name)

-- what is done with it, by its word and its flags
is_solving : (q : SolveForm) → ((form : SolveForm) → ((f : Flag) → solve_flags form f ≡ solve_flags q f) → form ≡ q)
    → (v : Verb) → verb_word v ≡ codes "solve" → ((f : Flag) → verb_flags v f ≡ solve_flags q f) → v ≡ Solve q
is_solving q same (Solve form) word flags = ap (λ r. Solve r) (same form flags)
is_solving q same Trace word flags = absurd (let n : 114 ≡ 111 = ap (letter 1) word in omega (arith, n))
is_solving q same (Cert b t) word flags = absurd (let n : 101 ≡ 111 = ap (letter 1) word in omega (arith, n))
is_solving q same (Check d) word flags = absurd (let n : 104 ≡ 111 = ap (letter 1) word in omega (arith, n))
is_solving q same Script word flags = absurd (let n : 99 ≡ 111 = ap (letter 1) word in omega (arith, n))

is_scripting : (v : Verb) → verb_word v ≡ codes "script" → v ≡ Script
is_scripting (Solve form) word = absurd (let n : 111 ≡ 99 = ap (letter 1) word in omega (arith, n))
is_scripting Trace word = absurd (let n : 114 ≡ 99 = ap (letter 1) word in omega (arith, n))
is_scripting (Cert b t) word = absurd (let n : 101 ≡ 99 = ap (letter 1) word in omega (arith, n))
is_scripting (Check d) word = absurd (let n : 104 ≡ 99 = ap (letter 1) word in omega (arith, n))
is_scripting Script word = refl

not_gen : (v : Verb) → verb_word v ≡ codes "gen" → ⊥
not_gen (Solve form) word = let n : 111 ≡ 101 = ap (letter 1) word in omega (arith, n)
not_gen Trace word = let n : 114 ≡ 101 = ap (letter 1) word in omega (arith, n)
not_gen (Cert b t) word = let n : 99 ≡ 103 = ap (letter 0) word in omega (arith, n)
not_gen (Check d) word = let n : 104 ≡ 101 = ap (letter 1) word in omega (arith, n)
not_gen Script word = let n : 99 ≡ 101 = ap (letter 1) word in omega (arith, n)

is_solve : (c : Command) → AreAlike c solve → c ≡ solve
is_solve (Read v i) alike =
    ap₂ (λ w j. Read w j)
    (is_solving Plain (λ form f. is_plain form (f the_qdo) (f the_qcir)) v alike.words alike.flags)
    (is_bare i alike.budgets alike.restarts alike.kept alike.names)
is_solve (Gen seed vars clauses) alike = absurd (let n : 101 ≡ 111 = ap (letter 1) alike.words in omega (arith, n))
is_solve (Demo seed count) alike = absurd (let n : 101 ≡ 111 = ap (letter 1) alike.words in omega (arith, n))

is_decide_circuit : (c : Command) → AreAlike c decide_circuit → c ≡ decide_circuit
is_decide_circuit (Read v i) alike =
    ap₂ (λ w j. Read w j) (is_solving Qcir (λ form f. is_circuit form (f the_qcir)) v alike.words alike.flags)
    (is_bare i alike.budgets alike.restarts alike.kept alike.names)
is_decide_circuit (Gen seed vars clauses) alike =
    absurd (let n : 101 ≡ 111 = ap (letter 1) alike.words in omega (arith, n))
is_decide_circuit (Demo seed count) alike =
    absurd (let n : 101 ≡ 111 = ap (letter 1) alike.words in omega (arith, n))

is_script : (c : Command) → AreAlike c script → c ≡ script
is_script (Read v i) alike =
    ap₂ (λ w j. Read w j) (is_scripting v alike.words)
    (is_bare i alike.budgets alike.restarts alike.kept alike.names)
is_script (Gen seed vars clauses) alike = absurd (let n : 101 ≡ 99 = ap (letter 1) alike.words in omega (arith, n))
is_script (Demo seed count) alike = absurd (let n : 101 ≡ 99 = ap (letter 1) alike.words in omega (arith, n))

is_gen : (c : Command) → AreAlike c gen → c ≡ gen
is_gen (Gen seed vars clauses) alike =
    let same : seed ∷ vars ∷ clauses ∷ [] ≡ 0 ∷ 3 ∷ 1 ∷ [] = alike.numbers in
    let first : seed ≡ 0 = cc in
    let second : vars ≡ 3 = cc in
    let third : clauses ≡ 1 = cc in
    ap (λ x. Gen x vars clauses) first ∙ ap (λ x. Gen 0 x clauses) second ∙ ap (λ x. Gen 0 3 x) third
is_gen (Read v i) alike = absurd (not_gen v alike.words)
is_gen (Demo seed count) alike = absurd (let n : 100 ≡ 103 = ap (letter 0) alike.words in omega (arith, n))

pub only_solve : (c : Command) → Asks solve_words c → c ≡ solve
only_solve c asks = is_solve c (one_command solve_words c solve asks asks_solve)

pub only_circuit : (c : Command) → Asks circuit_words c → c ≡ decide_circuit
only_circuit c asks = is_decide_circuit c (one_command circuit_words c decide_circuit asks asks_circuit)

pub only_script : (c : Command) → Asks script_words c → c ≡ script
only_script c asks = is_script c (one_command script_words c script asks asks_script)

pub only_gen : (c : Command) → Asks gen_words c → c ≡ gen
only_gen c asks = is_gen c (one_command gen_words c gen asks asks_gen)

-- no words ask for none
pub no_words : HasNoForm []
no_words (Read v i) asks =
    absurd (let no : ◌≡◌ {A = List Text} [] (asks.0 ∷ verb_word v ∷ asks.1) = asks.2 in cc)
no_words (Gen seed vars clauses) asks = absurd (let no : ◌≡◌ {A = List Text} [] (asks.0.0 ∷ codes "gen"
    ∷ map decimal (seed ∷ vars ∷ clauses ∷ [])) = asks.0.1 in cc)
no_words (Demo seed count) asks = absurd (let no : ◌≡◌ {A = List Text} [] (asks.0.0 ∷ codes "demo"
    ∷ map decimal (seed ∷ count ∷ [])) = asks.0.1 in cc)

-- what is so of the input that they ask for

abbrev pub On : Type 1
On = Format → Terms → Text → Type 0

abbrev pub OnScript : Type 1
OnScript = Terms → Text → Type 0

module _ (content : Text → Option Text) where
  pub of_solve : (P : On) → Asked solve_words content P → IfSome (content (codes "-")) (P as_formula plain)
  of_solve P (c, asks, of) = subst (λ d. OfFormula (task_of d) content P) (only_solve c asks) of

  pub to_solve : (P : On) → IfSome (content (codes "-")) (P as_formula plain) → Asked solve_words content P
  to_solve P h = (solve, asks_solve, h)

  pub of_circuit : (P : On) → Asked circuit_words content P → IfSome (content (codes "-")) (P as_circuit plain)
  of_circuit P (c, asks, of) = subst (λ d. OfFormula (task_of d) content P) (only_circuit c asks) of

  pub to_circuit : (P : On) → IfSome (content (codes "-")) (P as_circuit plain) → Asked circuit_words content P
  to_circuit P h = (decide_circuit, asks_circuit, h)

  pub of_script : (P : OnScript) → AskedScript script_words content P → IfSome (content (codes "-")) (P plain)
  of_script P (c, asks, of) = subst (λ d. OfScript (task_of d) content P) (only_script c asks) of

  pub to_script : (P : OnScript) → IfSome (content (codes "-")) (P plain) → AskedScript script_words content P
  to_script P h = (script, asks_script, h)

  -- and of no other input
  pub no_script : (P : OnScript) → AskedScript solve_words content P → ⊥
  no_script P (c, asks, of) = subst (λ d. OfScript (task_of d) content P) (only_solve c asks) of

  pub no_formula : (P : On) → Asked script_words content P → ⊥
  no_formula P (c, asks, of) = subst (λ d. OfFormula (task_of d) content P) (only_script c asks) of

  pub none_of_gen : (P : On) (Q : OnScript) → AskedEither gen_words content P Q → ⊥
  none_of_gen P Q h = ⊎_elim
      (λ f. subst (λ d. OfFormula (task_of d) content P) (only_gen f.0 f.1) f.2)
      (λ s. subst (λ d. OfScript (task_of d) content Q) (only_gen s.0 s.1) s.2) h

  pub either_of_solve : (P : On) (Q : OnScript) → AskedEither solve_words content P Q
      → IfSome (content (codes "-")) (P as_formula plain)
  either_of_solve P Q h = ⊎_elim (λ f. of_solve P f) (λ s. absurd (no_script Q s)) h

  pub either_of_script : (P : On) (Q : OnScript) → AskedEither script_words content P Q
      → IfSome (content (codes "-")) (Q plain)
  either_of_script P Q h = ⊎_elim (λ f. absurd (no_formula P f)) (λ s. of_script Q s) h

  -- and of no certificate that is checked
  pub no_check : (P : Bool → Terms → Text → Type 0) → AskedCheck solve_words content P → ⊥
  no_check P (c, asks, of) = subst (λ d. OfCheckTask (task_of d) content P) (only_solve c asks) of

  pub no_script_of_circuit : (P : OnScript) → AskedScript circuit_words content P → ⊥
  no_script_of_circuit P (c, asks, of) = subst (λ d. OfScript (task_of d) content P) (only_circuit c asks) of

  pub either_of_circuit : (P : On) (Q : OnScript) → AskedEither circuit_words content P Q
      → IfSome (content (codes "-")) (P as_circuit plain)
  either_of_circuit P Q h = ⊎_elim (λ f. of_circuit P f) (λ s. absurd (no_script_of_circuit Q s)) h

  pub no_check_of_circuit : (P : Bool → Terms → Text → Type 0) → AskedCheck circuit_words content P → ⊥
  no_check_of_circuit P (c, asks, of) = subst (λ d. OfCheckTask (task_of d) content P) (only_circuit c asks) of

  pub no_check_of_script : (P : Bool → Terms → Text → Type 0) → AskedCheck script_words content P → ⊥
  no_check_of_script P (c, asks, of) = subst (λ d. OfCheckTask (task_of d) content P) (only_script c asks) of

pub first_one : {A B : Type 0} → A ⊎ B → (B → ⊥) → A
first_one h never = ⊎_elim (λ a. a) (λ b. absurd (never b)) h

pub no_sample : AskedSample solve_words → ⊥
no_sample (c, asks, is) = subst (λ d. IsSample (task_of d)) (only_solve c asks) is

pub no_sample_script : AskedSample script_words → ⊥
no_sample_script (c, asks, is) = subst (λ d. IsSample (task_of d)) (only_script c asks) is

pub is_sample : AskedSample gen_words
is_sample = (gen, asks_gen, tt)

module _ (content : Text → Option Text) where
  pub any_of_solve : (P : On) (Q : OnScript) → AskedAny solve_words content P Q
      → IfSome (content (codes "-")) (P as_formula plain)
  any_of_solve P Q h = ⊎_elim (λ e. either_of_solve content P Q e) (λ s. absurd (no_sample s)) h

  pub any_of_script : (P : On) (Q : OnScript) → AskedAny script_words content P Q
      → IfSome (content (codes "-")) (Q plain)
  any_of_script P Q h = ⊎_elim (λ e. either_of_script content P Q e) (λ s. absurd (no_sample_script s)) h

-- the input of a command, and what is known of it
pub standard_input : input_name None ≡ codes "-"
standard_input = refl

pub named_input : input_name (Some (codes "a")) ≡ codes "a"
named_input = refl

pub known_input : (content : Text → Option Text) → known_for content (task_of script) ≡ content (codes "-")
known_input content = refl

pub no_input : (content : Text → Option Text) → known_for content (task_of gen) ≡ None
no_input content = refl

-- a desk that is steady for standard input is so for the input that the words ask for, and `gen` has none
pub steady : SteadyForInput solve_words (λ name. name ≡ codes "-")
steady c asks = subst (λ d. SteadyFor (task_of d) (λ name. name ≡ codes "-")) (sym (only_solve c asks)) refl

pub steady_script : SteadyForInput script_words (λ name. name ≡ codes "-")
steady_script c asks = subst (λ d. SteadyFor (task_of d) (λ name. name ≡ codes "-")) (sym (only_script c asks)) refl

pub steady_without : SteadyForInput gen_words (λ name. ⊥)
steady_without c asks = subst (λ d. SteadyFor (task_of d) (λ name. ⊥)) (sym (only_gen c asks)) tt

pub unsteady : SteadyForInput solve_words (λ name. name ≢ codes "-") → ⊥
unsteady steady = steady solve asks_solve refl

pub unsteady_script : SteadyForInput script_words (λ name. name ≢ codes "-") → ⊥
unsteady_script steady = steady script asks_script refl
