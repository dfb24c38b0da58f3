-- From `clap`'s account of the words to the command that they ask for, and back.
use Rattle.std.proofs.Common.{◌≡◌, ◌∙◌, ◌||◌, ◌<◌, ◌^◌, ◌-◌, ℕ, Bool, cond, true, false, List, [], ◌∷◌, map, Option, Some, None, unwrap_or, codes, decimal, refl, sym, ap, ap₂, subst, inl, inr, arith}
use Rattle.std.specs.List.{AllByRecursion}
use Rattle.std.specs.Option.{option_map_or}
use Rattle.std.specs.Str.{bytes_eq}
use Rattle.std.proofs.lemmas.Fmt.{decimal_injective}
use Rattle.clap.specs.Words.{App, HasMatchesOf, IsAmong, HasKind, Row, Text, fault_of, first_of, is_simple, is_simple_and_free, kind_of, subcommand_of, subcommand_rows_of}
use Rattle.clap.specs.declared.Error.{Error}
use Rattle.clap.specs.declared.ArgMatches.{ArgMatches}
use Rattle.clap.specs.declared.error.ErrorKind.TheVariants.{OutOfMemory}
use Rattle.clap.specs.Walk.{rows_after}
use Rattle.clap.proofs.OnLiterals.{clap_on_literals}
use Rattle.command.specs.Account.{AreInput, AreValues, IsFormOf, IsFoundAs, IsSet, has_dashes, is_set, qbf_app}
use Rattle.command.specs.Forms.{AreAlike, Asks, AsksInput, Explains, Flag, GivesInput, Setting, budget_of, cert_flags, check_flags, flag_name, flags_of, kept_of, name_of, numbers_of, restarts_of, solve_flags, word_of}
use Rattle.command.specs.Forms.Flag.{the_qdo, the_qcir, the_binary, the_trim, the_decide}
use Rattle.command.specs.Forms.Setting.{the_budget, the_keep, the_restarts}
use Rattle.command.specs.declared.command.Command.{Command}
use Rattle.command.specs.declared.command.SolveForm.{SolveForm}
use Rattle.command.specs.declared.command.Command.TheVariants.{Demo, Gen, Read}
use Rattle.command.specs.declared.command.Verb.TheVariants.{Cert, Check, Script, Solve, Trace}
use Rattle.command.specs.declared.refused.Refused.{Refused}
use Rattle.command.specs.declared.refused.Refused.TheVariants.{Usage, NoMemory}
use Rattle.command.proofs.InputForms.{setting_small}
use Rattle.command.proofs.InputWords.{full_rules}
use Rattle.command.proofs.Calls.{any_flag_is, asked, called, calls, is_any_input, told}

pub is_plain_command : is_simple_and_free qbf_app ≡ true
unfolding clap_on_literals
is_plain_command = refl

is_simple_command : is_simple qbf_app ≡ true
unfolding clap_on_literals
is_simple_command = refl

-- what a parse that succeeds says of the words
pub account_of : (a : App) (words : List Text) (m : ArgMatches) → a ≡ qbf_app
    → (is_simple_and_free a ≡ true → fault_of a words ≡ []) → HasMatchesOf a words m
    → (fault_of qbf_app words ≡ []) × (subcommand_rows_of m ≡ subcommand_of qbf_app words)
account_of a words m is fault matches = (
  ap (λ b. fault_of b words) (sym is) ∙ fault (ap is_simple_and_free is ∙ is_plain_command),
  (matches (ap is_simple is ∙ is_simple_command)).1 ∙ ap (λ b. subcommand_of b words) is,
)

-- ---- words ask for one command at most

-- an option has one number at most
one_number : (s : Setting) (rows : List Row) (m n : ℕ) → IsSet s rows m → IsSet s rows n → m ≡ n
one_number s rows m n x y =
    let text : decimal m ≡ decimal n = ap (λ o. unwrap_or o []) (sym x.0 ∙ y.0) in
    decimal_injective m n (setting_small s m x.1.1) (setting_small s n y.1.1) text

pub one_input : (words : List Text) (v w : Text) (m n j k i l : ℕ) (q r : Flag → Bool) (g h : Option Text)
    → AsksInput v words m j i q g → AsksInput w words n k l r h
    → (v ≡ w) × (m ≡ n) × (j ≡ k) × (i ≡ l) × ((f : Flag) → q f ≡ r f) × (g ≡ h)
one_input words v w m n j k i l q r g h a b =
    let both : a.0 ∷ v ∷ a.1 ≡ b.0 ∷ w ∷ b.1 = sym a.2 ∙ b.2 in
    let word : v ≡ w = cc in
    let same : a.1 ≡ b.1 = cc in
    let x = is_any_input b.1 m j i q g (subst (λ (ws : List Text). GivesInput ws m j i q g) same a.3) in
    let y = is_any_input b.1 n k l r h b.3 in (
      word,
      one_number the_budget (rows_after full_rules [] b.1) m n x.values.0 y.values.0,
      one_number the_restarts (rows_after full_rules [] b.1) j k x.values.1 y.values.1,
      one_number the_keep (rows_after full_rules [] b.1) i l x.values.2 y.values.2,
      (λ f. any_flag_is b.1 m j i q g x f ∙ sym (any_flag_is b.1 n k l r h y f)),
      sym x.values.3 ∙ y.values.3,
    )

-- the word is that of a command of numbers, which have these names
abbrev takes_numbers : Text → Bool
takes_numbers w = bytes_eq w (codes "gen") || bytes_eq w (codes "demo")

abbrev names_of_numbers : Text → List Text
names_of_numbers w =
    cond (bytes_eq w (codes "gen")) (codes "SEED" ∷ codes "VARS" ∷ codes "CLAUSES" ∷ [])
    (codes "SEED" ∷ codes "COUNT" ∷ [])

abbrev AreSmall : List ℕ → Type 0
AreSmall numbers = AllByRecursion (λ n. n < 2 ^ 64) numbers

-- the command of this word takes the flag
abbrev takes : Text → Flag → Bool
takes w the_qdo = bytes_eq w (codes "solve")
takes w the_qcir = bytes_eq w (codes "solve")
takes w the_binary = bytes_eq w (codes "cert")
takes w the_trim = bytes_eq w (codes "cert")
takes w the_decide = bytes_eq w (codes "check")

-- the values of a command, by its word alone
record AreOfInput (rows : List Row) (c : Command) : Type 0 where
  pub input : AreInput rows (budget_of c) (restarts_of c) (kept_of c) (name_of c)
  pub flags : (f : Flag) → flags_of c f ≡ cond (takes (word_of c) f) (is_set (flag_name f) rows) false
  pub numbers : numbers_of c ≡ []

record AreOfNumbers (rows : List Row) (c : Command) : Type 0 where
  pub budget : budget_of c ≡ 2 ^ 64 - 1
  pub restarts : restarts_of c ≡ 0
  pub kept : kept_of c ≡ 512
  pub flags : (f : Flag) → flags_of c f ≡ false
  pub name : name_of c ≡ None
  pub small : AreSmall (numbers_of c)
  pub numbers : map (λ n. Some (decimal n)) (numbers_of c) ≡ map (λ id. first_of id rows) (names_of_numbers (word_of c))

module _ (rows : List Row) where
  plain_flags : (w : Text) → bytes_eq w (codes "solve") ≡ false → bytes_eq w (codes "cert") ≡ false
      → bytes_eq w (codes "check") ≡ false → (f : Flag) → false ≡ cond (takes w f) (is_set (flag_name f) rows) false
  plain_flags w s c k the_qdo = rw s refl
  plain_flags w s c k the_qcir = rw s refl
  plain_flags w s c k the_binary = rw c refl
  plain_flags w s c k the_trim = rw c refl
  plain_flags w s c k the_decide = rw k refl

  solve_taken : (q : SolveForm) → IsFormOf rows q → (f : Flag)
      → solve_flags q f ≡ cond (takes (codes "solve") f) (is_set (flag_name f) rows) false
  solve_taken q is the_qdo = is.0
  solve_taken q is the_qcir = is.1
  solve_taken q is the_binary = refl
  solve_taken q is the_trim = refl
  solve_taken q is the_decide = refl

  cert_taken : (b t : Bool) → b ≡ is_set (codes "binary") rows → t ≡ is_set (codes "trim") rows → (f : Flag)
      → cert_flags b t f ≡ cond (takes (codes "cert") f) (is_set (flag_name f) rows) false
  cert_taken b t binary trim the_qdo = refl
  cert_taken b t binary trim the_qcir = refl
  cert_taken b t binary trim the_binary = binary
  cert_taken b t binary trim the_trim = trim
  cert_taken b t binary trim the_decide = refl

  check_taken : (d : Bool) → d ≡ is_set (codes "decide") rows → (f : Flag)
      → check_flags d f ≡ cond (takes (codes "check") f) (is_set (flag_name f) rows) false
  check_taken d is the_qdo = refl
  check_taken d is the_qcir = refl
  check_taken d is the_binary = refl
  check_taken d is the_trim = refl
  check_taken d is the_decide = is

of_input : (rows : List Row) (c : Command) → takes_numbers (word_of c) ≡ false → AreValues rows c → AreOfInput rows c
of_input rows (Read (Solve q) i) e v = record { input = v.0; flags = solve_taken rows q v.1; numbers = refl }
of_input rows (Read Trace i) e v =
    record { input = v.0; flags = plain_flags rows (codes "trace") refl refl refl; numbers = refl }
of_input rows (Read (Cert b t) i) e v = record { input = v.0; flags = cert_taken rows b t v.1.0 v.1.1; numbers = refl }
of_input rows (Read (Check d) i) e v = record { input = v.0; flags = check_taken rows d v.1; numbers = refl }
of_input rows (Read Script i) e v =
    record { input = v.0; flags = plain_flags rows (codes "script") refl refl refl; numbers = refl }
of_input rows (Gen s v k) e r = absurd cc
of_input rows (Demo s k) e r = absurd cc

of_numbers : (rows : List Row) (c : Command) → takes_numbers (word_of c) ≡ true → AreValues rows c → AreOfNumbers rows c
of_numbers rows (Read (Solve q) i) e v = absurd cc
of_numbers rows (Read Trace i) e v = absurd cc
of_numbers rows (Read (Cert b t) i) e v = absurd cc
of_numbers rows (Read (Check d) i) e v = absurd cc
of_numbers rows (Read Script i) e v = absurd cc
of_numbers rows (Gen s v k) e r = record {
  budget = refl;
  restarts = refl;
  kept = refl;
  flags = λ f. refl;
  name = refl;
  small = (omega (arith, r.0.1.1), (omega (arith, r.1.1.1), (omega (arith, r.2.1.1), tt)));
  numbers = λ i. sym r.0.0 i ∷ sym r.1.0 i ∷ sym r.2.0 i ∷ [];
}
of_numbers rows (Demo s k) e r = record {
  budget = refl;
  restarts = refl;
  kept = refl;
  flags = λ f. refl;
  name = refl;
  small = (omega (arith, r.0.1.1), (omega (arith, r.1.1.1), tt));
  numbers = λ i. sym r.0.0 i ∷ sym r.1.0 i ∷ [];
}

same_numbers : (xs ys : List ℕ) → AreSmall xs → AreSmall ys
    → map (λ n. Some (decimal n)) xs ≡ map (λ n. Some (decimal n)) ys → xs ≡ ys
same_numbers [] [] a b e = refl
same_numbers [] (y ∷ ys) a b e = absurd cc
same_numbers (x ∷ xs) [] a b e = absurd cc
same_numbers (x ∷ xs) (y ∷ ys) a b e =
    let text : decimal x ≡ decimal y = cc in
    let rest : map (λ n. Some (decimal n)) xs ≡ map (λ n. Some (decimal n)) ys = cc in
    ap₂ (λ n ns. n ∷ ns) (decimal_injective x y a.0 b.0 text) (same_numbers xs ys a.1 b.1 rest)

alike : (rows : List Row) (c d : Command) → word_of c ≡ word_of d → AreValues rows c → AreValues rows d → AreAlike c d
alike rows c d word v w = go (takes_numbers (word_of c)) refl
  where
    go : (b : Bool) → takes_numbers (word_of c) ≡ b → AreAlike c d
    go false e =
        let x = of_input rows c e v in
        let y = of_input rows d (ap takes_numbers (sym word) ∙ e) w in
        record {
          words = word;
          budgets = one_number the_budget rows (budget_of c) (budget_of d) x.input.0 y.input.0;
          restarts = one_number the_restarts rows (restarts_of c) (restarts_of d) x.input.1 y.input.1;
          kept = one_number the_keep rows (kept_of c) (kept_of d) x.input.2 y.input.2;
          flags = λ f. x.flags f ∙ ap (λ t. cond (takes t f) (is_set (flag_name f) rows) false) word ∙ sym (y.flags f);
          names = sym x.input.3 ∙ y.input.3;
          numbers = x.numbers ∙ sym y.numbers;
        }
    go true e =
        let x = of_numbers rows c e v in
        let y = of_numbers rows d (ap takes_numbers (sym word) ∙ e) w in
        let texts = x.numbers ∙ ap (λ t. map (λ id. first_of id rows) (names_of_numbers t)) word ∙ sym y.numbers in
        record {
          words = word;
          budgets = x.budget ∙ sym y.budget;
          restarts = x.restarts ∙ sym y.restarts;
          kept = x.kept ∙ sym y.kept;
          flags = λ f. x.flags f ∙ sym (y.flags f);
          names = x.name ∙ sym y.name;
          numbers = same_numbers (numbers_of c) (numbers_of d) x.small y.small texts;
        }

found_alike : (o : Option (Text × List Row)) (c d : Command) → IsFoundAs c o → IsFoundAs d o → AreAlike c d
found_alike o c d x y =
    let both : Some (word_of c, x.0) ≡ Some (word_of d, y.0) = sym x.1 ∙ y.1 in
    let word : word_of c ≡ word_of d = ap (λ p. option_map_or (λ (q : Text × List Row). q.0) p []) both in
    let rows : x.0 ≡ y.0 = ap (λ p. option_map_or (λ (q : Text × List Row). q.1) p []) both in
    alike y.0 c d word (subst (λ r. AreValues r c) rows x.2) y.2

pub one_command : (words : List Text) (c d : Command) → Asks words c → Asks words d → AreAlike c d
one_command words c d a b =
    found_alike (subcommand_of qbf_app words) c d (told words c (calls words c a)).found (told words d
    (calls words d b)).found

-- ---- from the account to the command

pub asked_by : (words : List Text) (c : Command) → fault_of qbf_app words ≡ [] → has_dashes words ≡ false
    → IsFoundAs c (subcommand_of qbf_app words) → Asks words c
asked_by words c fault d found = asked words c (called words c fault d found)

-- ---- refusals

unwanted : (words : List Text) (r : Refused) → ((c : Command) → Asks words c → ⊥) → Explains words r
unwanted words (Usage text) h = h
unwanted words NoMemory h = tt

-- an error of `clap`
pub explains_error : (words : List Text) (r : Refused) (e : Error) → (kind_of e ≡ OutOfMemory → r ≡ NoMemory)
    → HasKind (fault_of qbf_app words) e → Explains words r
explains_error words r e memory (inl out) = subst (Explains words) (sym (memory out)) tt
explains_error words r e memory (inr among) =
    unwanted words r (λ c asks. subst (IsAmong (kind_of e)) (told words c (calls words c asks)).fault among)

-- words that are out of form
pub explains_form : (words : List Text) (r : Refused) (m : ArgMatches)
    → subcommand_rows_of m ≡ subcommand_of qbf_app words
    → ((c : Command) → has_dashes words ≡ false → IsFoundAs c (subcommand_rows_of m) → ⊥) → Explains words r
explains_form words r m is none = unwanted words r (λ c asks.
    let t = told words c (calls words c asks) in none c t.dashes (subst (IsFoundAs c) (sym is) t.found))

pub fault_is : (a : App) (words : List Text) (e : Error) → a ≡ qbf_app
    → (is_simple_and_free a ≡ true → HasKind (fault_of a words) e) → HasKind (fault_of qbf_app words) e
fault_is a words e is h =
    subst (λ (b : App). HasKind (fault_of b words) e) is (h (ap is_simple_and_free is ∙ is_plain_command))
