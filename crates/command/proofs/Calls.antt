-- The words of a command, between the form that asks for it and `clap`'s account.
use Rattle.std.proofs.Common.{◌≡◌, ◌⊎◌, ◌∙◌, ◌<◌, ◌^◌, ℕ, Bool, true, false, List, [], ◌∷◌, map, fold, Option, Some, codes, decimal, is_some, option_map, refl, sym, ap, subst, inl, inr, arith}
use Rattle.std.specs.List.{list_any}
use Rattle.std.specs.Option.{option_map_or}
use Rattle.std.specs.Str.{bytes_eq}
use Rattle.clap.specs.Words.{Row, Rule, Text, fault_of, subcommand_of}
use Rattle.clap.specs.Walk.{nothing_held, rows_after, with_default}
use Rattle.clap.specs.Faults.{level_fault}
use Rattle.command.specs.Account.{AreInput, AreValues, IsFormOf, IsFoundAs, command_apps, has_dashes, is_set, qbf_app}
use Rattle.command.specs.Forms.{Asks, AsksInput, Flag, GivesInput, GivesSetting, IsBetween, Part, Setting, all_flags, cert_flags, check_flags, default_of, flag_name, greatest_of, is_qcir, is_qdo, least_of, name_in, no_flags, solve_flags, word_of}
use Rattle.command.specs.Forms.Flag.{the_qdo, the_qcir, the_binary, the_trim, the_decide}
use Rattle.command.specs.Forms.Setting.{the_budget, the_keep, the_restarts}
use Rattle.command.specs.declared.command.Command.{Command}
use Rattle.command.specs.declared.command.SolveForm.{SolveForm}
use Rattle.command.specs.declared.command.Command.TheVariants.{Demo, Gen, Read}
use Rattle.command.specs.declared.command.Verb.TheVariants.{Cert, Check, Script, Solve, Trace}
use Rattle.command.proofs.Turns.{leaf, rules_of}
use Rattle.command.proofs.WordKinds.{IsNotDashes, KnowsFlag}
use Rattle.command.proofs.PartWalk.{LacksDashes}
use Rattle.command.proofs.PartUses.{AreOnce, either_false, name, new_row, part_at}
use Rattle.command.proofs.InputWords.{AreInputRules, AreRead, are_read, cert_are, cert_rules, check_are, check_rules, full_are, full_rules, input_are, input_rules, solve_are, solve_rules}
use Rattle.command.proofs.InputForms.{are_told, flag_set, in_form, no_flag, three}
use Rattle.command.proofs.NumberWords.{demo_found, demo_in_form, gen_found, gen_in_form}
use Rattle.command.proofs.TopWalk.{app_for, command_account, command_fault, is_command, known_or_other, name_alone, no_words, other_word, word_is, IsCommandWord, IsNoneOf}

-- the words behind the word of the command pass, with its values
pub record IsCalled (words : List Text) (c : Command) : Type 0 where
  pub program : Text
  pub args : List Text
  pub words_are : words ≡ program ∷ word_of c ∷ args
  pub lacks : LacksDashes args
  pub passes : level_fault (leaf (rules_of (app_for c))) [] nothing_held args false [] ≡ []
  pub values : AreValues (rows_after (rules_of (app_for c)) [] args) c

-- ---- no word is `--`

abbrev any_dashes : List Text → Bool
any_dashes = list_any (λ w. bytes_eq w (codes "--"))

lacks_from : (words : List Text) → any_dashes words ≡ false → LacksDashes words
lacks_from [] e = tt
lacks_from (x ∷ xs) e =
    let both = either_false (bytes_eq x (codes "--")) (any_dashes xs) e in
    (both.0, lacks_from xs both.1)

any_from : (words : List Text) → LacksDashes words → any_dashes words ≡ false
any_from [] d = refl
any_from (x ∷ xs) d = rw d.0 (any_from xs d.1)

-- ---- `clap`'s account

module _ (c : Command) (program : Text) (args : List Text) where
  abbrev its_rules : List Rule
  its_rules = rules_of (app_for c)

  fault_at : fault_of qbf_app (program ∷ word_of c ∷ args) ≡ level_fault (leaf its_rules) [] nothing_held args false []
  fault_at = subst (λ w. fault_of qbf_app (program ∷ w ∷ args)
      ≡ level_fault (leaf its_rules) [] nothing_held args false [])
      (word_is c) (command_fault (app_for c) (is_command c) program args)

  account_at : subcommand_of qbf_app (program ∷ word_of c ∷ args) ≡ Some (word_of c, rows_after its_rules [] args)
  account_at = subst (λ w. subcommand_of qbf_app (program ∷ w ∷ args) ≡ Some (w, rows_after its_rules [] args))
      (word_is c) (command_account (app_for c) (is_command c) program args)

  not_dashes : IsNotDashes (word_of c)
  not_dashes = subst IsNotDashes (word_is c) (is_command c).no_dashes

  abbrev pair_word : Option (Text × List Row) → Text
  pair_word o = option_map_or (λ p. p.0) o []

  abbrev pair_rows : Option (Text × List Row) → List Row
  pair_rows o = option_map_or (λ p. p.1) o []

  called_at : (w : Text) → w ≡ word_of c → LacksDashes args → fault_of qbf_app (program ∷ w ∷ args) ≡ []
      → IsFoundAs c (subcommand_of qbf_app (program ∷ w ∷ args)) → IsCalled (program ∷ w ∷ args) c
  called_at w is lacks fault found =
      let at_word = ap (λ v. program ∷ v ∷ args) is in
      let rows = ap pair_rows (sym found.1 ∙ ap (subcommand_of qbf_app) at_word ∙ account_at) in
      record {
        program = program;
        args = args;
        words_are = at_word;
        lacks = lacks;
        passes = sym fault_at ∙ ap (fault_of qbf_app) (sym at_word) ∙ fault;
        values = subst (λ r. AreValues r c) rows found.2;
      }

  word_found : (w : Text) → IsCommandWord w → IsFoundAs c (subcommand_of qbf_app (program ∷ w ∷ args)) → w ≡ word_of c
  word_found w is found =
      sym is.1 ∙ ap pair_word (sym (command_account is.0 is.2 program args)
      ∙ ap (λ v. subcommand_of qbf_app (program ∷ v ∷ args)) is.1 ∙ found.1)

pub called : (words : List Text) (c : Command) → fault_of qbf_app words ≡ [] → has_dashes words ≡ false
    → IsFoundAs c (subcommand_of qbf_app words) → IsCalled words c
called [] c fault d found = absurd (no_words fault)
called (program ∷ []) c fault d found = absurd (name_alone program fault)
called (program ∷ w ∷ args) c fault d found = go (known_or_other w) (lacks_from (w ∷ args) d)
  where
    go : IsCommandWord w ⊎ IsNoneOf command_apps w → LacksDashes (w ∷ args) → IsCalled (program ∷ w ∷ args) c
    go (inr none) lacks = absurd (other_word program w args lacks.0 none fault)
    go (inl is) lacks = called_at c program args w (word_found c program args w is found) lacks.1 fault found

-- what `clap` tells of words that call a command
pub record IsTold (words : List Text) (c : Command) : Type 0 where
  pub fault : fault_of qbf_app words ≡ []
  pub dashes : has_dashes words ≡ false
  pub found : IsFoundAs c (subcommand_of qbf_app words)

pub told : (words : List Text) (c : Command) → IsCalled words c → IsTold words c
told words c h = subst (λ ws. IsTold ws c) (sym h.words_are) (record {
  fault = fault_at c h.program h.args ∙ h.passes;
  dashes = any_from (word_of c ∷ h.args) (not_dashes c h.program h.args, h.lacks);
  found = (rows_after (rules_of (app_for c)) [] h.args, account_at c h.program h.args, h.values);
})

-- ---- a command that reads an input

module _ (c : List Rule) (taken : List Flag) (r : AreInputRules c taken) where
  -- words that pass, and their account, are those of a form
  input_asks : (word : Text) (words : List Text) (program : Text) (args : List Text) → words ≡ program ∷ word ∷ args
      → LacksDashes args → level_fault (leaf c) [] nothing_held args false [] ≡ [] → (n k l : ℕ) (given : Option Text)
      → AreInput (rows_after c [] args) n k l given → (q : Flag → Bool)
      → ((a : AreRead c args) (f : Flag) → q f ≡ is_some (part_at (flag_name f) a.parts))
      → AsksInput word words n k l q given
  input_asks word words program args is lacks passes n k l given values q flags =
      let a = are_read c taken r args lacks passes in
      (program, args, is, in_form c taken r args a n k l given values q (flags a))

  -- a flag that the command takes, and one that it doesn't
  one_taken : (args : List Text) (a : AreRead c args) (f : Flag) (b : Bool)
      → b ≡ is_set (flag_name f) (rows_after c [] args) → b ≡ is_some (part_at (flag_name f) a.parts)
  one_taken args a f b is = is ∙ ap (is_set (flag_name f)) a.rows_are ∙ flag_set c taken r f a.parts a.once

  one_refused : (args : List Text) (a : AreRead c args) (f : Flag) → (KnowsFlag f c → ⊥)
      → false ≡ is_some (part_at (flag_name f) a.parts)
  one_refused args a f none = sym (ap is_some (no_flag c f none (name ∷ []) a.parts a.taken))

input_refuses : (f : Flag) → KnowsFlag f input_rules → ⊥
input_refuses the_qdo bad = absurd cc
input_refuses the_qcir bad = absurd cc
input_refuses the_binary bad = absurd cc
input_refuses the_trim bad = absurd cc
input_refuses the_decide bad = absurd cc

input_flags : (args : List Text) (a : AreRead input_rules args) (f : Flag)
    → no_flags f ≡ is_some (part_at (flag_name f) a.parts)
input_flags args a f = one_refused input_rules [] input_are args a f (input_refuses f)

solve_given : (args : List Text) (q : SolveForm) → IsFormOf (rows_after solve_rules [] args) q
    → (a : AreRead solve_rules args) (f : Flag) → solve_flags q f ≡ is_some (part_at (flag_name f) a.parts)
solve_given args q is a the_qdo =
    one_taken solve_rules (the_qdo ∷ the_qcir ∷ []) solve_are args a the_qdo (is_qdo q) is.0
solve_given args q is a the_qcir =
    one_taken solve_rules (the_qdo ∷ the_qcir ∷ []) solve_are args a the_qcir (is_qcir q) is.1
solve_given args q is a the_binary =
    one_refused solve_rules (the_qdo ∷ the_qcir ∷ []) solve_are args a the_binary (λ bad. absurd cc)
solve_given args q is a the_trim =
    one_refused solve_rules (the_qdo ∷ the_qcir ∷ []) solve_are args a the_trim (λ bad. absurd cc)
solve_given args q is a the_decide =
    one_refused solve_rules (the_qdo ∷ the_qcir ∷ []) solve_are args a the_decide (λ bad. absurd cc)

cert_given : (args : List Text) (b t : Bool) → b ≡ is_set (codes "binary") (rows_after cert_rules [] args)
    → t ≡ is_set (codes "trim") (rows_after cert_rules [] args)
    → (a : AreRead cert_rules args) (f : Flag) → cert_flags b t f ≡ is_some (part_at (flag_name f) a.parts)
cert_given args b t binary trim a the_qdo =
    one_refused cert_rules (the_binary ∷ the_trim ∷ []) cert_are args a the_qdo (λ bad. absurd cc)
cert_given args b t binary trim a the_qcir =
    one_refused cert_rules (the_binary ∷ the_trim ∷ []) cert_are args a the_qcir (λ bad. absurd cc)
cert_given args b t binary trim a the_binary =
    one_taken cert_rules (the_binary ∷ the_trim ∷ []) cert_are args a the_binary b binary
cert_given args b t binary trim a the_trim =
    one_taken cert_rules (the_binary ∷ the_trim ∷ []) cert_are args a the_trim t trim
cert_given args b t binary trim a the_decide =
    one_refused cert_rules (the_binary ∷ the_trim ∷ []) cert_are args a the_decide (λ bad. absurd cc)

check_given : (args : List Text) (d : Bool) → d ≡ is_set (codes "decide") (rows_after check_rules [] args)
    → (a : AreRead check_rules args) (f : Flag) → check_flags d f ≡ is_some (part_at (flag_name f) a.parts)
check_given args d is a the_qdo =
    one_refused check_rules (the_decide ∷ []) check_are args a the_qdo (λ bad. absurd cc)
check_given args d is a the_qcir =
    one_refused check_rules (the_decide ∷ []) check_are args a the_qcir (λ bad. absurd cc)
check_given args d is a the_binary =
    one_refused check_rules (the_decide ∷ []) check_are args a the_binary (λ bad. absurd cc)
check_given args d is a the_trim =
    one_refused check_rules (the_decide ∷ []) check_are args a the_trim (λ bad. absurd cc)
check_given args d is a the_decide = one_taken check_rules (the_decide ∷ []) check_are args a the_decide d is

default_between : (s : Setting) → IsBetween (least_of s) (greatest_of s) (default_of s)
default_between the_budget = (omega arith, omega arith)
default_between the_restarts = (omega arith, omega arith)
default_between the_keep = (omega arith, omega arith)

setting_between : (s : Setting) (parts : List Part) (n : ℕ) → GivesSetting s parts n
    → IsBetween (least_of s) (greatest_of s) n
setting_between s parts n (inl h) = subst (IsBetween (least_of s) (greatest_of s)) (sym h.1) (default_between s)
setting_between s parts n (inr h) = h.0

-- what `clap` makes of words that give an input
pub record IsInput (c : List Rule) (args : List Text) (n k l : ℕ) (q : Flag → Bool) (given : Option Text) : Type 0 where
  pub lacks : LacksDashes args
  pub passes : level_fault (leaf c) [] nothing_held args false [] ≡ []
  pub values : AreInput (rows_after c [] args) n k l given
  pub order : List Part
  pub once : AreOnce [] order
  pub rows_are : rows_after c [] args ≡ fold with_default (map new_row order) c
  pub flags : (f : Flag) → is_some (part_at (flag_name f) order) ≡ q f

module _ (c : List Rule) (taken : List Flag) (r : AreInputRules c taken) (args : List Text) (n k l : ℕ)
    (q : Flag → Bool) (given : Option Text) where
  is_input : ((f : Flag) → q f ≡ true → KnowsFlag f c) → GivesInput args n k l q given → IsInput c args n k l q given
  is_input knows s =
      let t = are_told c r.knows (three n k l) between given taken r args q knows s in
      subst (λ ws. IsInput c ws n k l q given) (sym t.words_are) (record {
        lacks = t.lacks;
        passes = t.passes;
        values = subst (λ rows. AreInput rows n k l given) (sym t.rows_are) t.values;
        order = t.order;
        once = t.once;
        rows_are = t.rows_are;
        flags = t.flags;
      })
    where
      between : (x : Setting) → IsBetween (least_of x) (greatest_of x) (three n k l x)
      between the_budget = setting_between the_budget s.budget_parts n s.gives_budget
      between the_restarts = setting_between the_restarts s.restarts_parts k s.gives_restarts
      between the_keep = setting_between the_keep s.kept_parts l s.gives_kept

  -- a flag as `clap` reads it
  pub flag_is : IsInput c args n k l q given → (f : Flag) → q f ≡ is_set (flag_name f) (rows_after c [] args)
  flag_is i f = sym (ap (is_set (flag_name f)) i.rows_are ∙ flag_set c taken r f i.order i.once ∙ i.flags f)

is_plain_input : (args : List Text) (n k l : ℕ) (given : Option Text) → GivesInput args n k l no_flags given
    → IsInput input_rules args n k l no_flags given
is_plain_input args n k l given = is_input input_rules [] input_are args n k l no_flags given (λ f e. absurd cc)

solve_known : (q : SolveForm) (f : Flag) → solve_flags q f ≡ true → KnowsFlag f solve_rules
solve_known q the_qdo e = refl
solve_known q the_qcir e = refl
solve_known q the_binary e = absurd cc
solve_known q the_trim e = absurd cc
solve_known q the_decide e = absurd cc

is_solve_input : (args : List Text) (n k l : ℕ) (q : SolveForm) (given : Option Text)
    → GivesInput args n k l (solve_flags q) given → IsInput solve_rules args n k l (solve_flags q) given
is_solve_input args n k l q given =
    is_input solve_rules (the_qdo ∷ the_qcir ∷ []) solve_are args n k l (solve_flags q) given (solve_known q)

cert_known : (b t : Bool) (f : Flag) → cert_flags b t f ≡ true → KnowsFlag f cert_rules
cert_known b t the_qdo e = absurd cc
cert_known b t the_qcir e = absurd cc
cert_known b t the_binary e = refl
cert_known b t the_trim e = refl
cert_known b t the_decide e = absurd cc

is_cert_input : (args : List Text) (n k l : ℕ) (b t : Bool) (given : Option Text)
    → GivesInput args n k l (cert_flags b t) given → IsInput cert_rules args n k l (cert_flags b t) given
is_cert_input args n k l b t given =
    is_input cert_rules (the_binary ∷ the_trim ∷ []) cert_are args n k l (cert_flags b t) given (cert_known b t)

check_known : (d : Bool) (f : Flag) → check_flags d f ≡ true → KnowsFlag f check_rules
check_known d the_qdo e = absurd cc
check_known d the_qcir e = absurd cc
check_known d the_binary e = absurd cc
check_known d the_trim e = absurd cc
check_known d the_decide e = refl

is_check_input : (args : List Text) (n k l : ℕ) (d : Bool) (given : Option Text)
    → GivesInput args n k l (check_flags d) given → IsInput check_rules args n k l (check_flags d) given
is_check_input args n k l d given =
    is_input check_rules (the_decide ∷ []) check_are args n k l (check_flags d) given (check_known d)

full_known : (f : Flag) → KnowsFlag f full_rules
full_known the_qdo = refl
full_known the_qcir = refl
full_known the_binary = refl
full_known the_trim = refl
full_known the_decide = refl

-- the same with any flags, to a command that takes all
pub is_any_input : (args : List Text) (n k l : ℕ) (q : Flag → Bool) (given : Option Text)
    → GivesInput args n k l q given
    → IsInput full_rules args n k l q given
is_any_input args n k l q given = is_input full_rules all_flags full_are args n k l q given (λ f e. full_known f)

pub any_flag_is : (args : List Text) (n k l : ℕ) (q : Flag → Bool) (given : Option Text)
    → IsInput full_rules args n k l q given → (f : Flag) → q f ≡ is_set (flag_name f) (rows_after full_rules [] args)
any_flag_is args n k l q given = flag_is full_rules all_flags full_are args n k l q given

-- ---- each command

pub asked : (words : List Text) (c : Command) → IsCalled words c → Asks words c
asked words (Read (Solve q) i) h =
    input_asks solve_rules (the_qdo ∷ the_qcir ∷ []) solve_are (codes "solve") words h.program h.args h.words_are
    h.lacks h.passes i.budget i.restarts i.kept (name_in i) h.values.0 (solve_flags q)
    (solve_given h.args q h.values.1)
asked words (Read Trace i) h =
    input_asks input_rules [] input_are (codes "trace") words h.program h.args h.words_are h.lacks h.passes
    i.budget i.restarts i.kept (name_in i) h.values.0 no_flags (input_flags h.args)
asked words (Read (Cert b t) i) h =
    input_asks cert_rules (the_binary ∷ the_trim ∷ []) cert_are (codes "cert") words h.program h.args h.words_are
    h.lacks h.passes i.budget i.restarts i.kept (name_in i) h.values.0 (cert_flags b t)
    (cert_given h.args b t h.values.1.0 h.values.1.1)
asked words (Read (Check d) i) h =
    input_asks check_rules (the_decide ∷ []) check_are (codes "check") words h.program h.args h.words_are h.lacks
    h.passes i.budget i.restarts i.kept (name_in i) h.values.0 (check_flags d) (check_given h.args d h.values.1)
asked words (Read Script i) h =
    input_asks input_rules [] input_are (codes "script") words h.program h.args h.words_are h.lacks h.passes
    i.budget i.restarts i.kept (name_in i) h.values.0 no_flags (input_flags h.args)
asked words (Gen s v k) h =
    let args = gen_in_form h.args h.lacks h.passes s v k h.values in
    let small : s < 2 ^ 32 = omega (arith, h.values.0.1.1) in
    ((h.program, h.words_are ∙ ap (λ ws. h.program ∷ codes "gen" ∷ ws) args), small, h.values.1.1, h.values.2.1.1)
asked words (Demo s k) h =
    let args = demo_in_form h.args h.lacks h.passes s k h.values in
    let small : s < 2 ^ 32 = omega (arith, h.values.0.1.1) in
    ((h.program, h.words_are ∙ ap (λ ws. h.program ∷ codes "demo" ∷ ws) args), small, h.values.1.1)

pub calls : (words : List Text) (c : Command) → Asks words c → IsCalled words c
calls words (Read (Solve q) i) (program, args, is, form) =
    let given = is_solve_input args i.budget i.restarts i.kept q (name_in i) form in
    let flags = flag_is solve_rules (the_qdo ∷ the_qcir ∷ []) solve_are args i.budget i.restarts i.kept (solve_flags q)
    (name_in i) given in
    record {
      program = program;
      args = args;
      words_are = is;
      lacks = given.lacks;
      passes = given.passes;
      values = (given.values, (flags the_qdo, flags the_qcir));
    }
calls words (Read Trace i) (program, args, is, form) =
    let given = is_plain_input args i.budget i.restarts i.kept (name_in i) form in
    record {
      program = program;
      args = args;
      words_are = is;
      lacks = given.lacks;
      passes = given.passes;
      values = (given.values, tt);
    }
calls words (Read (Cert b t) i) (program, args, is, form) =
    let given = is_cert_input args i.budget i.restarts i.kept b t (name_in i) form in
    let flags = flag_is cert_rules (the_binary ∷ the_trim ∷ []) cert_are args i.budget i.restarts i.kept
    (cert_flags b t) (name_in i) given in
    record {
      program = program;
      args = args;
      words_are = is;
      lacks = given.lacks;
      passes = given.passes;
      values = (given.values, (flags the_binary, flags the_trim));
    }
calls words (Read (Check d) i) (program, args, is, form) =
    let given = is_check_input args i.budget i.restarts i.kept d (name_in i) form in
    let flags = flag_is check_rules (the_decide ∷ []) check_are args i.budget i.restarts i.kept (check_flags d)
    (name_in i) given in
    record {
      program = program;
      args = args;
      words_are = is;
      lacks = given.lacks;
      passes = given.passes;
      values = (given.values, flags the_decide);
    }
calls words (Read Script i) (program, args, is, form) =
    let given = is_plain_input args i.budget i.restarts i.kept (name_in i) form in
    record {
      program = program;
      args = args;
      words_are = is;
      lacks = given.lacks;
      passes = given.passes;
      values = (given.values, tt);
    }
calls words (Gen s v k) (asks, small, vars, clauses) =
    let f = gen_found s v k (omega arith, omega (arith, small)) vars (omega arith, clauses) in
    record {
      program = asks.0;
      args = map decimal (s ∷ v ∷ k ∷ []);
      words_are = asks.1;
      lacks = f.lacks;
      passes = f.passes;
      values = f.values;
    }
calls words (Demo s k) (asks, small, count) =
    let f = demo_found s k (omega arith, omega (arith, small)) count in
    record {
      program = asks.0;
      args = map decimal (s ∷ k ∷ []);
      words_are = asks.1;
      lacks = f.lacks;
      passes = f.passes;
      values = f.values;
    }
