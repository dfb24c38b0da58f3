-- The words of a command that reads an input, and `clap`'s account of them.
use Rattle.std.proofs.Common.{◌≡◌, ◌⊎◌, ◌∙◌, ◌||◌, Bool, Decides, cond, drop, true, false, List, [], ◌∷◌, map, fold, Option, Some, None, codes, option_map, slice_get, is_some, refl, sym, ap, ap₂, subst, inl, inr}
use Rattle.std.specs.List.{AllByRecursion, find, flat_map, list_any}
use Rattle.std.specs.Option.{option_and_then, option_map_or, option_or}
use Rattle.std.specs.Str.{bytes_eq}
use Rattle.std.proofs.lemmas.List.Folds.{find-append}
use Rattle.std.proofs.lemmas.Slice.Eq.{bytes_eq-Decides}
use Rattle.clap.specs.Kinds.{or_else}
use Rattle.clap.specs.Words.{Row, Rule, Text, first_of}
use Rattle.clap.specs.Walk.{has_row, is_empty, nothing_held, rows_after, with_default, with_values}
use Rattle.clap.specs.Faults.{defaults_fault, given_default_fault, level_fault}
use Rattle.clap.specs.declared.builder.value_parser.Reading.TheVariants.{AsWritten}
use Rattle.clap.specs.declared.parser.matches.ValueSource.TheVariants.{DefaultValue}
use Rattle.command.specs.Account.{cert_app, check_app, command_app, default_text, is_set, solve_app}
use Rattle.command.specs.Forms.{Flag, Part, Setting, all_flags, flag_name, setting_name, spelled}
use Rattle.command.specs.Forms.Flag.{the_qdo, the_qcir, the_binary, the_trim, the_decide}
use Rattle.command.specs.Forms.Setting.{the_budget, the_keep, the_restarts}
use Rattle.command.proofs.Turns.{leaf, no_kinds, rules_of}
use Rattle.command.proofs.Names.{apart_name, apart_setting, same_flag, setting_apart}
use Rattle.command.proofs.WordKinds.{FindsHelpAlone, KnowsFlag, KnowsSetting, Long, long_flag, long_refused, long_setting}
use Rattle.clap.proofs.WalkLemmas.{find-map}
use Rattle.command.proofs.PartWalk.{AreRules, AreTaken, LacksDashes, end_fault, fault_of_parts, parts_of_words, rows_of_parts, used_rows, uses_fault, uses_of}
use Rattle.command.proofs.PartUses.{AreOnce, AreUsed, IsAccepted, first_of_parts, joins, name, part_use, uses_are, uses_are_once, uses_pass, new_row, part_at, value_of}

-- ---- names with two hyphens

-- the name is that of none of these flags
abbrev AreOthers : Text → List Flag → Type 0
AreOthers n flags = AllByRecursion (λ f. bytes_eq (flag_name f) n ≡ false) flags

abbrev AreKnown : List Rule → List Flag → Type 0
AreKnown c flags = AllByRecursion (λ f. KnowsFlag f c) flags

module _ (c : List Rule) (n : Text) where
  flag_or_other : (flags : List Flag) → AreKnown c flags → (AreOthers n flags → FindsHelpAlone c n) → Long c n
  flag_or_other [] known other = long_refused (other tt)
  flag_or_other (f ∷ fs) known other =
      go (bytes_eq (flag_name f) n) refl (bytes_eq-Decides (flag_name f) n) (flag_or_other fs known.1)
    where
      go : (b : Bool) → bytes_eq (flag_name f) n ≡ b → Decides b (flag_name f ≡ n)
          → ((AreOthers n fs → FindsHelpAlone c n) → Long c n) → Long c n
      go true e is rest = long_flag f (is.0 refl) known.0
      go false e is rest = rest (λ others. other (e, others))

  setting_or_other : (s : Setting) → KnowsSetting s c → (bytes_eq (setting_name s) n ≡ false → Long c n) → Long c n
  setting_or_other s known other = go (bytes_eq (setting_name s) n) refl (bytes_eq-Decides (setting_name s) n)
    where
      go : (b : Bool) → bytes_eq (setting_name s) n ≡ b → Decides b (setting_name s ≡ n) → Long c n
      go true e is = long_setting s (is.0 refl) known
      go false e is = other e

  -- the name is that of an option, or the rules find at most help by it
  long_of_rules : (flags : List Flag) → ((s : Setting) → KnowsSetting s c) → AreKnown c flags
      → (bytes_eq (codes "budget") n ≡ false → bytes_eq (codes "restarts") n ≡ false
      → bytes_eq (codes "keep") n ≡ false → AreOthers n flags → FindsHelpAlone c n) → Long c n
  long_of_rules flags settings known other =
      setting_or_other the_budget (settings the_budget) (λ b.
      setting_or_other the_restarts (settings the_restarts) (λ r.
      setting_or_other the_keep (settings the_keep) (λ k. flag_or_other flags known (other b r k))))

-- ---- defaults

same_either : {X : Type 0} (b : Bool) (x : X) → cond b x x ≡ x
same_either true x = refl
same_either false x = refl

-- a default for an argument that has no row
abbrev defaulted : Text → Text → List Row → List Row
defaulted id v rows = cond (has_row id rows) rows (with_values id AsWritten DefaultValue (v ∷ []) rows)

-- the argument has no default, or one that doesn't fail
abbrev IsHarmless : Rule → Type 0
IsHarmless a = (is_empty a.defaults ≡ true) ⊎ (given_default_fault a a.defaults ≡ [])

harmless : (rows : List Row) (rules : List Rule) → AllByRecursion IsHarmless rules → defaults_fault rows rules ≡ []
unfolding defaults_fault
harmless rows [] all = refl
harmless rows (a ∷ rest) all =
    ap₂ or_else (go (has_row a.id rows) all.0) (harmless (with_default rows a) rest all.1)
  where
    go : (b : Bool) → IsHarmless a
        → cond (b || is_empty a.defaults) [] (given_default_fault a a.defaults) ≡ []
    go true h = refl
    go false (inl e) = rw e refl
    go false (inr e) = rw e (same_either (is_empty a.defaults) [])

module _ (own id v : Text) (rows : List Row) (other : bytes_eq own id ≡ false) where
  or_none : {X : Type 0} (o : Option X) → option_or o None ≡ o
  or_none None = refl
  or_none (Some x) = refl

  -- another argument keeps its row
  kept_find : find (λ r. bytes_eq r.id id) (defaulted own v rows) ≡ find (λ r. bytes_eq r.id id) rows
  kept_find = go (has_row own rows) refl
    where
      go : (b : Bool) → has_row own rows ≡ b → find (λ r. bytes_eq r.id id) (defaulted own v rows)
          ≡ find (λ r. bytes_eq r.id id) rows
      go true e = rw e refl
      go false e = rw (e, joins own DefaultValue (v ∷ []) rows e)
          (find-append (λ r. bytes_eq r.id id) rows _ ∙ rw other (or_none (find (λ r. bytes_eq r.id id) rows)))

  kept : first_of id (defaulted own v rows) ≡ first_of id rows
  kept = ap (option_and_then (λ (r : Row). slice_get r.values 0)) kept_find

-- ---- what `clap` reads of an argument with a default

any_is_find : {X : Type 0} (p : X → Bool) (xs : List X) → list_any p xs ≡ is_some (find p xs)
any_is_find p [] = refl
any_is_find p (x ∷ xs) = go (p x) (any_is_find p xs)
  where
    go : (b : Bool) → list_any p xs ≡ is_some (find p xs) → (b || list_any p xs) ≡ is_some (cond b (Some x) (find p xs))
    go true e = refl
    go false e = e

abbrev row_at : Text → List Row → Option Row
row_at id rows = find (λ r. bytes_eq r.id id) rows

abbrev value_or : Text → Option Row → Option Text
value_or v row = option_map_or (λ r. slice_get r.values 0) row (Some v)

own_default : (id v : Text) (rows : List Row) → bytes_eq id id ≡ true
    → first_of id (defaulted id v rows) ≡ value_or v (row_at id rows)
own_default id v rows same = go (row_at id rows) refl
  where
    go : (o : Option Row) → row_at id rows ≡ o → first_of id (defaulted id v rows) ≡ value_or v o
    go None e =
        let none : has_row id rows ≡ false = any_is_find (λ r. bytes_eq r.id id) rows ∙ ap is_some e in
        rw (none, joins id DefaultValue (v ∷ []) rows none, find-append (λ r. bytes_eq r.id id) rows _, e, same) refl
    go (Some r) e =
        let some : has_row id rows ≡ true = any_is_find (λ r. bytes_eq r.id id) rows ∙ ap is_some e in
        rw (some, e) refl

-- the rows with the default of the budget, with that of restarts too, and with those of all options
abbrev with_budget : List Row → List Row
with_budget rows = defaulted (codes "budget") (default_text the_budget) rows

abbrev with_both : List Row → List Row
with_both rows = defaulted (codes "restarts") (default_text the_restarts) (with_budget rows)

abbrev with_settings : List Row → List Row
with_settings rows = defaulted (codes "keep") (default_text the_keep) (with_both rows)

-- what `clap` reads of an option
abbrev setting_in : Setting → List Row → Option Text
setting_in s rows = value_or (default_text s) (row_at (setting_name s) rows)

settings_in : (s : Setting) (rows : List Row) → first_of (setting_name s) (with_settings rows) ≡ setting_in s rows
settings_in the_budget rows =
    kept (codes "keep") (codes "budget") (default_text the_keep) (with_both rows) refl
    ∙ kept (codes "restarts") (codes "budget") (default_text the_restarts) (with_budget rows) refl
    ∙ own_default (codes "budget") (default_text the_budget) rows refl
settings_in the_restarts rows =
    kept (codes "keep") (codes "restarts") (default_text the_keep) (with_both rows) refl
    ∙ own_default (codes "restarts") (default_text the_restarts) (with_budget rows) refl
    ∙ ap (value_or (default_text the_restarts))
    (kept_find (codes "budget") (codes "restarts") (default_text the_budget) rows refl)
settings_in the_keep rows =
    own_default (codes "keep") (default_text the_keep) (with_both rows) refl
    ∙ ap (value_or (default_text the_keep))
    (kept_find (codes "restarts") (codes "keep") (default_text the_restarts) (with_budget rows) refl
    ∙ kept_find (codes "budget") (codes "keep") (default_text the_budget) rows refl)

-- another argument is found as before
other_find : (id : Text) (rows : List Row) → bytes_eq (codes "budget") id ≡ false
    → bytes_eq (codes "restarts") id ≡ false → bytes_eq (codes "keep") id ≡ false
    → row_at id (with_settings rows) ≡ row_at id rows
other_find id rows b r k =
    kept_find (codes "keep") id (default_text the_keep) (with_both rows) k
    ∙ kept_find (codes "restarts") id (default_text the_restarts) (with_budget rows) r
    ∙ kept_find (codes "budget") id (default_text the_budget) rows b

other_in : (id : Text) (rows : List Row) → bytes_eq (codes "budget") id ≡ false
    → bytes_eq (codes "restarts") id ≡ false → bytes_eq (codes "keep") id ≡ false
    → first_of id (with_settings rows) ≡ first_of id rows
other_in id rows b r k = ap (option_and_then (λ (r : Row). slice_get r.values 0)) (other_find id rows b r k)

-- the rows with the defaults of these flags
abbrev with_flags : List Flag → List Row → List Row
with_flags [] rows = rows
with_flags (f ∷ fs) rows = with_flags fs (defaulted (flag_name f) (codes "false") rows)

-- another argument than a flag is found as before
flags_find : (id : Text) → ((f : Flag) → bytes_eq (flag_name f) id ≡ false) → (flags : List Flag) (rows : List Row)
    → row_at id (with_flags flags rows) ≡ row_at id rows
flags_find id apart [] rows = refl
flags_find id apart (f ∷ fs) rows = flags_find id apart fs (defaulted (flag_name f) (codes "false") rows)
    ∙ kept_find (flag_name f) id (codes "false") rows (apart f)

flags_in : (id : Text) → ((f : Flag) → bytes_eq (flag_name f) id ≡ false) → (flags : List Flag) (rows : List Row)
    → first_of id (with_flags flags rows) ≡ first_of id rows
flags_in id apart flags rows =
    ap (option_and_then (λ (r : Row). slice_get r.values 0)) (flags_find id apart flags rows)

-- ---- whether a flag is given, which its default doesn't change

abbrev pub says_true : Option Text → Bool
says_true o = option_map_or (λ text. bytes_eq text (codes "true")) o false

own_kept : (id : Text) (rows : List Row) → bytes_eq id id ≡ true
    → is_set id (defaulted id (codes "false") rows) ≡ is_set id rows
own_kept id rows same = ap says_true (own_default id (codes "false") rows same) ∙ go (row_at id rows)
  where
    go : (o : Option Row) → says_true (value_or (codes "false") o)
        ≡ says_true (option_and_then (λ (r : Row). slice_get r.values 0) o)
    go None = refl
    go (Some r) = refl

flag_itself : (f : Flag) → bytes_eq (flag_name f) (flag_name f) ≡ true
flag_itself the_qdo = refl
flag_itself the_qcir = refl
flag_itself the_binary = refl
flag_itself the_trim = refl
flag_itself the_decide = refl

flag_kept : (f g : Flag) (rows : List Row)
    → is_set (flag_name f) (defaulted (flag_name g) (codes "false") rows) ≡ is_set (flag_name f) rows
flag_kept f g rows = go (bytes_eq (flag_name g) (flag_name f)) refl
  where
    go : (b : Bool) → bytes_eq (flag_name g) (flag_name f) ≡ b
        → is_set (flag_name f) (defaulted (flag_name g) (codes "false") rows) ≡ is_set (flag_name f) rows
    go true e = subst (λ h. is_set (flag_name f) (defaulted (flag_name h) (codes "false") rows)
        ≡ is_set (flag_name f) rows) (sym (same_flag f g e)) (own_kept (flag_name f) rows (flag_itself f))
    go false e = ap says_true (kept (flag_name g) (flag_name f) (codes "false") rows e)

flags_kept : (f : Flag) (flags : List Flag) (rows : List Row)
    → is_set (flag_name f) (with_flags flags rows) ≡ is_set (flag_name f) rows
flags_kept f [] rows = refl
flags_kept f (g ∷ gs) rows = flags_kept f gs (defaulted (flag_name g) (codes "false") rows) ∙ flag_kept f g rows

-- ---- the commands

-- the rules are of a command that reads an input and takes these flags
pub record AreInputRules (c : List Rule) (flags : List Flag) : Type 0 where
  pub rules : AreRules c (name ∷ [])
  pub knows : (s : Setting) → KnowsSetting s c
  pub known : AreKnown c flags
  pub ends : (rows : List Row) → end_fault c rows ≡ []
  pub last : (rows : List Row) → fold with_default rows c ≡ with_flags flags (with_settings rows)

-- an argument without a default
none_by : (id : Text) (rows : List Row) → cond (has_row id rows) rows rows ≡ rows
none_by id rows = same_either (has_row id rows) rows

-- the rules of `trace` and `script`, of `solve`, of `cert` and of `check`, and those of a command that takes all flags
abbrev pub input_rules : List Rule
input_rules = rules_of (command_app [] [])

abbrev pub solve_rules : List Rule
solve_rules = rules_of solve_app

abbrev pub cert_rules : List Rule
cert_rules = rules_of cert_app

abbrev pub check_rules : List Rule
check_rules = rules_of check_app

abbrev pub full_rules : List Rule
full_rules = rules_of (command_app [] all_flags)

input_knows : (s : Setting) → KnowsSetting s input_rules
input_knows the_budget = (refl, refl)
input_knows the_restarts = (refl, refl)
input_knows the_keep = (refl, refl)

pub input_are : AreInputRules input_rules []
input_are = record {
  rules = record {
    help_alone = λ x. refl;
    long = λ n. long_of_rules input_rules n [] input_knows tt (λ b r k others. rw (b, r, k) refl);
    left = (refl, record { found = refl; one_use = refl; one_value = refl; no_trail = refl }, refl, refl);
  };
  knows = input_knows;
  known = tt;
  ends = λ rows. ap (λ k. or_else k []) (harmless rows input_rules
      (inr refl, (inr refl, (inr refl, (inl refl, (inl refl, tt))))));
  last = λ rows. none_by (codes "help") _ ∙ none_by (codes "name") (with_settings rows);
}

solve_knows : (s : Setting) → KnowsSetting s solve_rules
solve_knows the_budget = (refl, refl)
solve_knows the_restarts = (refl, refl)
solve_knows the_keep = (refl, refl)

pub solve_are : AreInputRules solve_rules (the_qdo ∷ the_qcir ∷ [])
solve_are = record {
  rules = record {
    help_alone = λ x. refl;
    long = λ n. long_of_rules solve_rules n (the_qdo ∷ the_qcir ∷ []) solve_knows (refl, (refl, tt))
        (λ b r k others. rw (b, r, k, others.0, others.1.0) refl);
    left = (refl, record { found = refl; one_use = refl; one_value = refl; no_trail = refl }, refl, refl);
  };
  knows = solve_knows;
  known = (refl, (refl, tt));
  ends = λ rows. ap (λ k. or_else k []) (harmless rows solve_rules
      (inr refl, (inr refl, (inr refl, (inl refl, (inr refl, (inr refl, (inl refl, tt))))))));
  last = λ rows. none_by (codes "help") _
      ∙ ap (with_flags (the_qdo ∷ the_qcir ∷ [])) (none_by (codes "name") (with_settings rows));
}

cert_knows : (s : Setting) → KnowsSetting s cert_rules
cert_knows the_budget = (refl, refl)
cert_knows the_restarts = (refl, refl)
cert_knows the_keep = (refl, refl)

pub cert_are : AreInputRules cert_rules (the_binary ∷ the_trim ∷ [])
cert_are = record {
  rules = record {
    help_alone = λ x. refl;
    long = λ n. long_of_rules cert_rules n (the_binary ∷ the_trim ∷ []) cert_knows (refl, (refl, tt))
        (λ b r k others. rw (b, r, k, others.0, others.1.0) refl);
    left = (refl, record { found = refl; one_use = refl; one_value = refl; no_trail = refl }, refl, refl);
  };
  knows = cert_knows;
  known = (refl, (refl, tt));
  ends = λ rows. ap (λ k. or_else k []) (harmless rows cert_rules
      (inr refl, (inr refl, (inr refl, (inl refl, (inr refl, (inr refl, (inl refl, tt))))))));
  last = λ rows. none_by (codes "help") _
      ∙ ap (with_flags (the_binary ∷ the_trim ∷ [])) (none_by (codes "name") (with_settings rows));
}

check_knows : (s : Setting) → KnowsSetting s check_rules
check_knows the_budget = (refl, refl)
check_knows the_restarts = (refl, refl)
check_knows the_keep = (refl, refl)

pub check_are : AreInputRules check_rules (the_decide ∷ [])
check_are = record {
  rules = record {
    help_alone = λ x. refl;
    long = λ n. long_of_rules check_rules n (the_decide ∷ []) check_knows (refl, tt)
        (λ b r k others. rw (b, r, k, others.0) refl);
    left = (refl, record { found = refl; one_use = refl; one_value = refl; no_trail = refl }, refl, refl);
  };
  knows = check_knows;
  known = (refl, tt);
  ends = λ rows. ap (λ k. or_else k []) (harmless rows check_rules
      (inr refl, (inr refl, (inr refl, (inl refl, (inr refl, (inl refl, tt)))))));
  last = λ rows. none_by (codes "help") _
      ∙ ap (with_flags (the_decide ∷ [])) (none_by (codes "name") (with_settings rows));
}

full_knows : (s : Setting) → KnowsSetting s full_rules
full_knows the_budget = (refl, refl)
full_knows the_restarts = (refl, refl)
full_knows the_keep = (refl, refl)

flags_harmless : AllByRecursion IsHarmless (drop 4 full_rules)
flags_harmless = (inr refl, (inr refl, (inr refl, (inr refl, (inr refl, (inl refl, tt))))))

pub full_are : AreInputRules full_rules all_flags
full_are = record {
  rules = record {
    help_alone = λ x. refl;
    long = λ n. long_of_rules full_rules n all_flags full_knows (refl, (refl, (refl, (refl, (refl, tt)))))
        (λ b r k others. rw (b, r, k, others.0, others.1.0, others.1.1.0, others.1.1.1.0, others.1.1.1.1.0) refl);
    left = (refl, record { found = refl; one_use = refl; one_value = refl; no_trail = refl }, refl, refl);
  };
  knows = full_knows;
  known = (refl, (refl, (refl, (refl, (refl, tt)))));
  ends = λ rows. ap (λ k. or_else k []) (harmless rows full_rules
      (inr refl, (inr refl, (inr refl, (inl refl, flags_harmless)))));
  last = λ rows. none_by (codes "help") _
      ∙ ap (with_flags all_flags) (none_by (codes "name") (with_settings rows));
}

module _ (c : List Rule) (flags : List Flag) (r : AreInputRules c flags) (rows : List Row) where
  setting_last : (s : Setting) → first_of (setting_name s) (fold with_default rows c) ≡ setting_in s rows
  setting_last s = ap (first_of (setting_name s)) (r.last rows)
      ∙ flags_in (setting_name s) (λ f. apart_setting f s) flags (with_settings rows) ∙ settings_in s rows

  name_last : first_of (codes "name") (fold with_default rows c) ≡ first_of (codes "name") rows
  name_last = ap (first_of (codes "name")) (r.last rows)
      ∙ flags_in (codes "name") apart_name flags (with_settings rows) ∙ other_in (codes "name") rows refl refl refl

  flag_last : (f : Flag) → is_set (flag_name f) (fold with_default rows c) ≡ is_set (flag_name f) rows
  flag_last f = ap (is_set (flag_name f)) (r.last rows) ∙ flags_kept f flags (with_settings rows)
      ∙ ap says_true (other_in (flag_name f) rows (setting_apart the_budget f) (setting_apart the_restarts f)
      (setting_apart the_keep f))

-- ---- what `clap` reads of parts

row_of_part : (id : Text) (ps : List Part) → row_at id (map new_row ps) ≡ option_map new_row (part_at id ps)
row_of_part id ps = sym (find-map (λ r. bytes_eq r.id id) new_row ps)

module _ (c : List Rule) (flags : List Flag) (r : AreInputRules c flags) (ps : List Part) where
  abbrev rows : List Row
  rows = map new_row ps

  pub setting_read : (s : Setting) → first_of (setting_name s) (fold with_default rows c)
      ≡ Some (option_map_or value_of (part_at (setting_name s) ps) (default_text s))
  setting_read s = setting_last c flags r rows s
      ∙ ap (value_or (default_text s)) (row_of_part (setting_name s) ps) ∙ go (part_at (setting_name s) ps)
    where
      go : (o : Option Part) → value_or (default_text s) (option_map new_row o)
          ≡ Some (option_map_or value_of o (default_text s))
      go None = refl
      go (Some p) = refl

  pub name_read : first_of (codes "name") (fold with_default rows c) ≡ option_map value_of (part_at (codes "name") ps)
  name_read = name_last c flags r rows ∙ first_of_parts (codes "name") ps

  pub flag_read : (f : Flag) → is_set (flag_name f) (fold with_default rows c)
      ≡ says_true (option_map value_of (part_at (flag_name f) ps))
  flag_read f = flag_last c flags r rows f ∙ ap says_true (first_of_parts (flag_name f) ps)

-- ---- words that don't fail, and parts that don't

-- what `clap` reads of words that don't fail
pub record AreRead (c : List Rule) (args : List Text) : Type 0 where
  pub parts : List Part
  pub taken : AreTaken c (name ∷ []) parts
  pub words_are : args ≡ flat_map spelled parts
  pub once : AreOnce [] parts
  pub rows_are : rows_after c [] args ≡ fold with_default (map new_row parts) c

module _ (c : List Rule) (flags : List Flag) (r : AreInputRules c flags) where
  rows_used : (ps : List Part) → AreTaken c (name ∷ []) ps → AreUsed [] ps
      → rows_after c [] (flat_map spelled ps) ≡ fold with_default (map new_row ps) c
  rows_used ps taken u = rows_of_parts c (name ∷ []) r.rules ps taken
      ∙ ap (λ rows. fold with_default rows c) (ap (used_rows []) (uses_are c true ps taken) ∙ u.rows_are)

  pub are_read : (args : List Text) → LacksDashes args → level_fault (leaf c) [] nothing_held args false [] ≡ []
      → AreRead c args
  are_read args d e =
      let p = parts_of_words c (name ∷ []) r.rules args d e in
      let ps = p.parts in
      let passes = sym (fault_of_parts c (name ∷ []) r.rules ps p.taken)
      ∙ ap (λ ws. level_fault (leaf c) [] nothing_held ws false []) (sym p.words_are) ∙ e in
      let uses = ap (uses_fault []) (sym (uses_are c true ps p.taken))
      ∙ (no_kinds (uses_fault [] (uses_of (name ∷ []) ps)) _ passes).0 in
      let u = uses_are_once ps [] uses in
      record {
        parts = ps;
        taken = p.taken;
        words_are = p.words_are;
        once = u.once;
        rows_are = ap (rows_after c []) p.words_are ∙ rows_used ps p.taken u;
      }

  module _ (ps : List Part) (taken : AreTaken c (name ∷ []) ps) (accepted : AllByRecursion IsAccepted ps)
      (once : AreOnce [] ps) where
    uses_fine : uses_fault [] (map part_use ps) ≡ []
    uses_fine = uses_pass ps [] accepted once

    pub parts_pass : level_fault (leaf c) [] nothing_held (flat_map spelled ps) false [] ≡ []
    parts_pass = fault_of_parts c (name ∷ []) r.rules ps taken
        ∙ ap₂ or_else (ap (uses_fault []) (uses_are c true ps taken)
        ∙ uses_fine) (r.ends (used_rows [] (uses_of (name ∷ []) ps)))

    pub rows_of_passing : rows_after c [] (flat_map spelled ps) ≡ fold with_default (map new_row ps) c
    rows_of_passing = rows_used ps taken (uses_are_once ps [] uses_fine)
