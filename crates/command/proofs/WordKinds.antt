-- Which words there are, to a command with these rules.
use Rattle.std.proofs.Common.{◌≡◌, ◌≢◌, ◌∙◌, ◌==◌, ◌||◌, ℕ, Bool, cond, true, false, List, [], ◌∷◌, length, Option, Some, None, codes, slice_get, refl, sym, ap, subst, inl, inr}
use Rattle.std.specs.Str.{bytes_eq, chars}
use Rattle.clap.specs.Lexer.{long_of, short_of}
use Rattle.clap.specs.Words.{Row, Rule, Shape}
use Rattle.clap.specs.Walk.{Held, Names, Text, Waiting, arg_by_id, arg_by_long, arg_by_short, long_word, subcommand_met, word_met}
use Rattle.clap.specs.Faults.{bundle_step_fault, flags_fault, long_fault, react_fault, settle_fault, word_fault}
use Rattle.clap.specs.Simple.{filled, help_rule}
use Rattle.clap.specs.declared.error.ErrorKind.TheVariants.{DisplayHelp}
use Rattle.command.specs.Account.{flag_rule, setting_rule}
use Rattle.command.specs.Forms.{Flag, Setting, flag_name, setting_name}
use Rattle.command.proofs.Turns.{IsPlainWord, Pending, held, leaf, some_left, some_right}

abbrev pub IsNotDashes : Text → Type 0
IsNotDashes w = bytes_eq w (45 ∷ 45 ∷ []) ≡ false

-- ---- a word with two hyphens

module _ (s : Shape) (names : Names) (waiting : Waiting) (w : Text) (unmet : subcommand_met names waiting w ≡ None)
    (dashes : IsNotDashes w) (rows : List Row) (pending : Pending) where
  pub long_fault_is : (name : Text) (v : Option Text) → long_of w ≡ Some (name, v)
      → word_fault s names false waiting w (held rows pending)
      ≡ long_fault s.rules s.args_override_self (arg_by_long s.rules name) v (held rows pending)
  long_fault_is name v e = rw (unmet, dashes, e) refl

  pub long_met_is : (position : ℕ) (name : Text) (v : Option Text) → long_of w ≡ Some (name, v)
      → word_met s.rules names false waiting position w (held rows pending)
      ≡ long_word s.rules waiting w name v (held rows pending)
  long_met_is position name v e = rw (unmet, dashes, e) refl

  -- a word with one hyphen, whose first flag is x
  pub short_fault_is : (flags : Text) → long_of w ≡ None → short_of w ≡ Some flags
      → word_fault s names false waiting w (held rows pending)
      ≡ flags_fault s.rules s.args_override_self (length flags) flags 0 (held rows pending)
  short_fault_is flags e f = rw (unmet, dashes, e, f) refl

-- ---- a word that is refused wherever it stands

abbrev pub IsRefused : Shape → Names → Text → Type 0
IsRefused s names w = (waiting : Waiting) (rows : List Row) (pending : Pending) → subcommand_met names waiting w ≡ None
    → word_fault s names false waiting w (held rows pending) ≢ []

-- the flag for help, as it is built
abbrev pub help : Rule
help = filled help_rule

pub asks_for_help : (c : List Rule) (again : Bool) (h : Held) → react_fault c again help [] h ≢ []
asks_for_help c again h = some_right (settle_fault c again h) (DisplayHelp ∷ []) (λ e. absurd cc)

-- the only flag with one hyphen is help
abbrev pub KnowsHelpAlone : List Rule → Type 0
KnowsHelpAlone c = (x : ℕ) → arg_by_short c x ≡ cond ((104 == x) || false) (Some help) None

pub first_flag : (c : List Rule) (again : Bool) (flags : Text) (x : ℕ) (h : Held)
    → Some x ≡ slice_get (chars flags) 0 → KnowsHelpAlone c → flags_fault c again (length flags) flags 0 h ≢ []
unfolding flags_fault chars
first_flag c again [] x h first known = λ e. absurd cc
first_flag c again (f ∷ flags) x h first known =
    subst (λ o. bundle_step_fault c again o (f ∷ flags) 0 h (flags_fault c again (length flags)) ≢ []) first
    (go (104 == x) (known x))
  where
    go : (b : Bool) → arg_by_short c x ≡ cond (b || false) (Some help) None
        → bundle_step_fault c again (Some x) (f ∷ flags) 0 h (flags_fault c again (length flags)) ≢ []
    go false none = rw none (λ e. absurd cc)
    go true some = rw some (some_left (react_fault c again help [] h) _ (asks_for_help c again h))

-- a name with two hyphens is that of help, or of no option
abbrev pub FindsHelpAlone : List Rule → Text → Type 0
FindsHelpAlone c name = arg_by_long c name ≡ cond (bytes_eq (codes "help") name || false) (Some help) None

pub long_fails : (c : List Rule) (name : Text) → FindsHelpAlone c name → (v : Option Text) (h : Held)
    → long_fault c false (arg_by_long c name) v h ≢ []
long_fails c name found v h = go (bytes_eq (codes "help") name) v found
  where
    go : (b : Bool) (v : Option Text) → arg_by_long c name ≡ cond (b || false) (Some help) None
        → long_fault c false (arg_by_long c name) v h ≢ []
    go false v none = rw none (λ e. absurd cc)
    go true None some = rw some (asks_for_help c false h)
    go true (Some t) some = rw some (λ e. absurd cc)

-- ---- the kinds

abbrev pub setting : Setting → Rule
setting s = filled (setting_rule s)

abbrev pub flag : Flag → Rule
flag f = filled (flag_rule (flag_name f))

-- the rules have the option
abbrev pub KnowsSetting : Setting → List Rule → Type 0
KnowsSetting s c = (arg_by_long c (setting_name s) ≡ Some (setting s)) ×
    (arg_by_id c (setting_name s) ≡ Some (setting s))

-- the rules have the flag
abbrev pub KnowsFlag : Flag → List Rule → Type 0
KnowsFlag f c = arg_by_long c (flag_name f) ≡ Some (flag f)

-- what the rules make of a word with two hyphens and this name
pub data Long (c : List Rule) (name : Text) : Type 0 where
  long_setting : (s : Setting) → setting_name s ≡ name → KnowsSetting s c → Long c name
  long_flag : (f : Flag) → flag_name f ≡ name → KnowsFlag f c → Long c name
  long_refused : FindsHelpAlone c name → Long c name

pub data Kind (c : List Rule) (w : Text) : Type 0 where
  is_plain : IsPlainWord w → Kind c w
  is_setting : (s : Setting) → KnowsSetting s c → long_of w ≡ Some (setting_name s, None) → Kind c w
  sets : (s : Setting) → KnowsSetting s c → (t : Text) → long_of w ≡ Some (setting_name s, Some t) → Kind c w
  is_flag : (f : Flag) → KnowsFlag f c → long_of w ≡ Some (flag_name f, None) → Kind c w
  is_refused : IsRefused (leaf c) [] w → Kind c w

module _ (c : List Rule) (help_alone : KnowsHelpAlone c) (long : (name : Text) → Long c name) (w : Text)
    (dashes : IsNotDashes w) where
  by_char : long_of w ≡ None → (flags : Text) → short_of w ≡ Some flags → (o : Option ℕ)
      → o ≡ slice_get (chars flags) 0 → Kind c w
  by_char l flags f None e = is_plain (record { dashes = dashes; long = l; short = inr (flags, f, e) })
  by_char l flags f (Some x) e = is_refused (λ waiting rows pending unmet.
      rw (short_fault_is (leaf c) [] waiting w unmet dashes rows pending flags l f)
      (first_flag c false flags x (held rows pending) e help_alone))

  by_short : long_of w ≡ None → (o : Option Text) → short_of w ≡ o → Kind c w
  by_short l None f = is_plain (record { dashes = dashes; long = l; short = inl f })
  by_short l (Some flags) f = by_char l flags f (slice_get (chars flags) 0) refl

  by_name : (name : Text) (v : Option Text) → long_of w ≡ Some (name, v) → Long c name → Kind c w
  by_name name v l (long_refused found) = is_refused (λ waiting rows pending unmet.
      rw (long_fault_is (leaf c) [] waiting w unmet dashes rows pending name v l)
      (long_fails c name found v (held rows pending)))
  by_name name None l (long_setting s e knows) = is_setting s knows (l ∙ ap (λ (n : Text). Some (n, None)) (sym e))
  by_name name (Some t) l (long_setting s e knows) = sets s knows t (l ∙ ap (λ (n : Text). Some (n, Some t)) (sym e))
  by_name name None l (long_flag f e knows) = is_flag f knows (l ∙ ap (λ (n : Text). Some (n, None)) (sym e))
  by_name name (Some t) l (long_flag f e knows) = is_refused (λ waiting rows pending unmet.
      let at_flag = l ∙ ap (λ (n : Text). Some (n, Some t)) (sym e) in
      rw (long_fault_is (leaf c) [] waiting w unmet dashes rows pending (flag_name f) (Some t) at_flag, knows)
      (λ bad. absurd cc))

  by_long : (o : Option (Text × Option Text)) → long_of w ≡ o → Kind c w
  by_long None l = by_short l (short_of w) refl
  by_long (Some p) l = by_name p.0 p.1 l (long p.0)

  pub kind_of_word : Kind c w
  kind_of_word = by_long (long_of w) refl
