-- What `clap` makes of one word behind the word of a command.
use Rattle.std.proofs.Common.{◌≡◌, ◌≢◌, ◌⊎◌, ℕ, false, List, [], ◌∷◌, length, Option, Some, None, chars, slice_get, refl, sym, ap, inl, inr}
use Rattle.std.specs.Str.{bytes_eq}
use Rattle.clap.specs.Lexer.{long_of, short_of}
use Rattle.clap.specs.Words.{App, Row, Rule, Shape, Kinds, new_app}
use Rattle.clap.specs.Kinds.{or_else}
use Rattle.clap.specs.Walk.{Held, Names, Text, Waiting, Walk, after_flag, long_or_other, option, plain, plain_word, subcommand_met, word_met}
use Rattle.clap.specs.Simple.{built_leaf, inherited, marked_built, with_leaf_noted}
use Rattle.clap.specs.Faults.{flag_word_fault, word_fault}
use Rattle.clap.proofs.WalkLemmas.{bundle_ends}
use Rattle.clap.proofs.FaultLemmas.{fault_ends}
use Rattle.command.specs.Account.{qbf_app}
use Rattle.command.specs.Forms.{Setting, setting_name}

-- a command of the program as it is built
abbrev pub command_shape : App → Shape
command_shape a = built_leaf (inherited (with_leaf_noted (marked_built qbf_app.top)) a.top)

abbrev pub rules_of : App → List Rule
rules_of a = (command_shape a).rules

-- a command with these rules: what stands behind its word is read alike whatever the word is
abbrev pub leaf : List Rule → Shape
leaf rules = record (command_shape (new_app [])) { rules = rules }

-- ---- the states of the walk

-- what is being read, with the values so far
abbrev pub Pending : Type 0
Pending = Option (Text × List Text)

-- an option waits for its value
abbrev pub for_setting : Setting → Waiting
for_setting s = option (setting_name s)

abbrev pub no_value_yet : Setting → Pending
no_value_yet s = Some (setting_name s, [])

abbrev pub as_setting : Setting → Text → Pending
as_setting s t = Some (setting_name s, t ∷ [])

abbrev pub held : List Row → Pending → Held
held rows pending = record { rows = rows; pending = pending; skip = 0 }

-- the walk between two words, no `--` among those before it
abbrev pub at : Waiting → List Row → Pending → ℕ → Walk
at waiting rows pending position =
    record { held = held rows pending; waiting = waiting; position = position; is_trailing = false; stopped = None }

-- ---- kinds that come first

pub nothing_after : (a : Kinds) → or_else a [] ≡ a
nothing_after [] = refl
nothing_after (k ∷ ks) = refl

pub first_of_three : (a b c : Kinds) → or_else (or_else a b) c ≡ or_else a (or_else b c)
first_of_three [] b c = refl
first_of_three (k ∷ ks) b c = refl

pub no_kinds : (a b : Kinds) → or_else a b ≡ [] → (a ≡ []) × (b ≡ [])
no_kinds [] b e = (refl, e)
no_kinds (k ∷ ks) b e = absurd cc

pub some_left : (a b : Kinds) → a ≢ [] → or_else a b ≢ []
some_left a b some e = some (no_kinds a b e).0

pub some_right : (a b : Kinds) → b ≢ [] → or_else a b ≢ []
some_right a b some e = some (no_kinds a b e).1

-- ---- a word that is no flag

-- the word has no hyphen, or nothing behind it
abbrev HasNoShort : Text → Type 0
HasNoShort w = (short_of w ≡ None)
    ⊎ ((flags : Text) × (short_of w ≡ Some flags) × (None ≡ slice_get (chars flags) 0))

pub record IsPlainWord (w : Text) : Type 0 where
  pub dashes : bytes_eq w (45 ∷ 45 ∷ []) ≡ false
  pub long : long_of w ≡ None
  pub short : HasNoShort w

module _ (s : Shape) (names : Names) (waiting : Waiting) (w : Text) (unmet : subcommand_met names waiting w ≡ None)
    (rows : List Row) (pending : Pending) where
  pub plain_fault : IsPlainWord w → word_fault s names false waiting w (held rows pending) ≡ []
  plain_fault p = rw (unmet, p.dashes, p.long) (go p.short)
    where
      go : HasNoShort w → flag_word_fault s.rules s.args_override_self None w (held rows pending) ≡ []
      go (inl none) = rw none refl
      go (inr f) =
          rw f.1 (sym (fault_ends s.rules s.args_override_self (length f.0) f.0 0 (held rows pending) f.2))

  pub plain_met : (position : ℕ) → IsPlainWord w
      → word_met s.rules names false waiting position w (held rows pending)
      ≡ plain_word s.rules waiting w (held rows pending)
  plain_met position p = rw (unmet, p.dashes, p.long) (go p.short)
    where
      go : HasNoShort w → long_or_other s.rules waiting w None (held rows pending)
          ≡ plain_word s.rules waiting w (held rows pending)
      go (inl none) = rw none refl
      go (inr f) = rw f.1 (ap (λ (r : Held × _). after_flag s.rules waiting w r.0 r.1)
          (sym (bundle_ends s.rules (length f.0) f.0 0 plain (held rows pending) f.2)))
