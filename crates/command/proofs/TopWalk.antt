-- Which words `clap` takes behind the program's name: the word of a command first.
use Rattle.std.proofs.Common.{◌≡◌, ◌≢◌, ◌⊎◌, ◌∙◌, ℕ, Bool, Decides, true, false, List, [], ◌∷◌, Option, Some, None, codes, slice_get, is_some, find, fold, refl, sym, ap, ap₂, subst, inl, inr}
use Rattle.std.specs.Prelude.{⊤}
use Rattle.std.specs.List.{AllByRecursion}
use Rattle.std.specs.Str.{bytes_eq, chars}
use Rattle.std.proofs.lemmas.Slice.Eq.{bytes_eq-Decides}
use Rattle.clap.specs.Lexer.{long_of, short_of}
use Rattle.clap.specs.Words.{App, Rule, Shape, Kinds, fault_of, subcommand_of}
use Rattle.clap.specs.Kinds.{or_else}
use Rattle.clap.specs.Walk.{Held, Names, Step, Text, Walk, answers_to, idle, nothing_held, finished, rows_after, settled, subcommand_met, walk, walk_from, walked}
use Rattle.clap.specs.Simple.{built, entered, label_of, names_of}
use Rattle.clap.specs.Faults.{check_fault, defaults_fault, entered_fault, level_fault, settle_fault, step_fault, turn_fault, walk_fault, word_fault}
use Rattle.clap.proofs.WalkLemmas.{walk_stopped}
use Rattle.clap.proofs.FaultLemmas.{past, stopped_fault}
use Rattle.clap.proofs.OnLiterals.{clap_on_literals}
use Rattle.command.specs.Account.{cert_app, check_app, command_app, command_apps, demo_app, gen_app, qbf_app, solve_app}
use Rattle.command.specs.Forms.{verb_word, word_of}
use Rattle.command.specs.declared.command.Command.{Command}
use Rattle.command.specs.declared.command.Command.TheVariants.{Demo, Gen, Read}
use Rattle.command.specs.declared.command.Verb.{Verb}
use Rattle.command.specs.declared.command.Verb.TheVariants.{Cert, Check, Script, Solve, Trace}
use Rattle.command.proofs.Turns.{IsPlainWord, held, leaf, no_kinds, nothing_after, plain_met, rules_of, some_left}
use Rattle.command.proofs.WordKinds.{IsNotDashes, first_flag, long_fails, long_fault_is, short_fault_is}

-- the program as it is built
abbrev pub top : Shape
top = (built qbf_app).top

abbrev pub commands : Names
commands = names_of (built qbf_app)

abbrev start : Walk
start = walk_from nothing_held

-- what fails behind a first word
abbrev fault_behind : Text → List Text → Kinds
fault_behind word args = walk_fault top commands start (word ∷ args)

-- no command's walk looks at its own word
abbrev named : List Rule → Text → Shape
named c word = record (leaf c) { name = word }

walk_of_leaf : (c : List Rule) (word : Text) (w : Walk) (args : List Text)
    → walk_fault (named c word) [] w args ≡ walk_fault (leaf c) [] w args
unfolding walk_fault
walk_of_leaf c word w [] = refl
walk_of_leaf c word w (x ∷ xs) = ap (or_else (turn_fault (leaf c) [] w x)) (walk_of_leaf c word (walked c [] w x) xs)

-- `clap` takes the word of the command for that
pub record IsCommand (a : App) : Type 0 where
  pub met : subcommand_met commands idle a.top.name ≡ Some a.top.name
  pub no_help : bytes_eq a.top.name (codes "help") ≡ false
  pub no_dashes : IsNotDashes a.top.name
  pub found : find (λ t. answers_to a.top.name (label_of t)) (built qbf_app).subs ≡ Some (named (rules_of a) a.top.name)

module _ (a : App) (is : IsCommand a) where
  abbrev word : Text
  word = a.top.name

  abbrev rules : List Rule
  rules = rules_of a

  stops_here : walked top.rules commands start word ≡ record start { stopped = Some (word, []) }
  unfolding walked
  stops_here = rw is.met refl

  -- behind its word the walk leaves the words to it
  stops : (args : List Text)
      → walk top.rules commands nothing_held (word ∷ args) ≡ record start { stopped = Some (word, args) }
  stops args =
      ap (λ (w : Walk). fold (walked top.rules commands) w args) stops_here
      ∙ sym (walk_stopped top.rules commands start word [] args)

  turn_unfaulted : turn_fault top commands start word ≡ []
  turn_unfaulted = rw (is.met, is.no_help) refl

  walk_unfaulted : (args : List Text) → fault_behind word args ≡ []
  unfolding walk_fault
  walk_unfaulted args = ap₂ or_else turn_unfaulted (subst (λ (w : Walk). walk_fault top commands w args ≡ [])
      (sym stops_here) (stopped_fault top commands start (word, []) args))

  entered_is : (args : List Text)
      → entered_fault (built qbf_app) (Some (word, args)) ≡ level_fault (leaf rules) [] nothing_held args false []
  entered_is args = rw (is.found, walk_of_leaf rules word) refl

  enters : (args : List Text) → is_some (entered (built qbf_app) (Some (word, args))) ≡ true
  enters args = rw is.found refl

  -- its words are refused exactly as the command refuses them
  pub command_fault : (program : Text) (args : List Text)
      → fault_of qbf_app (program ∷ word ∷ args) ≡ level_fault (leaf rules) [] nothing_held args false []
  unfolding defaults_fault
  command_fault program args =
      let at_end = subst (λ (e : Walk). or_else (fault_behind word args)
      (or_else (entered_fault (built qbf_app) e.stopped) (or_else (settle_fault top.rules false e.held)
      (or_else (defaults_fault (settled top.rules e.held).rows top.rules)
      (check_fault top (finished top.rules e.held) (is_some (entered (built qbf_app) e.stopped))))))
      ≡ level_fault (leaf rules) [] nothing_held args false []) (sym (stops args)) in
      at_end (past (fault_behind word args) (or_else (entered_fault (built qbf_app) (Some (word, args)))
      (check_fault top [] (is_some (entered (built qbf_app) (Some (word, args)))))) (walk_unfaulted args)
      ∙ ap₂ or_else (entered_is args) (ap (check_fault top []) (enters args))
      ∙ nothing_after (level_fault (leaf rules) [] nothing_held args false []))

  pub command_account : (program : Text) (args : List Text)
      → subcommand_of qbf_app (program ∷ word ∷ args) ≡ Some (word, rows_after rules [] args)
  command_account program args =
      ap (λ (e : Walk). entered (built qbf_app) e.stopped) (stops args) ∙ rw is.found refl

-- ---- the words of the commands

-- the word is of none of these commands
abbrev pub IsNoneOf : List App → Text → Type 0
IsNoneOf [] w = ⊤
IsNoneOf (a ∷ rest) w = (bytes_eq a.top.name w ≡ false) × IsNoneOf rest w

all_are : AllByRecursion IsCommand command_apps
all_are = (
  record { met = refl; no_help = refl; no_dashes = refl; found = refl },
  (
    record { met = refl; no_help = refl; no_dashes = refl; found = refl },
    (
      record { met = refl; no_help = refl; no_dashes = refl; found = refl },
      (
        record { met = refl; no_help = refl; no_dashes = refl; found = refl },
        (
          record { met = refl; no_help = refl; no_dashes = refl; found = refl },
          (
            record { met = refl; no_help = refl; no_dashes = refl; found = refl },
            (record { met = refl; no_help = refl; no_dashes = refl; found = refl }, tt),
          ),
        ),
      ),
    ),
  ),
)

-- how `clap` is told of a command that reads an input
abbrev pub verb_app : Verb → App
verb_app (Solve q) = solve_app
verb_app Trace = command_app (codes "trace") []
verb_app (Cert b t) = cert_app
verb_app (Check d) = check_app
verb_app Script = command_app (codes "script") []

is_verb : (v : Verb) → IsCommand (verb_app v)
is_verb (Solve q) = all_are.0
is_verb Trace = all_are.1.0
is_verb (Cert b t) = all_are.1.1.0
is_verb (Check d) = all_are.1.1.1.0
is_verb Script = all_are.1.1.1.1.0

verb_is : (v : Verb) → (verb_app v).top.name ≡ verb_word v
verb_is (Solve q) = refl
verb_is Trace = refl
verb_is (Cert b t) = refl
verb_is (Check d) = refl
verb_is Script = refl

-- how `clap` is told of the command
abbrev pub app_for : Command → App
app_for (Read v i) = verb_app v
app_for (Gen s v k) = gen_app
app_for (Demo s k) = demo_app

pub is_command : (c : Command) → IsCommand (app_for c)
is_command (Read v i) = is_verb v
is_command (Gen s v k) = all_are.1.1.1.1.1.0
is_command (Demo s k) = all_are.1.1.1.1.1.1.0

pub word_is : (c : Command) → (app_for c).top.name ≡ word_of c
word_is (Read v i) = verb_is v
word_is (Gen s v k) = refl
word_is (Demo s k) = refl

-- the word is that of a command
abbrev pub IsCommandWord : Text → Type 0
IsCommandWord w = (a : App) × (a.top.name ≡ w) × IsCommand a

one_or_none : (apps : List App) → AllByRecursion IsCommand apps → (w : Text) → IsCommandWord w ⊎ IsNoneOf apps w
one_or_none [] all w = inr tt
one_or_none (a ∷ rest) all w =
    go (bytes_eq a.top.name w) refl (bytes_eq-Decides a.top.name w) (one_or_none rest all.1 w)
  where
    go : (b : Bool) → bytes_eq a.top.name w ≡ b → Decides b (a.top.name ≡ w) → IsCommandWord w ⊎ IsNoneOf rest w
        → IsCommandWord w ⊎ IsNoneOf (a ∷ rest) w
    go true e d other = inl (a, d.0 refl, all.0)
    go false e d (inl is) = inl is
    go false e d (inr none) = inr (e, none)

pub known_or_other : (w : Text) → IsCommandWord w ⊎ IsNoneOf command_apps w
known_or_other w = one_or_none command_apps all_are w

-- ---- words that are refused

pub no_words : fault_of qbf_app [] ≢ []
unfolding clap_on_literals
no_words e = absurd cc

pub name_alone : (program : Text) → fault_of qbf_app (program ∷ []) ≢ []
unfolding clap_on_literals
name_alone program e = absurd cc

abbrev TurnFails : Text → Type 0
TurnFails w = turn_fault top commands start w ≢ []

abbrev IsOther : Text → Type 0
IsOther w = subcommand_met commands idle w ≡ None

-- the word is refused before the walk takes it
abbrev WordFails : Text → Type 0
WordFails w = word_fault top commands false idle w (held [] None) ≢ []

by_word : (w : Text) → WordFails w → TurnFails w
by_word w fails = some_left (word_fault top commands false idle w (held [] None)) _ fails

-- a word that is no flag and no command
stray : (w : Text) → IsOther w → IsPlainWord w → TurnFails w
stray w other plain e =
    let second = (no_kinds (word_fault top commands false idle w (held [] None)) _ e).1 in
    let met = plain_met top commands idle w other [] None 1 plain in
    let bad = subst (λ (m : Held × Step). step_fault top 1 m.0 m.1 ≡ []) met second in
    absurd cc

by_char : (w : Text) → IsNotDashes w → IsOther w → long_of w ≡ None → (flags : Text) → short_of w ≡ Some flags
    → (o : Option ℕ) → o ≡ slice_get (chars flags) 0 → TurnFails w
by_char w dashes other l flags f None c =
    stray w other (record { dashes = dashes; long = l; short = inr (flags, f, c) })
by_char w dashes other l flags f (Some x) c =
    by_word w (rw (short_fault_is top commands idle w other dashes [] None flags l f)
    (first_flag top.rules false flags x (held [] None) c (λ y. refl)))

by_short : (w : Text) → IsNotDashes w → IsOther w → long_of w ≡ None → (o : Option Text) → short_of w ≡ o → TurnFails w
by_short w dashes other l None f = stray w other (record { dashes = dashes; long = l; short = inl f })
by_short w dashes other l (Some flags) f = by_char w dashes other l flags f (slice_get (chars flags) 0) refl

by_long : (w : Text) → IsNotDashes w → IsOther w → (o : Option (Text × Option Text)) → long_of w ≡ o → TurnFails w
by_long w dashes other None l = by_short w dashes other l (short_of w) refl
by_long w dashes other (Some p) l =
    by_word w (rw (long_fault_is top commands idle w other dashes [] None p.0 p.1 l)
    (long_fails top.rules p.0 refl p.1 (held [] None)))

turn_fails : (w : Text) → IsNotDashes w → IsNoneOf command_apps w → (b : Bool) → bytes_eq (codes "help") w ≡ b
    → TurnFails w
turn_fails w dashes none true e = λ x.
    let bad = rw (none.0, none.1.0, none.1.1.0, none.1.1.1.0, none.1.1.1.1.0, none.1.1.1.1.1.0, none.1.1.1.1.1.1.0, e)
    at x in
    absurd cc
turn_fails w dashes none false e =
    let other : IsOther w =
    rw (none.0, none.1.0, none.1.1.0, none.1.1.1.0, none.1.1.1.1.0, none.1.1.1.1.1.0, none.1.1.1.1.1.1.0, e) refl in
    by_long w dashes other (long_of w) refl

-- a first word that is neither `--` nor that of a command
pub other_word : (program w : Text) (args : List Text) → IsNotDashes w → IsNoneOf command_apps w
    → fault_of qbf_app (program ∷ w ∷ args) ≢ []
unfolding walk_fault
other_word program w args dashes none =
    let fails = turn_fails w dashes none (bytes_eq (codes "help") w) refl in
    some_left (fault_behind w args) _ (some_left (turn_fault top commands start w) _ fails)
