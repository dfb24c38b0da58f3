-- The words that ask for a command.
use Rattle.std.specs.Prelude.{◌≡◌, ◌≢◌, ◌⊎◌, ⊤, ℕ, ◌<◌, ◌≤◌, ◌^◌, ◌-◌, Bool, true, false, List, [], ◌∷◌, ◌++◌, Option, Some, None, IsPermutation, codes, filter, map, option_map, slice_get}
use Rattle.std.specs.Fmt.{decimal}
use Rattle.std.specs.List.{flat_map}
use Rattle.command.specs.declared.command.Command.{Command}
use Rattle.command.specs.declared.command.Command.TheVariants.{Read, Gen, Demo}
use Rattle.command.specs.declared.command.Input.{Input}
use Rattle.command.specs.declared.command.SolveForm.{SolveForm}
use Rattle.command.specs.declared.command.SolveForm.TheVariants.{Plain, Qdo, Qcir}
use Rattle.command.specs.declared.command.Verb.{Verb}
use Rattle.command.specs.declared.command.Verb.TheVariants.{Solve, Trace, Cert, Check, Script}
use Rattle.command.specs.declared.refused.Refused.{Refused}
use Rattle.command.specs.declared.refused.Refused.TheVariants.{Usage, NoMemory}

abbrev pub Text : Type 0
Text = List ℕ

-- a number from the least to the most
abbrev pub IsBetween : ℕ → ℕ → ℕ → Type 0
IsBetween least most n = (least ≤ n) × (n ≤ most)

-- ---- a command that reads an input: `WORD [--budget N] [--restarts R] [--keep K] [--FLAG] .. [NAME]`

-- an option with a number: `--budget N`, `--restarts R`, or `--keep K`
pub data Setting : Type 0 where
  the_budget : Setting
  the_restarts : Setting
  the_keep : Setting

-- its name
abbrev pub setting_name : Setting → Text
setting_name the_budget = codes "budget"
setting_name the_restarts = codes "restarts"
setting_name the_keep = codes "keep"

-- its least number
abbrev pub least_of : Setting → ℕ
least_of the_budget = 0
least_of the_restarts = 0
least_of the_keep = 16

-- its greatest number
abbrev pub greatest_of : Setting → ℕ
greatest_of the_budget = 2 ^ 64 - 1
greatest_of the_restarts = 1000000
greatest_of the_keep = 16777216

-- its number where it isn't given
abbrev pub default_of : Setting → ℕ
default_of the_budget = 2 ^ 64 - 1
default_of the_restarts = 0
default_of the_keep = 512

-- an option without a number: `--qdo`, `--qcir`, `--binary`, `--trim`, or `--decide`
pub data Flag : Type 0 where
  the_qdo : Flag
  the_qcir : Flag
  the_binary : Flag
  the_trim : Flag
  the_decide : Flag

-- its name
abbrev pub flag_name : Flag → Text
flag_name the_qdo = codes "qdo"
flag_name the_qcir = codes "qcir"
flag_name the_binary = codes "binary"
flag_name the_trim = codes "trim"
flag_name the_decide = codes "decide"

abbrev pub all_flags : List Flag
all_flags = the_qdo ∷ the_qcir ∷ the_binary ∷ the_trim ∷ the_decide ∷ []

-- none is given
abbrev pub no_flags : Flag → Bool
no_flags flag = false

-- whether a form of `solve` is that of `--qdo`, and whether it is that of `--qcir`
abbrev pub is_qdo : SolveForm → Bool
is_qdo Plain = false
is_qdo Qdo = true
is_qdo Qcir = false

abbrev pub is_qcir : SolveForm → Bool
is_qcir Plain = false
is_qcir Qdo = false
is_qcir Qcir = true

-- `solve` takes `--qdo` or `--qcir`, and never both
abbrev pub solve_flags : SolveForm → Flag → Bool
solve_flags form the_qdo = is_qdo form
solve_flags form the_qcir = is_qcir form
solve_flags form the_binary = false
solve_flags form the_trim = false
solve_flags form the_decide = false

-- `cert` takes `--binary` and `--trim`, each of which is given or not
abbrev pub cert_flags : (binary trim : Bool) → Flag → Bool
cert_flags binary trim the_qdo = false
cert_flags binary trim the_qcir = false
cert_flags binary trim the_binary = binary
cert_flags binary trim the_trim = trim
cert_flags binary trim the_decide = false

-- `check` takes `--decide`, which is given or not
abbrev pub check_flags : Bool → Flag → Bool
check_flags decide the_qdo = false
check_flags decide the_qcir = false
check_flags decide the_binary = false
check_flags decide the_trim = false
check_flags decide the_decide = decide

-- the word of a command that reads an input
abbrev pub verb_word : Verb → Text
verb_word (Solve form) = codes "solve"
verb_word Trace = codes "trace"
verb_word (Cert binary trim) = codes "cert"
verb_word (Check decide) = codes "check"
verb_word Script = codes "script"

-- which flags are given to it
abbrev pub verb_flags : Verb → Flag → Bool
verb_flags (Solve form) = solve_flags form
verb_flags Trace = no_flags
verb_flags (Cert binary trim) = cert_flags binary trim
verb_flags (Check decide) = check_flags decide
verb_flags Script = no_flags

-- a part of the words behind the word of a command
pub data Part : Type 0 where
  -- `--OPTION TEXT`
  setting_part : Setting → Text → Part
  -- `--OPTION=TEXT`
  joined_part : Setting → Text → Part
  -- `--FLAG`
  flag_part : Flag → Part
  -- NAME
  name_part : Text → Part

-- the words of a part
abbrev pub spelled : Part → List Text
spelled (setting_part s text) = (codes "--" ++ setting_name s) ∷ text ∷ []
spelled (joined_part s text) = (codes "--" ++ (setting_name s ++ (codes "=" ++ text))) ∷ []
spelled (flag_part flag) = (codes "--" ++ flag_name flag) ∷ []
spelled (name_part word) = word ∷ []

-- the words are those of the parts, in any order
pub record AreInAnyOrder (words : List Text) (parts : List Part) : Type 0 where
  pub order : List Part
  pub permutation : IsPermutation parts order
  pub words_are : words ≡ flat_map spelled order

-- `[--OPTION N]`, with N in decimal, from the option's least number to its greatest
abbrev pub GivesSetting : Setting → List Part → ℕ → Type 0
GivesSetting s parts n = ((parts ≡ []) × (n ≡ default_of s))
    ⊎ (IsBetween (least_of s) (greatest_of s) n
    × ((parts ≡ setting_part s (decimal n) ∷ []) ⊎ (parts ≡ joined_part s (decimal n) ∷ [])))

-- `[--FLAG] ..`: the flags that are given
abbrev pub flag_parts : (Flag → Bool) → List Part
flag_parts flags = map flag_part (filter flags all_flags)

-- `[NAME]`: a word that doesn't begin with `-`
abbrev pub GivesName : List Part → Option Text → Type 0
GivesName parts None = parts ≡ []
GivesName parts (Some name) = (parts ≡ name_part name ∷ []) × (slice_get name 0 ≢ Some 45)

-- `[--budget N] [--restarts R] [--keep K] [NAME]` and the flags that are given, in any order
pub record GivesInput (words : List Text) (budget restarts kept : ℕ) (flags : Flag → Bool) (name : Option Text) : Type 0
  where
    pub budget_parts : List Part
    pub restarts_parts : List Part
    pub kept_parts : List Part
    pub name_parts : List Part
    pub gives_budget : GivesSetting the_budget budget_parts budget
    pub gives_restarts : GivesSetting the_restarts restarts_parts restarts
    pub gives_kept : GivesSetting the_keep kept_parts kept
    pub gives_name : GivesName name_parts name
    pub in_any_order : AreInAnyOrder words
        (budget_parts ++ restarts_parts ++ kept_parts ++ name_parts ++ flag_parts flags)

-- behind the program's name, the word of a command and then `[--budget N] [--restarts R] [--keep K] [--FLAG] .. [NAME]`
abbrev pub AsksInput : Text → List Text → (budget restarts kept : ℕ) → (Flag → Bool) → Option Text → Type 0
AsksInput word words budget restarts kept flags name = (program : Text) × (rest : List Text)
    × (words ≡ program ∷ word ∷ rest) × GivesInput rest budget restarts kept flags name

-- the text of the name of an input, if it has one
abbrev pub name_in : Input → Option Text
name_in input = option_map (λ s. s.now) input.name

-- ---- a command of numbers: `WORD NUMBER ..`

-- behind the program's name, the word of a command and then these numbers in decimal
abbrev pub AsksNumbers : Text → List Text → List ℕ → Type 0
AsksNumbers word words numbers = (program : Text) × (words ≡ program ∷ word ∷ map decimal numbers)

-- `gen SEED VARS CLAUSES`
abbrev pub AsksGen : List Text → ℕ → ℕ → ℕ → Type 0
AsksGen words seed vars clauses = AsksNumbers (codes "gen") words (seed ∷ vars ∷ clauses ∷ [])
    × (seed < 2 ^ 32) × IsBetween 3 32000 vars × (clauses ≤ 1000000)

-- `demo SEED COUNT`
abbrev pub AsksDemo : List Text → ℕ → ℕ → Type 0
AsksDemo words seed count = AsksNumbers (codes "demo") words (seed ∷ count ∷ [])
    × (seed < 2 ^ 32) × IsBetween 1 10000 count

-- ---- commands

-- the words ask for the command
abbrev pub Asks : List Text → Command → Type 0
Asks words (Read verb input) =
    AsksInput (verb_word verb) words input.budget input.restarts input.kept (verb_flags verb) (name_in input)
Asks words (Gen seed vars clauses) = AsksGen words seed vars clauses
Asks words (Demo seed count) = AsksDemo words seed count

-- the word of the command
abbrev pub word_of : Command → Text
word_of (Read verb input) = verb_word verb
word_of (Gen seed vars clauses) = codes "gen"
word_of (Demo seed count) = codes "demo"

-- the budget of the command: 2^64 - 1 for one that takes none
abbrev pub budget_of : Command → ℕ
budget_of (Read verb input) = input.budget
budget_of (Gen seed vars clauses) = 2 ^ 64 - 1
budget_of (Demo seed count) = 2 ^ 64 - 1

-- the number of restarts of the command: none for one that takes none
abbrev pub restarts_of : Command → ℕ
restarts_of (Read verb input) = input.restarts
restarts_of (Gen seed vars clauses) = 0
restarts_of (Demo seed count) = 0

-- how many rows the command may keep: 512 for one that takes no number of them
abbrev pub kept_of : Command → ℕ
kept_of (Read verb input) = input.kept
kept_of (Gen seed vars clauses) = 512
kept_of (Demo seed count) = 512

-- which flags are given to the command
abbrev pub flags_of : Command → Flag → Bool
flags_of (Read verb input) = verb_flags verb
flags_of (Gen seed vars clauses) = no_flags
flags_of (Demo seed count) = no_flags

-- the text of the name of the command's input, if it has one
abbrev pub name_of : Command → Option Text
name_of (Read verb input) = name_in input
name_of (Gen seed vars clauses) = None
name_of (Demo seed count) = None

-- the numbers of the command, in the order of its words
abbrev pub numbers_of : Command → List ℕ
numbers_of (Gen seed vars clauses) = seed ∷ vars ∷ clauses ∷ []
numbers_of (Demo seed count) = seed ∷ count ∷ []
numbers_of _ = []

-- the two commands have one word and the same values, their names as texts
pub record AreAlike (c d : Command) : Type 0 where
  pub words : word_of c ≡ word_of d
  pub budgets : budget_of c ≡ budget_of d
  pub restarts : restarts_of c ≡ restarts_of d
  pub kept : kept_of c ≡ kept_of d
  pub flags : (flag : Flag) → flags_of c flag ≡ flags_of d flag
  pub names : name_of c ≡ name_of d
  pub numbers : numbers_of c ≡ numbers_of d

-- the words ask for no command
abbrev pub HasNoForm : List Text → Type 0
HasNoForm words = (c : Command) → ¬ Asks words c

-- what a refusal says of the words: with a usage text, that they ask for no command
abbrev pub Explains : List Text → Refused → Type 0
Explains words (Usage text) = HasNoForm words
Explains words NoMemory = ⊤
