-- The command line as `clap` is told of it, and `clap`'s account of the words.
use Rattle.std.specs.Prelude.{◌≡◌, ◌≢◌, ⊤, ℕ, List, Option, Some, None, [], ◌∷◌, Bool, true, codes, drop, false, fold, option_map, slice_get}
use Rattle.std.specs.Fmt.{decimal}
use Rattle.std.specs.List.{list_any}
use Rattle.std.specs.Option.{option_map_or}
use Rattle.std.specs.Str.{bytes_eq}
use Rattle.clap.specs.Words.{App, Row, Rule, Text, fault_of, first_of, new_app, new_rule, subcommand_of, with_rule, with_subcommand}
use Rattle.clap.specs.Simple.{on_top}
use Rattle.clap.specs.declared.builder.ArgAction.TheVariants.{SetTrue}
use Rattle.clap.specs.declared.builder.ValueParser.TheVariants as parser
use Rattle.command.specs.declared.command.Command.{Command}
use Rattle.command.specs.declared.command.SolveForm.{SolveForm}
use Rattle.command.specs.declared.command.Command.TheVariants.{Read, Gen, Demo}
use Rattle.command.specs.declared.command.Verb.{Verb}
use Rattle.command.specs.declared.command.Verb.TheVariants.{Solve, Trace, Cert, Check, Script}
use Rattle.command.specs.Forms.{Flag, IsBetween, Setting, flag_name, greatest_of, is_qcir, is_qdo, least_of, name_in, setting_name, word_of}
use Rattle.command.specs.Forms.Flag.{the_qdo, the_qcir, the_binary, the_trim, the_decide}
use Rattle.command.specs.Forms.Setting.{the_budget, the_keep, the_restarts}

-- ---- what `clap` is told

-- the number of an option where it isn't given, in decimal
abbrev pub default_text : Setting → Text
default_text the_budget = codes "18446744073709551615"
default_text the_restarts = codes "0"
default_text the_keep = codes "512"

-- `--budget N`, `--restarts R`, or `--keep K`
abbrev pub setting_rule : Setting → Rule
setting_rule s = record (new_rule (setting_name s)) {
  long = Some (setting_name s);
  value_names = 1;
  parser = Some (parser.Unsigned (least_of s) (greatest_of s));
  defaults = default_text s ∷ [];
}

-- `--FLAG`, by its name
abbrev pub flag_rule : Text → Rule
flag_rule name = record (new_rule name) { long = Some name; action = Some SetTrue }

-- `[NAME]`
abbrev pub name_rule : Rule
name_rule = record (new_rule (codes "name")) { value_names = 1 }

-- a number that is wanted, from the least to the most
abbrev pub number_rule : Text → ℕ → ℕ → Rule
number_rule id least most = record (new_rule id) { required = true; parser = Some (parser.Unsigned least most) }

-- `WORD [--budget N] [--restarts R] [--keep K] [NAME]`, for the word of a command
abbrev pub input_app : Text → App
input_app word =
    with_rule (with_rule (with_rule (with_rule (new_app word) (setting_rule the_budget)) (setting_rule the_restarts))
    (setting_rule the_keep)) name_rule

-- `WORD [--budget N] [--restarts R] [--keep K] [--FLAG] .. [NAME]`, for a command that takes these flags
abbrev pub command_app : Text → List Flag → App
command_app word flags = fold (λ app flag. with_rule app (flag_rule (flag_name flag))) (input_app word) flags

-- `solve [--budget N] [--restarts R] [--keep K] [--qdo] [--qcir] [NAME]`
abbrev pub solve_app : App
solve_app = command_app (codes "solve") (the_qdo ∷ the_qcir ∷ [])

-- `cert [--budget N] [--restarts R] [--keep K] [--binary] [--trim] [NAME]`
abbrev pub cert_app : App
cert_app = command_app (codes "cert") (the_binary ∷ the_trim ∷ [])

-- `check [--budget N] [--restarts R] [--keep K] [--decide] [NAME]`
abbrev pub check_app : App
check_app = command_app (codes "check") (the_decide ∷ [])

-- `gen SEED VARS CLAUSES`
abbrev pub gen_app : App
gen_app = with_rule (with_rule (with_rule (new_app (codes "gen")) (number_rule (codes "SEED") 0 4294967295))
    (number_rule (codes "VARS") 3 32000)) (number_rule (codes "CLAUSES") 0 1000000)

-- `demo SEED COUNT`
abbrev pub demo_app : App
demo_app = with_rule (with_rule (new_app (codes "demo")) (number_rule (codes "SEED") 0 4294967295))
    (number_rule (codes "COUNT") 1 10000)

-- the commands
abbrev pub command_apps : List App
command_apps = solve_app ∷ command_app (codes "trace") [] ∷ cert_app ∷ check_app ∷ command_app (codes "script") []
    ∷ gen_app ∷ demo_app ∷ []

-- the program without its commands, one of which is wanted
abbrev pub bare_app : App
bare_app = on_top (λ s. record s { subcommand_required = true }) (new_app (codes "qbf"))

-- the program
abbrev pub qbf_app : App
qbf_app = fold (λ app command. with_subcommand app command.top) bare_app command_apps

-- ---- what `clap` found

-- the word doesn't begin with `-`
abbrev pub HasNoHyphen : Option Text → Type 0
HasNoHyphen None = ⊤
HasNoHyphen (Some word) = slice_get word 0 ≢ Some 45

-- the flag of this name is given
abbrev pub is_set : Text → List Row → Bool
is_set name rows = option_map_or (λ text. bytes_eq text (codes "true")) (first_of name rows) false

-- the number of this name is this one, from the least to the most
abbrev pub IsNumberAt : Text → ℕ → ℕ → List Row → ℕ → Type 0
IsNumberAt id least most rows n = (first_of id rows ≡ Some (decimal n)) × IsBetween least most n

-- the number of the option is this one, and in form
abbrev pub IsSet : Setting → List Row → ℕ → Type 0
IsSet s rows n = IsNumberAt (setting_name s) (least_of s) (greatest_of s) rows n

-- the budget, the number of restarts, that of rows to keep and the name are these, and in form
abbrev pub AreInput : List Row → (budget restarts kept : ℕ) → Option Text → Type 0
AreInput rows budget restarts kept name = IsSet the_budget rows budget × IsSet the_restarts rows restarts
    × IsSet the_keep rows kept × (first_of (codes "name") rows ≡ name) × HasNoHyphen name

-- the numbers of `gen`
abbrev pub AreGen : List Row → ℕ → ℕ → ℕ → Type 0
AreGen rows seed vars clauses = IsNumberAt (codes "SEED") 0 4294967295 rows seed
    × IsNumberAt (codes "VARS") 3 32000 rows vars × IsNumberAt (codes "CLAUSES") 0 1000000 rows clauses

-- the numbers of `demo`
abbrev pub AreDemo : List Row → ℕ → ℕ → Type 0
AreDemo rows seed count = IsNumberAt (codes "SEED") 0 4294967295 rows seed
    × IsNumberAt (codes "COUNT") 1 10000 rows count

-- `--qdo` and `--qcir` are given as the form of `solve` has them
abbrev pub IsFormOf : List Row → SolveForm → Type 0
IsFormOf rows form = (is_qdo form ≡ is_set (codes "qdo") rows) × (is_qcir form ≡ is_set (codes "qcir") rows)

-- the flags that `clap` found are those of a command that reads an input
abbrev pub AreFlagsOf : List Row → Verb → Type 0
AreFlagsOf rows (Solve form) = IsFormOf rows form
AreFlagsOf rows Trace = ⊤
AreFlagsOf rows (Cert binary trim) = (binary ≡ is_set (codes "binary") rows) × (trim ≡ is_set (codes "trim") rows)
AreFlagsOf rows (Check decide) = decide ≡ is_set (codes "decide") rows
AreFlagsOf rows Script = ⊤

-- the values that `clap` found are those of the command, and in form
abbrev pub AreValues : List Row → Command → Type 0
AreValues rows (Read verb input) =
    AreInput rows input.budget input.restarts input.kept (name_in input) × AreFlagsOf rows verb
AreValues rows (Gen seed vars clauses) = AreGen rows seed vars clauses
AreValues rows (Demo seed count) = AreDemo rows seed count

-- the subcommand that `clap` found is the command, with its values
abbrev pub IsFoundAs : Command → Option (Text × List Row) → Type 0
IsFoundAs c found = (rows : List Row) × (found ≡ Some (word_of c, rows)) × AreValues rows c

-- by `clap`'s account no word is at fault, and the subcommand is the command
abbrev pub IsAccountOf : List Text → Command → Type 0
IsAccountOf words c = (fault_of qbf_app words ≡ []) × IsFoundAs c (subcommand_of qbf_app words)

-- a word behind the program's name is `--`
abbrev pub has_dashes : List Text → Bool
has_dashes words = list_any (λ w. bytes_eq w (codes "--")) (drop 1 words)
