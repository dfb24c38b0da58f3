-- Worked scripts, of which the reading is computed, and headers.
use Rattle.std.specs.Prelude.{◌≡◌, ℕ, pos, negsuc, ◌==◌, if◌then◌else◌, List, [], ◌∷◌, ◌++◌, map, codes, Option, Some, None}
use Rattle.prefix.specs.declared.quant.Quant.TheVariants.{Exists, Forall}
use Rattle.lexer.specs.declared.token.Word.TheVariants.{Text}
use Rattle.lexer.specs.Words.{Item, word, too_long}
use Rattle.versions.specs.declared.version.Version.{Version}
use Rattle.versions.specs.declared.version.Version.TheVariants.{One, Two, Three}
use Rattle.qscript.specs.declared.command.Command.{Command}
use Rattle.qscript.specs.declared.command.Command.TheVariants.{Scope, Var, Clause, Push, Pop, Assume, Solve, Value, Relevant, Trace, Cert, OpenGroup, CloseGroup, Activate, Deactivate, GroupCore}
use Rattle.qscript.specs.Reads.{Ending, ReadsScript, done, refused, limit}
use Rattle.qscript.specs.Run.{Script, between, ends, reading_from, reading_of}

-- a text in which a stroke stands for each line end
abbrev pub text : List ℕ → List ℕ
text bytes = map (λ b. if b == 47 then 10 else b) bytes

-- the commands and the ending of a text
abbrev pub script_of : List ℕ → Script
script_of bytes = (reading_of (text bytes)).script

-- those of a script behind its header
abbrev pub behind_header : List ℕ → Script
behind_header bytes = script_of (codes "p qscript 1/" ++ bytes)

-- those of one with groups
abbrev pub with_groups : List ℕ → Script
with_groups bytes = script_of (codes "p qscript 3/" ++ bytes)

abbrev pub well : List Command → Script
well cs = (cs, done)

abbrev pub fails : ℕ → ℕ → Script
fails line number = ([], refused number line)

-- the word `solve` on this line
abbrev pub solve_on : ℕ → Item
solve_on line = word (record { word = Text (codes "solve"); line = line })

pub record WorkedScripts : Type 0 where
  pub frames : behind_header (codes "scope e/var 1 1/clause 1 0/solve/push/clause -1 0/solve/pop/solve/")
      ≡ well (Scope Exists None ∷ Var 1 1 ∷ Clause (pos 1 ∷ []) ∷ Solve ∷ Push ∷ Clause (negsuc 0 ∷ []) ∷ Solve ∷ Pop
      ∷ Solve ∷ [])
  pub asks : behind_header (codes "scope a 1/assume -3/value 02/relevant/trace/cert")
      ≡ well (Scope Forall (Some 1) ∷ Assume (negsuc 2) ∷ Value 2 ∷ Relevant ∷ Trace ∷ Cert ∷ [])
  pub header_alone : behind_header [] ≡ well []
  pub any_number : behind_header (codes "scope e 0/assume 2000000/clause 0/")
      ≡ well (Scope Exists (Some 0) ∷ Assume (pos 2000000) ∷ Clause [] ∷ [])
  pub comments : script_of (codes "c x// p  qscript 1" ++ 13 ∷ codes "/c solve/ c x/solve/c")
      ≡ well (Solve ∷ [])
  pub long_word_is_no_comment : behind_header (codes "cx/") ≡ fails 2 31
  pub number_is_no_command : behind_header (codes "5/") ≡ fails 2 31
  pub commands_before_stay : behind_header (codes "solve/jump/") ≡ (Solve ∷ [], refused 31 3)
  pub clause_without_zero : behind_header (codes "clause 1/0/") ≡ fails 2 32
  pub clause_cut_by_the_end : behind_header (codes "clause 1") ≡ fails 2 32
  pub two_zeros : behind_header (codes "clause 1 0 0/") ≡ fails 2 32
  pub zero_inside : behind_header (codes "clause 1 0 2 0/") ≡ fails 2 32
  pub push_takes_nothing : behind_header (codes "push 1/") ≡ fails 2 32
  pub no_quantifier : behind_header (codes "scope x/") ≡ fails 2 32
  pub negative_variable : behind_header (codes "value -1/") ≡ fails 2 32
  pub zero_is_no_literal : behind_header (codes "assume 0/") ≡ fails 2 32
  pub one_number_too_many : behind_header (codes "var 1 1 1/") ≡ fails 2 32
  pub one_number_too_few : behind_header (codes "var 1/solve/") ≡ fails 2 32
  pub minus_zero : behind_header (codes "clause 1 -0/") ≡ fails 2 32
  pub number_range : behind_header (codes "assume 9223372036854775808/") ≡ fails 2 8
  pub bad_comment : behind_header (99 ∷ 139 ∷ []) ≡ fails 2 7
  pub line_before_bad_byte : behind_header (codes "clause 1/" ++ 139 ∷ []) ≡ fails 2 32
  pub command_before_bad_byte : behind_header (codes "solve/" ++ 139 ∷ []) ≡ (Solve ∷ [], refused 7 3)
  pub word_before_bad_byte : behind_header (codes "clause x " ++ 139 ∷ []) ≡ fails 2 32
  pub bad_byte_in_the_line : behind_header (codes "clause 1 " ++ 139 ∷ []) ≡ fails 2 7
  pub limit_behind_a_line : (reading_from (solve_on 2 ∷ too_long 3 ∷ []) (between (Some One))).script
      ≡ (Solve ∷ [], limit 3)
  pub limit_in_a_line : (reading_from (solve_on 2 ∷ too_long 2 ∷ []) (between (Some One))).script ≡ ([], limit 2)
  pub limit_in_the_header : reading_from (solve_on 1 ∷ too_long 1 ∷ []) (between None) ≡ ends (refused 30 1)
  pub groups : with_groups (codes "open 1/clause -1 0/close/activate 02/deactivate 0/core/")
      ≡ well (OpenGroup 1 ∷ Clause (negsuc 0 ∷ []) ∷ CloseGroup ∷ Activate 2 ∷ Deactivate 0 ∷ GroupCore ∷ [])
  pub groups_beside_others : with_groups (codes "scope e/var 1 1/push/pop/assume 1/solve/value 1/relevant/trace/cert")
      ≡ well (Scope Exists None ∷ Var 1 1 ∷ Push ∷ Pop ∷ Assume (pos 1) ∷ Solve ∷ Value 1 ∷ Relevant ∷ Trace ∷ Cert ∷
      [])
  pub no_group_in_the_first : behind_header (codes "open 1/") ≡ fails 2 31
  pub no_core_in_the_second : script_of (codes "p qscript 2/solve/core/") ≡ (Solve ∷ [], refused 31 3)
  pub open_wants_a_group : with_groups (codes "open/") ≡ fails 2 32
  pub one_group : with_groups (codes "open 1 2/") ≡ fails 2 32
  pub negative_group : with_groups (codes "activate -1/") ≡ fails 2 32
  pub group_in_letters : with_groups (codes "deactivate x/") ≡ fails 2 32
  pub close_takes_nothing : with_groups (codes "close 1/") ≡ fails 2 32
  pub core_takes_nothing : with_groups (codes "core 0/") ≡ fails 2 32
  pub limit_before_the_header : reading_from (too_long 2 ∷ []) (between None) ≡ ends (limit 2)

-- The text is this as a script, and nothing else.
abbrev pub IsOnly : List ℕ → Option Version → List Command → Ending → Type 0
IsOnly bytes version cs e = ReadsScript bytes version cs e × ((v : Option Version) (ds : List Command) (f : Ending)
    → ReadsScript bytes v ds f → (v ≡ version) × (ds ≡ cs) × (f ≡ e))

-- The header names this version, and these commands come.
abbrev pub Names : Version → List ℕ → List Command → Type 0
Names version bytes cs = IsOnly (text bytes) (Some version) cs done

-- The header is refused by this number on this line: no version is named, and no command comes.
abbrev pub Refuses : ℕ → ℕ → List ℕ → Type 0
Refuses line number bytes = IsOnly (text bytes) None [] (refused number line)

pub record WorkedHeaders : Type 0 where
  pub first_version : Names One (codes "p qscript 1/solve/") (Solve ∷ [])
  pub second_version : Names Two (codes "p qscript 2/solve/") (Solve ∷ [])
  pub first_alone : Names One (codes "p qscript 1") []
  pub third_version : Names Three (codes "p qscript 3/open 7/core/") (OpenGroup 7 ∷ GroupCore ∷ [])
  pub second_alone : Names Two (codes "c 1// p  qscript 02") []
  pub malformed_behind : IsOnly (text (codes "p qscript 2/jump/")) (Some Two) [] (refused 31 2)
  pub second_header : IsOnly (text (codes "p qscript 2/p qscript 1/")) (Some Two) [] (refused 31 2)
  pub fourth_version : Refuses 1 30 (codes "p qscript 4/")
  pub ninth_version : Refuses 1 30 (codes "p qscript 9/")
  pub version_of_none : Refuses 1 30 (codes "p qscript 0/")
  pub negative_version : Refuses 1 30 (codes "p qscript -1/")
  pub no_version : Refuses 1 30 (codes "p qscript")
  pub header_goes_on : Refuses 1 30 (codes "p qscript 1 1/")
  pub both_versions : Refuses 1 30 (codes "p qscript 1 2/")
  pub header_over_lines : Refuses 1 30 (codes "p qscript/2/")
  pub other_format : Refuses 2 30 (codes "/p cnf 2 1/")
  pub no_text : Refuses 1 30 []
  pub no_word : Refuses 3 30 (codes "c/ /")
  pub command_first : Refuses 1 30 (codes "solve/p qscript 1/")
  pub bad_byte_in_the_header : Refuses 1 7 (codes "p qscript 2 " ++ 139 ∷ [])
  pub bad_byte_behind_a_word : Refuses 1 30 (codes "p qscript 4 " ++ 139 ∷ [])
  pub number_range_in_the_header : Refuses 1 8 (codes "p qscript 9223372036854775808/")
