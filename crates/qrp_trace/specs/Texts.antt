-- Traces as texts, in this project's profile of the QRP format.
use Rattle.std.specs.Prelude.{ℕ, ◌-◌, max, slice_index_or, min, if◌then◌else◌, List, [], ◌∷◌, ◌++◌, length, codes}
use Rattle.std.specs.List.{flat_map, range_with_len}
use Rattle.std.specs.Fmt.{decimal}
use Rattle.prefix.specs.declared.quant.Quant.{Quant}
use Rattle.prefix.specs.declared.quant.Quant.TheVariants.{Exists, Forall}
use Rattle.prefix.specs.Literal.{Literal}
use Rattle.prefix.specs.Scopes.{Scope, all_variables}
use Rattle.blocks.specs.Lines.{spaced}
use Rattle.step_core.specs.declared.listing.Line.{Line}
use Rattle.step_core.specs.declared.listing.CoreStep.{CoreStep}
use Rattle.step_core.specs.declared.listing.CoreStep.TheVariants.{Input, One, Two}
use Rattle.step_core.specs.Cores.{Trace, core_rows, row_numbered, step_numbered}

-- a text
abbrev pub Text : Type 0
Text = List ℕ

-- the greatest of some numbers, 0 of none
abbrev pub greatest : List ℕ → ℕ
greatest [] = 0
greatest (x ∷ xs) = max x (greatest xs)

-- a number with the blank behind it
abbrev pub number_word : ℕ → Text
number_word n = spaced (decimal n)

-- a literal with the blank behind it: the number of its variable, with a minus sign for a negation
abbrev pub literal_word : Literal → Text
literal_word l = (if l.positive then [] else codes "-") ++ number_word l.variable

-- the letter of a quantifier, with the blank behind it
abbrev pub quantifier_word : Quant → Text
quantifier_word Exists = codes "e "
quantifier_word Forall = codes "a "

-- the line of a scope: the letter of its quantifier, its variables, and 0
abbrev pub variables_line : Quant → List ℕ → Text
variables_line quantifier [] = []
variables_line quantifier (x ∷ xs) = quantifier_word quantifier ++ (flat_map number_word (x ∷ xs) ++ codes "0\n")

-- a scope without variables has no line
abbrev pub scope_line : Scope → Text
scope_line scope = variables_line scope.quantifier scope.variables

-- the scope with a number, counted from 1
abbrev pub scope_numbered : List Scope → ℕ → Scope
scope_numbered scopes s = slice_index_or scopes (s - 1) (record { quantifier = Exists; variables = [] })

-- the numbers of the steps that a step rests on, ascending
abbrev pub antecedents_of : CoreStep → List ℕ
antecedents_of Input = []
antecedents_of (One k) = k ∷ []
antecedents_of (Two a b x) = min a b ∷ max a b ∷ []

-- the line of a step: its number, its literals and 0, and the numbers of those that it rests on and 0
abbrev pub step_line : List Line → ℕ → Text
step_line lines i = number_word i ++ (flat_map literal_word (row_numbered (core_rows lines) i) ++ (codes "0 "
    ++ (flat_map number_word (antecedents_of (step_numbered lines i)) ++ codes "0\n")))

-- the last line: the verdict by its winner
abbrev pub verdict_line : Quant → Text
verdict_line Exists = codes "r SAT\n"
verdict_line Forall = codes "r UNSAT\n"

-- the first line: the greatest number of a variable of the prefix, and how many steps there are
abbrev pub header_line : ℕ → ℕ → Text
header_line variables steps = codes "p qrp " ++ (number_word variables ++ (decimal steps ++ codes "\n"))

-- the text of a trace under a prefix: the header, the scopes, the steps by their numbers from 1 on, and the verdict
abbrev pub qrp_text : List Scope → Trace → Text
qrp_text scopes core = header_line (greatest (all_variables scopes)) (length core.lines) ++ (flat_map scope_line scopes
    ++ (flat_map (step_line core.lines) (range_with_len 1 (length core.lines)) ++ verdict_line core.winner))
