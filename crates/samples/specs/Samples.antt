-- Formulas that are made from a seed one after another, and how many of them are true.
use Rattle.std.specs.Prelude.{◌≡◌, ℕ, ◌+◌, ◌%◌, Bool, not, List, ◌++◌, codes, count_by, Option}
use Rattle.std.specs.Fmt.{decimal}
use Rattle.std.specs.List.{range_with_len}
use Rattle.std.specs.Io.KnownBytes.{Appends, Keeps}
use Rattle.ports.specs.Bytes.{AppendsFront}
use Rattle.truth.specs.declared.formula.Formula.{Formula}
use Rattle.truth.specs.Truth.{truth}
use Rattle.generate.specs.Made.{made}
use Rattle.solve.specs.declared.ending.Ending.{Ending}
use Rattle.solve.specs.declared.ending.Ending.TheVariants.{Done, Refused, Limit, CheckLimit, ReadFault, WriteFault, NoMemory}

abbrev pub Text : Type 0
Text = List ℕ

-- the formula with number i, from 0, of those from a seed on: of the seed i further on, with 3 to 12 variables and 1 to
-- 37 clauses
abbrev pub sample : ℕ → ℕ → Formula
sample seed i = made (seed + i) (3 + i % 10) (1 + i % 37)

-- whether it is true
abbrev pub is_true : ℕ → ℕ → Bool
is_true seed i = truth (sample seed i).prefix (sample seed i).clauses

-- how many of the first ones are true, and how many false
abbrev pub true_ones : ℕ → ℕ → ℕ
true_ones seed count = count_by (is_true seed) (range_with_len 0 count)

abbrev pub false_ones : ℕ → ℕ → ℕ
false_ones seed count = count_by (λ i. not (is_true seed i)) (range_with_len 0 count)

-- a line of a word and a number
abbrev pub counted_line : Text → ℕ → Text
counted_line word n = word ++ (codes " " ++ (decimal n ++ codes "\n"))

-- three lines with the numbers of formulas, of true ones and of false ones
abbrev pub counts_lines : (formulas sat unsat : ℕ) → Text
counts_lines formulas sat unsat =
    counted_line (codes "formulas") formulas ++ (counted_line (codes "sat") sat ++ counted_line (codes "unsat") unsat)

-- the text of the counts of the first formulas from a seed on
abbrev pub counts_text : ℕ → ℕ → Text
counts_text seed count = counts_lines count (true_ones seed count) (false_ones seed count)

-- The text was written; or a front of it, before a fault; or nothing, for want of memory.
abbrev pub LeavesText : Text → (old new : Option Text) → Ending → Type 0
LeavesText text old new (Done status) = (status ≡ 0) × Appends old new text
LeavesText text old new WriteFault = AppendsFront old new text
LeavesText text old new NoMemory = Keeps old new
LeavesText text old new (Refused number line) = ⊥
LeavesText text old new (Limit quantity line) = ⊥
LeavesText text old new (CheckLimit quantity) = ⊥
LeavesText text old new ReadFault = ⊥
