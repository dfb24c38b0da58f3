-- What the exit status of a run says, and the line on the error output.
use Rattle.std.specs.Prelude.{◌≡◌, ◌≢◌, ℕ, ◌<◌, Bool, true, false, ◌==◌, if◌then◌else◌, ◌⊎◌, List, [], ◌∷◌, ◌++◌, Contains, codes, Option, Some, string_bytes}
use Rattle.std.specs.Fmt.{decimal}
use Rattle.std.specs.Io.KnownBytes.{Appends}
use Rattle.ports.specs.Bytes.{AppendsFront}
use Rattle.ports.specs.Causes.{Rose}
use Rattle.command.specs.Forms.{HasNoForm, Text}
use Rattle.calculus.specs.Limits.{propagation_limit}
use Rattle.calculus.specs.Search.{IsRefuted}
use Rattle.search.specs.Counting.{size_of}
use Rattle.aig.specs.declared.strategy.Strategy.{Strategy}
use Rattle.certcheck.specs.Building.{limit_of}
use Rattle.files.specs.Checks.{HasCircuit, OfCheck, check_of}
use Rattle.files.specs.Inputs.{Format, Says}
use Rattle.files.specs.Inputs.Format.{as_circuit, as_formula}
use Rattle.session.specs.Scripts.{IsScriptOf}
use Rattle.solve.specs.Terms.{Terms}
use Rattle.solve.specs.Answers.{IsShort}
use Rattle.files.specs.Solve.{HasAnswer, OfAnswer, Solves}
use Rattle.solve.specs.declared.ending.Ending.TheVariants.{Done, Refused, Limit, CheckLimit, ReadFault, WriteFault, NoMemory}
use Rattle.steps.specs.Counter.{step_limit}
use Rattle.truth.specs.declared.formula.Formula.{Formula}
use Rattle.truth.specs.Truth.{truth}
use Rattle.qdimacs.specs.Rules.{parsed, refused, limit}
use Rattle.qdimacs.specs.Reads.{Reads}
use Rattle.reading.specs.declared.refusal.Quantity.{Quantity}
use Rattle.reading.specs.declared.refusal.Quantity.TheVariants.{Variables, Scopes, Clauses, Literals, Bytes}
use Rattle.qcir.specs.declared.circuit.Circuit.{Circuit}
use Rattle.qcir.specs.Truth.{circuit_truth}
use Rattle.qcir_reader.specs.Rules.{parsed as circuit}
use Rattle.qcir_reader.specs.Reads.{Reads as ReadsCircuit}
use Rattle.qscript.specs.declared.command.Command.{Command as ScriptCommand}
use Rattle.qscript.specs.Reads.{Ending as ScriptEnding, done, limit as script_limit, refused as script_refused}
use Rattle.program.specs.Asked.{Asked, AskedAny, AskedCheck, AskedEither}
use Rattle.program.specs.declared.ending.RunEnding.{RunEnding}
use Rattle.program.specs.declared.ending.RunEnding.TheVariants.{Worked, Usage}

-- The text is a formula with this truth, or a circuit with this truth.
abbrev pub HasTruth : Format → Text → Bool → Type 0
HasTruth as_formula text value = (f : Formula) × Reads text (parsed f) × (truth f.prefix f.clauses ≡ value)
HasTruth as_circuit text value = (c : Circuit) × ReadsCircuit text (circuit c) × (circuit_truth c ≡ value)

-- The text says a formula, which may be that of a circuit, and the budget is below the step limit of its variables, for
-- a search that may begin anew so often.
abbrev pub IsBeyond : Format → Terms → Text → Type 0
IsBeyond format terms text = (f : Formula) × Says format text (parsed f) ×
    (terms.budget < step_limit terms.restarts (size_of f.prefix))

-- The text says a formula, and where propagation alone refutes its clauses, the budget is below the limit of
-- propagation of its variables.
abbrev pub IsSlow : Format → Terms → Text → Type 0
IsSlow format terms text = (f : Formula) × Says format text (parsed f)
    × (IsRefuted f.prefix f.clauses [] → terms.budget < propagation_limit (size_of f.prefix))

-- The text is malformed.
abbrev pub IsRefused : Format → Text → Type 0
IsRefused format text = (number at : ℕ) × Says format text (refused number at)

-- The text goes beyond a limit.
abbrev pub IsLimited : Format → Text → Type 0
IsLimited format text = (quantity : Quantity) × (at : ℕ) × Says format text (limit quantity at)

-- The text is a script with this ending.
abbrev pub EndsIn : Text → ScriptEnding → Type 0
EndsIn text ending = (commands : List ScriptCommand) × IsScriptOf text commands ending

-- The text is a script that is malformed.
abbrev pub IsRefusedScript : Text → Type 0
IsRefusedScript text = (number at : ℕ) × EndsIn text (script_refused number at)

-- The text is a script that goes beyond the limit on bytes.
abbrev pub IsLimitedScript : Text → Type 0
IsLimitedScript text = (at : ℕ) × EndsIn text (script_limit at)

-- The text is a formula, the check formula of its certificate is to be decided, and the budget is short for that.
abbrev pub IsUndecidedCheck : Bool → Terms → Text → Type 0
IsUndecidedCheck decide terms text = (f : Formula) × Reads text (parsed f) × (value : Bool)
    × OfCheck terms f value (λ g. (decide ≡ true) × IsShort terms g)

-- The text is a formula, and the check formula of its certificate goes beyond this limit.
abbrev pub IsCheckBeyond : Quantity → Bool → Terms → Text → Type 0
IsCheckBeyond quantity decide terms text = (f : Formula) × Reads text (parsed f) × (value : Bool)
    × (circuit : Strategy) × HasCircuit terms f value circuit × (limit_of (check_of f circuit) ≡ Some quantity)

-- The same of some limit.
abbrev pub IsLimitedCheck : Bool → Terms → Text → Type 0
IsLimitedCheck decide terms text = (quantity : Quantity) × IsCheckBeyond quantity decide terms text

-- What the status says of the words and the input: a true formula or circuit, a false one, one for which the budget may
-- be too low, or too low for the check formula of its certificate, a script that ends well or no input at all, a
-- malformed text, one beyond a limit, or one whose check formula is, or words that ask for no command.
pub record IsVerdict (words : List Text) (content : Text → Option Text) (status : ℕ) : Type 0 where
  pub sat : status ≡ 10 → Asked words content (λ format terms text. HasTruth format text true)
  pub unsat : status ≡ 20 → Asked words content (λ format terms text. HasTruth format text false)
  pub unknown : status ≡ 0 → AskedAny words content IsBeyond (λ terms text. EndsIn text done)
      ⊎ AskedCheck words content IsUndecidedCheck
  pub slow : status ≡ 0 → AskedAny words content IsSlow (λ terms text. EndsIn text done)
      ⊎ AskedCheck words content IsUndecidedCheck
  pub solved : HasAnswer status
      → AskedAny words content (λ format terms text. OfAnswer status (Solves format terms text))
      (λ terms text. (status ≡ 0) × EndsIn text done)
      ⊎ ((status ≡ 0) × AskedCheck words content IsUndecidedCheck)
  pub refused : status ≡ 2 → AskedEither words content (λ format terms text. IsRefused format text)
      (λ terms text. IsRefusedScript text)
  pub limit : status ≡ 6 → AskedEither words content (λ format terms text. IsLimited format text)
      (λ terms text. IsLimitedScript text) ⊎ AskedCheck words content IsLimitedCheck
  pub usage : status ≡ 7 → HasNoForm words
  pub unasked : HasNoForm words → Contains (5 ∷ 7 ∷ []) status

-- the exit status of an ending
abbrev pub status_of : RunEnding → ℕ
status_of (Worked (Done status)) = status
status_of (Worked (Refused number line)) = 2
status_of (Worked ReadFault) = 3
status_of (Worked WriteFault) = 4
status_of (Worked NoMemory) = 5
status_of (Worked (Limit quantity line)) = 6
status_of (Worked (CheckLimit quantity)) = 6
status_of (Usage text) = 7

-- the name of what there may be only so many of
abbrev pub quantity_name : Quantity → Text
quantity_name Variables = codes "variables"
quantity_name Scopes = codes "scopes"
quantity_name Clauses = codes "clauses"
quantity_name Literals = codes "literals"
quantity_name Bytes = codes "bytes"

-- what is wrong on a line of the input
abbrev pub placed_line : ℕ → Text → Text → Text
placed_line at what which = codes "qbf: line " ++ (decimal at ++ (what ++ (which ++ codes "\n")))

abbrev pub refused_line : ℕ → ℕ → Text
refused_line number at = placed_line at (codes ": refused ") (decimal number)

abbrev pub limit_line : Quantity → ℕ → Text
limit_line quantity at = placed_line at (codes ": limit ") (quantity_name quantity)

abbrev pub check_limit_line : Quantity → Text
check_limit_line quantity = codes "qbf: limit " ++ (quantity_name quantity ++ codes "\n")

-- the line on the error output of an ending
abbrev pub line_of : RunEnding → Text
line_of (Worked (Done status)) = []
line_of (Worked (Refused number at)) = refused_line number at
line_of (Worked ReadFault) = codes "qbf: read fault\n"
line_of (Worked WriteFault) = codes "qbf: write fault\n"
line_of (Worked NoMemory) = codes "qbf: no memory\n"
line_of (Worked (Limit quantity at)) = limit_line quantity at
line_of (Worked (CheckLimit quantity)) = check_limit_line quantity
line_of (Usage text) = string_bytes text

-- the line on the error output where the status alone says it
abbrev pub fixed_line : ℕ → Text
fixed_line status =
    if status == 3 then codes "qbf: read fault\n"
    else if status == 4 then codes "qbf: write fault\n"
    else if status == 5 then codes "qbf: no memory\n"
    else []

-- It tells a limit of the input, with its line.
abbrev pub IsInputLimit : (words : List Text) (content : Text → Option Text) (line : Text) → Type 0
IsInputLimit words content line = (quantity : Quantity) × (at : ℕ) × (line ≡ limit_line quantity at)
    × AskedEither words content (λ format terms text. Says format text (limit quantity at))
    (λ terms text. (quantity ≡ Bytes) × EndsIn text (script_limit at))

-- It tells a limit of the check formula.
abbrev pub IsCheckLimit : (words : List Text) (content : Text → Option Text) (line : Text) → Type 0
IsCheckLimit words content line =
    (quantity : Quantity) × (line ≡ check_limit_line quantity) × AskedCheck words content (IsCheckBeyond quantity)

-- The line on the error output: with what the text says where it is malformed or goes beyond a limit, or its check
-- formula does, and any text where the words ask for no command.
pub record IsErrorLine (words : List Text) (content : Text → Option Text) (status : ℕ) (line : Text) : Type 0 where
  pub refused : status ≡ 2 → (number at : ℕ) × (line ≡ refused_line number at)
      × AskedEither words content (λ format terms text. Says format text (refused number at))
      (λ terms text. EndsIn text (script_refused number at))
  pub limit : status ≡ 6 → IsInputLimit words content line ⊎ IsCheckLimit words content line
  pub other : status ≢ 2 → status ≢ 6 → status ≢ 7 → line ≡ fixed_line status

-- What stands on the error output: a front of the line, and all of it where no fault was counted.
pub record IsErrorOutput (words : List Text) (content : Text → Option Text) (faults : ℕ × ℕ)
    (old new : Option Text) (status : ℕ) : Type 0 where
  pub line : Text
  pub is : IsErrorLine words content status line
  pub front : AppendsFront old new line
  pub whole : ¬ Rose faults.0 faults.1 → Appends old new line
