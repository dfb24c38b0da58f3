-- What a call says that reads a text.
use Rattle.std.specs.Prelude.{◌≡◌, ◌≢◌, ℕ, ◌+◌, Bool, true, List, ⊤}
use Rattle.reading.specs.declared.refusal.Quantity.{Quantity}
use Rattle.reading.specs.declared.refusal.Quantity.TheVariants.{Variables, Scopes, Clauses, Literals, Bytes}
use Rattle.reading.specs.declared.refusal.ReadRefusal.{ReadRefusal}
use Rattle.reading.specs.declared.refusal.ReadRefusal.TheVariants.{Refused, Limit, ReadFault, NoMemory}
use Rattle.truth.specs.declared.formula.Formula.{Formula}
use Rattle.qdimacs.specs.Reads.{Reads}
use Rattle.qdimacs.specs.Rules.{Outcome, parsed, refused, limit}
use Rattle.solve.specs.Feeding.{HoldsFormula}
use Rattle.engine.specs.State.{EngineState}
use Rattle.qbf_c.specs.Codes.{accepted, no_memory}

-- an engine that holds the formula of a text
abbrev pub IsRead : List ℕ → EngineState → Type 0
IsRead text e = (f : Formula) × Reads text (parsed f) × HoldsFormula f.prefix f.clauses e

-- the code of a limit
abbrev pub limit_code : Quantity → ℕ
limit_code Variables = 120
limit_code Scopes = 121
limit_code Clauses = 122
limit_code Literals = 123
limit_code Bytes = 124

-- the code of a text that isn't read, and the line that is told; a fault of reading never comes
abbrev pub text_code : ReadRefusal → ℕ
text_code (Refused number line) = 100 + number
text_code (Limit quantity line) = limit_code quantity
text_code ReadFault = no_memory
text_code NoMemory = no_memory

abbrev pub text_line : ReadRefusal → ℕ → ℕ
text_line (Refused number line) before = line
text_line (Limit quantity line) before = line
text_line ReadFault before = before
text_line NoMemory before = before

-- a text that is refused, or for which memory is wanting
abbrev pub IsUnread : List ℕ → ReadRefusal → Type 0
IsUnread text (Refused number line) = Reads text (refused number line)
IsUnread text (Limit quantity line) = Reads text (limit quantity line)
IsUnread text ReadFault = ⊥
IsUnread text NoMemory = ⊤

-- what is told of what a text is
abbrev pub IsToldAs : Outcome → Bool → EngineState → ℕ → ℕ → ℕ → Type 0
IsToldAs (parsed f) live now before line code =
    (code ≡ accepted) × (live ≡ true) × HoldsFormula f.prefix f.clauses now × (line ≡ before)
IsToldAs (refused number at) live now before line code = (code ≡ 100 + number) × (line ≡ at)
IsToldAs (limit quantity at) live now before line code = (code ≡ limit_code quantity) × (line ≡ at)

-- The code tells what the text is, unless there is no memory. Where it is no formula the handle is as it was.
pub record ReadSays (text : List ℕ) (Same : Type 0) (live : Bool) (now : EngineState) (before line code : ℕ)
    : Type 0 where
  pub told : code ≢ no_memory → (o : Outcome) × Reads text o × IsToldAs o live now before line code
  pub same : code ≢ accepted → Same
  pub left : code ≡ no_memory → line ≡ before
