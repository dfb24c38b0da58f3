-- Statements on texts that are written and read (QDIMACS 1.1, input format).
use Rattle.std.specs.Prelude.{◌≡◌, ℕ, ◌+◌, ◌*◌, ◌<◌, ◌≤◌, List, flat_map, length}
use Rattle.lexer.specs.Words.{max_bytes}
use Rattle.prefix.specs.Scopes.{all_variables}
use Rattle.truth.specs.declared.formula.Formula.{Formula}
use Rattle.qdimacs.specs.Reads.{Reads}
use Rattle.qdimacs.specs.Rules.{parsed, refused}
use Rattle.qdimacs_out.specs.Texts.{formula_text}
use Rattle.qdimacs_out.specs.Writable.{IsWritable}

-- the text of a formula is within the reader's limit of bytes
abbrev pub IsShort : Formula → Type 0
IsShort f = length (formula_text f) ≤ max_bytes

-- where a text is read as a formula that has all the clauses that it declares, so is the formula's own text
abbrev pub ReadAgain : Type 0
ReadAgain = (text : List ℕ) (f : Formula) → Reads text (parsed f) → length f.clauses ≡ f.declared_clauses → IsShort f
    → Reads (formula_text f) (parsed f)

-- where it has fewer, its own text is refused with 16, TooFewClauses, at its end
abbrev pub FewerRefused : Type 0
FewerRefused = (text : List ℕ) (f : Formula) → Reads text (parsed f) → length f.clauses < f.declared_clauses
    → IsShort f → Reads (formula_text f) (refused 16 (length f.prefix + length f.clauses + 2))

-- what is read has the form in which it is written
abbrev pub ReadWritable : Type 0
ReadWritable = (text : List ℕ) (f : Formula) → Reads text (parsed f) → IsWritable f

-- what has this form, with all the clauses that it declares, is read from its text
abbrev pub WritableRead : Type 0
WritableRead = (f : Formula) → IsWritable f → length f.clauses ≡ f.declared_clauses → IsShort f
    → Reads (formula_text f) (parsed f)

-- how long the text of such a formula is at most: each number has at most eight digits
abbrev pub TextBounded : Type 0
TextBounded = (f : Formula) → IsWritable f → length (formula_text f)
    ≤ 24 + (4 * length f.prefix + 9 * length (all_variables f.prefix))
    + (2 * length f.clauses + 10 * length (flat_map (λ clause. clause) f.clauses))
