-- What the reader answers for a text.
use Rattle.std.specs.Prelude.{ℕ, List, Result, Ok, Err}
use Rattle.truth.specs.declared.formula.Formula.{Formula}
use Rattle.reading.specs.declared.refusal.ReadRefusal.{ReadRefusal}
use Rattle.reading.specs.declared.refusal.ReadRefusal.TheVariants.{Refused, Limit, ReadFault, NoMemory}
use Rattle.qdimacs.specs.Rules.{parsed, refused, limit}
use Rattle.qdimacs.specs.Reads.{Reads}

-- The answer is what the text is. A fault of the desk and want of memory say nothing of it.
abbrev pub IsAnswer : Result Formula ReadRefusal → List ℕ → Type 0
IsAnswer (Ok f) text = Reads text (parsed f)
IsAnswer (Err (Refused number line)) text = Reads text (refused number line)
IsAnswer (Err (Limit quantity line)) text = Reads text (limit quantity line)
IsAnswer (Err ReadFault) text = Unit {0}
IsAnswer (Err NoMemory) text = Unit {0}
