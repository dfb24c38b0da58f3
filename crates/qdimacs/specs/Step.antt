-- What a step of the reader answers, and how the reading stands.
use Rattle.std.specs.Prelude.{◌≡◌, List, Option, Some, None, Result, Ok, Err}
use Rattle.lexer.specs.Words.{Item}
use Rattle.lexer.specs.declared.token.LexRefusal.{LexRefusal}
use Rattle.lexer.specs.declared.token.LexRefusal.TheVariants.{ReadFault as LexFault, TooLong, BadByte, NumberRange}
use Rattle.truth.specs.declared.formula.Formula.{Formula}
use Rattle.reading.specs.declared.refusal.Quantity.TheVariants.{Bytes}
use Rattle.reading.specs.declared.refusal.ReadRefusal.{ReadRefusal}
use Rattle.reading.specs.declared.refusal.ReadRefusal.TheVariants.{Refused, Limit, ReadFault, NoMemory}
use Rattle.qdimacs.specs.Rules.{Outcome, parsed, refused, limit, Front, nothing}
use Rattle.qdimacs.specs.Run.{outcome_from}

-- the refusal is this outcome; want of memory is none
abbrev pub Is : ReadRefusal → Option Outcome → Type 0
Is (Refused number line) found = found ≡ Some (refused number line)
Is (Limit quantity line) found = found ≡ Some (limit quantity line)
Is ReadFault found = ⊥
Is NoMemory found = Unit {0}

-- what the reader answers for a refusal of the lexer
abbrev pub refusal_for : LexRefusal → ReadRefusal
refusal_for LexFault = ReadFault
refusal_for (TooLong line) = Limit Bytes line
refusal_for (BadByte line) = Refused 7 line
refusal_for (NumberRange line) = Refused 8 line

-- the end gives the formula, or the first rule that refuses
abbrev pub Closes : Result Formula ReadRefusal → Option Outcome → Type 0
Closes (Ok f) found = found ≡ Some (parsed f)
Closes (Err e) found = Is e found

-- What is left gives the outcome that the whole gives, where the desk tells.
abbrev pub Remains : Option (List Item) → Front → Option (List Item) → Type 0
Remains None front now = Unit {0}
Remains (Some all) front None = ⊥
Remains (Some all) front (Some items) = outcome_from front items ≡ outcome_from nothing all
