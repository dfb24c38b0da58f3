-- What the reader answers.
use Rattle.std.specs.Prelude.{◌≡◌, ◌≤◌, ℕ, List, length, Option, Some, None, Result, Ok, Err}
use Rattle.lexer.specs.Words.{Item}
use Rattle.lexer.specs.declared.token.LexRefusal.{LexRefusal}
use Rattle.lexer.specs.declared.token.LexRefusal.TheVariants.{ReadFault as LexFault, TooLong, BadByte, NumberRange}
use Rattle.reading.specs.declared.refusal.Quantity.TheVariants.{Bytes}
use Rattle.qcir.specs.declared.circuit.Circuit.{Circuit}
use Rattle.qcir.specs.Truth.{gate_names}
use Rattle.qcir.specs.Translation.{IsCircuit, clause_count, scopes_with}
use Rattle.qcir_reader.specs.declared.refusal.QcirRefusal.{QcirRefusal}
use Rattle.qcir_reader.specs.declared.refusal.QcirRefusal.TheVariants.{Refused, Limit, ReadFault, NoMemory}
use Rattle.qcir_reader.specs.declared.sign.Stage.{Stage}
use Rattle.qcir_reader.specs.declared.sign.Stage.TheVariants.{Between}
use Rattle.qcir_reader.specs.Rules.{Outcome, parsed, refused, limit, Front}
use Rattle.truth.specs.Limits.{max_scopes, max_clauses}
use Rattle.qcir_reader.specs.Run.{nothing, outcome_from}
use Rattle.qcir_reader.specs.Reads.{Reads}

-- The answer is what the text is. A fault of the desk and want of memory say nothing of it.
abbrev pub IsAnswer : Result Circuit QcirRefusal → List ℕ → Type 0
IsAnswer (Ok c) text = Reads text (parsed c)
IsAnswer (Err (Refused number line)) text = Reads text (refused number line)
IsAnswer (Err (Limit quantity line)) text = Reads text (limit quantity line)
IsAnswer (Err ReadFault) text = Unit {0}
IsAnswer (Err NoMemory) text = Unit {0}

-- What is true of every circuit that was read, whatever its text: it has a formula within the limits.
pub record IsSmall (c : Circuit) : Type 0 where
  pub circuit : IsCircuit c
  pub scopes : length (scopes_with c.prefix (gate_names c.gates)) ≤ max_scopes
  pub clauses : clause_count c.gates ≤ max_clauses

-- the refusal is this outcome; want of memory is none
abbrev pub Is : QcirRefusal → Option Outcome → Type 0
Is (Refused number line) found = found ≡ Some (refused number line)
Is (Limit quantity line) found = found ≡ Some (limit quantity line)
Is ReadFault found = ⊥
Is NoMemory found = Unit {0}

-- what the reader answers for a refusal of the lexer
abbrev pub refusal_for : LexRefusal → QcirRefusal
refusal_for LexFault = ReadFault
refusal_for (TooLong line) = Limit Bytes line
refusal_for (BadByte line) = Refused 7 line
refusal_for (NumberRange line) = Refused 8 line

-- the end gives the circuit, or the first rule that refuses
abbrev pub Closes : Result Circuit QcirRefusal → Option Outcome → Type 0
Closes (Ok c) found = found ≡ Some (parsed c)
Closes (Err e) found = Is e found

-- no rule refuses and this holds, or the answer is that of the first rule that refuses
abbrev pub Goes : {A : Type 0} → Result A QcirRefusal → Option Outcome → Type 0 → Type 0
Goes (Ok x) found P = (found ≡ None) × P
Goes (Err e) found P = Is e found

-- What is left gives the outcome that the whole gives, where the desk tells.
abbrev pub Remains : Option (List Item) → Stage → Front → Option (List Item) → Type 0
Remains None stage f now = Unit {0}
Remains (Some all) stage f None = ⊥
Remains (Some all) stage f (Some items) = outcome_from stage f items ≡ outcome_from Between nothing all
