-- Endings without an answer.
use Rattle.std.specs.Prelude.{Result, Ok, Err}
use Rattle.qcir_reader.specs.declared.refusal.QcirRefusal.{QcirRefusal}
use Rattle.qcir_reader.specs.declared.refusal.QcirRefusal.TheVariants.{Refused as NoCircuit, Limit as GreatCircuit, ReadFault as UnreadableCircuit, NoMemory as NoRoomForCircuit}
use Rattle.solve.specs.declared.answer.Answer.{Answer}
use Rattle.solve.specs.declared.ending.Ending.{Ending}
use Rattle.solve.specs.declared.ending.Ending.TheVariants.{Done, Refused, Limit, CheckLimit, ReadFault, WriteFault, NoMemory}
use Rattle.solve.specs.Answers.{answer_status}

-- The ending where a text is no circuit, or can't be read.
abbrev pub circuit_ending_for : QcirRefusal → Ending
circuit_ending_for (NoCircuit number line) = Refused number line
circuit_ending_for (GreatCircuit quantity line) = Limit quantity line
circuit_ending_for UnreadableCircuit = ReadFault
circuit_ending_for NoRoomForCircuit = NoMemory

-- The ending with an answer, or without one.
abbrev pub ending_with : Result Answer Ending → Ending
ending_with (Ok answer) = Done (answer_status answer)
ending_with (Err ending) = ending

-- No formula was read.
abbrev pub IsUnread : Ending → Type 0
IsUnread (Done status) = ⊥
IsUnread (Refused number line) = Unit {0}
IsUnread (Limit quantity line) = Unit {0}
IsUnread (CheckLimit quantity) = ⊥
IsUnread ReadFault = Unit {0}
IsUnread WriteFault = ⊥
IsUnread NoMemory = Unit {0}
