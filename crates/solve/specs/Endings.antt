-- Endings with an answer, and where a text is no formula.
use Rattle.reading.specs.declared.refusal.ReadRefusal.{ReadRefusal}
use Rattle.reading.specs.declared.refusal.ReadRefusal.TheVariants.{Refused as Rejected, Limit as Beyond, ReadFault as Unreadable, NoMemory as NoRoom}
use Rattle.solve.specs.declared.ending.Ending.{Ending}
use Rattle.solve.specs.declared.ending.Ending.TheVariants.{Done, Refused, Limit, CheckLimit, ReadFault, WriteFault, NoMemory}

-- The ending where a text is no formula, or can't be read.
abbrev pub ending_for : ReadRefusal → Ending
ending_for (Rejected number line) = Refused number line
ending_for (Beyond quantity line) = Limit quantity line
ending_for Unreadable = ReadFault
ending_for NoRoom = NoMemory

-- The answer is written.
abbrev pub IsDone : Ending → Type 0
IsDone (Done status) = Unit {0}
IsDone (Refused number line) = ⊥
IsDone (Limit quantity line) = ⊥
IsDone (CheckLimit quantity) = ⊥
IsDone ReadFault = ⊥
IsDone WriteFault = ⊥
IsDone NoMemory = ⊥
