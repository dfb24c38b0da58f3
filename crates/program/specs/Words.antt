-- Words that the system can't give.
use Rattle.std.specs.Prelude.{◌≡◌, ◌≢◌, codes, string_bytes}
use Rattle.std.specs.declared.io.ErrorKind.{ErrorKind}
use Rattle.std.specs.declared.io.ErrorKind.TheVariants.{OutOfMemory}
use Rattle.solve.specs.declared.ending.Ending.TheVariants.{Done, Refused, Limit, CheckLimit, ReadFault, WriteFault, NoMemory}
use Rattle.program.specs.declared.ending.RunEnding.{RunEnding}
use Rattle.program.specs.declared.ending.RunEnding.TheVariants.{Worked, Usage}

-- The ending where the system has an error of this kind for the words: want of memory, which is free, and for any
-- kind but that a text that says what is wrong.
abbrev pub IsRefusal : ErrorKind → RunEnding → Type 0
IsRefusal kind (Usage text) = (kind ≢ OutOfMemory) × (string_bytes text ≡ codes "error: a word isn't UTF-8\n")
IsRefusal kind (Worked NoMemory) = Unit {0}
IsRefusal kind (Worked (Done status)) = ⊥
IsRefusal kind (Worked (Refused number line)) = ⊥
IsRefusal kind (Worked (Limit quantity line)) = ⊥
IsRefusal kind (Worked (CheckLimit quantity)) = ⊥
IsRefusal kind (Worked ReadFault) = ⊥
IsRefusal kind (Worked WriteFault) = ⊥
