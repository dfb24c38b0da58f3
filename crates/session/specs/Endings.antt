-- Endings where a command has no reply.
use Rattle.solve.specs.declared.ending.Ending.{Ending}
use Rattle.solve.specs.declared.ending.Ending.TheVariants.{WriteFault, NoMemory}
use Rattle.session.specs.declared.reply.SessionStop.{SessionStop}
use Rattle.session.specs.declared.reply.SessionStop.TheVariants.{WriteFault as Unwritten, NoMemory as NoRoomLeft}

-- The ending where a reply can't be written, or there is no memory for it.
abbrev pub ending_at : SessionStop → Ending
ending_at (Unwritten told) = WriteFault
ending_at NoRoomLeft = NoMemory
