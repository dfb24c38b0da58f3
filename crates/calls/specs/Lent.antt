-- What a desk over a lent text and a sink over a lent buffer show.
use Rattle.std.specs.Prelude.{ℕ, ◌+◌, ◌-◌, ◌≤◌, List, [], ◌∷◌, Option, Some, length, take}
use Rattle.calls.specs.declared.lent_sink.LentSink.{LentSink}
use Rattle.calls.specs.declared.lent_sink.Room.{Room}
use Rattle.calls.specs.declared.lent_sink.Room.TheVariants.{Left, Full}

-- the name of the buffer that was lent, by which proofs know it, the bytes written, the room for bytes, and the faults
pub record Lent : Type 0 where
  pub name : ℕ
  pub bytes : List ℕ
  pub room : ℕ
  pub faults : ℕ

-- how many bytes of a buffer of this length are used
abbrev pub used_of : ℕ → Room → ℕ
used_of length (Left n) = length - n
used_of length (Full faults) = length

-- a fault comes only where the buffer is full
abbrev pub faults_of : Room → ℕ
faults_of (Left n) = 0
faults_of (Full faults) = faults

-- what a sink shows
abbrev pub seen : LentSink → Lent
seen s = record {
  name = s.buffer.ghost_name;
  bytes = take (used_of (length s.buffer.now) s.room) s.buffer.now;
  room = length s.buffer.now;
  faults = faults_of s.room;
}

-- an empty sink over a buffer of this name and length
abbrev pub empty : (name room : ℕ) → Lent
empty name room = record { name = name; bytes = []; room = room; faults = 0 }

-- so many more bytes fit the buffer
abbrev pub HasRoom : Lent → ℕ → Type 0
HasRoom sink n = length sink.bytes + n ≤ sink.room

-- bytes of a sink, behind the numbers of its buffer: its name and its length. So whoever appends to them leaves the
-- buffer the same.
abbrev pub behind : (name room : ℕ) → List ℕ → Option (List ℕ)
behind name room bytes = Some (name ∷ room ∷ bytes)

-- the text that was lent, and what is left of it
pub record Reader : Type 0 where
  pub text : List ℕ
  pub left : List ℕ
