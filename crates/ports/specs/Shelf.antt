-- What a sink in memory shows, and what it keeps true.
use Rattle.std.specs.Prelude.{◌≡◌, ℕ, ◌+◌, ◌-◌, ◌≤◌, ◌<◌, ◌&&◌, ◌||◌, Bool, List, [], length, min, nat_lt, nat_le}
use Rattle.ports.specs.Calls.{Tally, is_due}

-- the bytes written, those of them that were flushed, the room for bytes, the greatest piece of a write, and the calls
pub record Shelf : Type 0 where
  pub bytes : List ℕ
  pub flushed : List ℕ
  pub room : ℕ
  pub greatest : ℕ
  pub calls : Tally

-- a write fails where the call is listed, or where no room is left for a piece with bytes
abbrev pub write_fails : Shelf → List ℕ → Bool
write_fails sink piece = is_due sink.calls || (nat_le sink.room (length sink.bytes) && nat_lt 0 (length piece))

-- how many bytes of a piece a write takes
abbrev pub taken_count : Shelf → List ℕ → ℕ
taken_count sink piece = min (min (length piece) sink.greatest) (sink.room - length sink.bytes)

-- no call is listed, and so many more bytes fit the room
abbrev pub HasRoom : Shelf → ℕ → Type 0
HasRoom sink n = (sink.calls.failing ≡ []) × (length sink.bytes + n ≤ sink.room)

-- the bytes fit the room, the room was taken, a write takes some, and those flushed are a front of the bytes
pub record IsStored (len capacity room greatest flushed : ℕ) : Type 0 where
  pub fits : len ≤ room
  pub taken : room ≤ capacity
  pub some : 0 < greatest
  pub front : flushed ≤ len
