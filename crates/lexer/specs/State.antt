-- Where a lexer stands in a text.
use Rattle.std.specs.Prelude.{◌≡◌, ℕ, ◌+◌, ◌-◌, ◌<◌, ◌≤◌, Bool, true, ◌==◌, if◌then◌else◌, List, drop, Option, Some, None, option_map}
use Rattle.std.specs.Io.KnownBytes.{prepend_known}
use Rattle.lexer.specs.declared.token.Comments.{Comments}
use Rattle.lexer.specs.Words.{Item, items_from, last_line}

-- The kind of comments, whether the line has had no word yet, its number, how many bytes may still be taken, the bytes
-- that were read and not taken, and whether it was refused.
pub record State : Type 0 where
  pub comments : Comments
  pub fresh : Bool
  pub line : ℕ
  pub room : ℕ
  pub ahead : List ℕ
  pub failed : Bool

-- The bytes to come, where the desk tells what it has left.
abbrev pub bytes_ahead : State → Option (List ℕ) → Option (List ℕ)
bytes_ahead s left = prepend_known s.ahead left

-- The items to come, where the desk tells what it has left.
abbrev pub upcoming : State → Option (List ℕ) → Option (List Item)
upcoming s left = option_map (items_from s.comments s.fresh s.line s.room) (bytes_ahead s left)

-- Behind this byte.
abbrev pub past : ℕ → State → State
past b s = record {
  comments = s.comments;
  fresh = if b == 10 then true else s.fresh;
  line = if b == 10 then s.line + 1 else s.line;
  room = s.room - 1;
  ahead = drop 1 s.ahead;
  failed = s.failed;
}

-- What is known stays.
abbrev pub Stays : {A : Type 0} → Option A → Option A → Type 0
Stays None new = Unit {0}
Stays (Some x) new = new ≡ Some x

-- The line in which the bytes end that were read. The lines before it were read whole.
abbrev pub line_read : State → ℕ
line_read s = last_line s.line s.ahead

-- The lexer goes on in the text, and where the line in which it then stands had been read whole it makes no read.
pub record GoesOn {D : Type 0} (s t : State) (old new : D) : Type 0 where
  pub onward : s.line ≤ t.line
  pub unread : t.line < line_read s → (new ≡ old) × (line_read t ≡ line_read s)
