-- What a call of the program comes to.
use Rattle.std.specs.Prelude.{◌≡◌, ◌≢◌, ◌⊎◌, ◌≤◌, List, [], ◌∷◌, Contains, Option, Some, length, take}
use Rattle.std.specs.Str.{IsUtf8}
use Rattle.ports.specs.Bytes.{AppendsFront}
use Rattle.command.specs.Forms.{Text}
use Rattle.trail.specs.State.{Account}
use Rattle.program.specs.Asked.{RoomForOutput}
use Rattle.program.specs.Complete.{IsComplete, IsValid}
use Rattle.program.specs.Run.{IsErrorLine, IsVerdict}
use Rattle.program.specs.Told.{IsOutput}
use Rattle.calls.specs.Words.{AreWordsOf}
use Rattle.calls.specs.declared.entry.Done.{Done}

-- what is known of the inputs: each name has this text
abbrev pub each_name : Text → Text → Option Text
each_name text name = Some text

-- What a run on the words of a line and a text comes to, by what stands at the start of the buffers. The status, the
-- output and the error output are those of `qbf` on these words, whose input is the text.
pub record IsRun (request text out error : Text) (done : Done) : Type 0 where
  pub words : List Text
  pub are : AreWordsOf request words
  pub statuses : Contains (10 ∷ 20 ∷ 0 ∷ 2 ∷ 3 ∷ 4 ∷ 5 ∷ 6 ∷ 7 ∷ []) done.status
  pub read : done.status ≢ 3
  pub verdict : IsVerdict words (each_name text) done.status
  -- what stands on the output, all of it at the return
  pub written : done.written ≤ length out
  pub stops : List Account
  pub output : IsOutput words (each_name text) (Some [], Some (take done.written out)) stops done.status
  -- a write fault comes only where the buffer lacks room for all that can be written, and a valid input is answered
  -- where none comes and there is memory
  pub room : RoomForOutput words (each_name text) (λ n. n ≤ length out) → done.status ≢ 4
  pub complete : IsValid words (each_name text) → done.status ≢ 4 → IsComplete words (each_name text) done.status
  -- what stands on the error output: the line, as far as the buffer goes
  pub said : done.said ≤ length error
  pub line : Text
  pub is : IsErrorLine words (each_name text) done.status line
  pub front : AppendsFront (Some []) (Some (take done.said error)) line
  pub whole : length line ≤ length error → take done.said error ≡ line

-- What a call comes to: a run, or nothing for want of memory or where the line isn't UTF-8.
abbrev pub IsCall : (line text out error : Text) → Done → Type 0
IsCall line text out error done = IsRun line text out error done
    ⊎ ((done ≡ record { status = 5; written = 0; said = 0 })
    ⊎ ((done ≡ record { status = 7; written = 0; said = 0 }) × ¬ IsUtf8 line))
