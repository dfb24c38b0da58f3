-- What the work on a script comes to.
use Rattle.std.specs.Prelude.{◌≡◌, ◌≢◌, ℕ, List, ◌++◌, length, Option, Some, IfErr, IfSome, Result, Ok, Err, ⊤, None}
use Rattle.std.specs.Io.KnownBytes.{Appends}
use Rattle.ports.specs.Bytes.{AppendsFront}
use Rattle.trail.specs.State.{Account}
use Rattle.reading.specs.declared.refusal.Quantity.TheVariants.{Bytes}
use Rattle.versions.specs.declared.version.Version.{Version}
use Rattle.qscript.specs.declared.command.Command.{Command}
use Rattle.ports.specs.Writing.{Stops, Wrote}
use Rattle.engine.specs.State.{EngineState}
use Rattle.qscript.specs.Run.{Script, stopped}
use Rattle.qscript.specs.Reads.{Ending as ScriptEnding, ReadsScript, done, limit, refused}
use Rattle.solve.specs.declared.ending.Ending.{Ending}
use Rattle.solve.specs.declared.ending.Ending.TheVariants.{Done, Refused, Limit, CheckLimit, ReadFault, WriteFault, NoMemory}
use Rattle.session.specs.Replies.{Leads}
use Rattle.solve.specs.Outputs.{Output, Text}
use Rattle.solve.specs.Standing.{Standing, start, start_of}
use Rattle.solve.specs.Holding.{Holds}
use Rattle.solve.specs.Terms.{Terms}
use Rattle.solve.specs.Endings.{IsDone}
use Rattle.solve.specs.Outside.{SendsReply}

-- the same by what a header names; where it names no version, no command is given
abbrev pub start_in : Option Version → Standing
start_in None = start
start_in (Some version) = start_of version

-- The text is a script of these commands with this ending, whatever version its header names.
abbrev pub IsScriptOf : List ℕ → List Command → ScriptEnding → Type 0
IsScriptOf text commands ending = (version : Option Version) × ReadsScript text version commands ending

-- The ending is that of the script: all of it was answered, or a line is malformed or beyond the limit. Faults and want
-- of memory say nothing of it.
abbrev pub IsScriptEnding : List ℕ → Ending → Type 0
IsScriptEnding text (Done status) = (status ≡ 0) × (commands : List Command) × IsScriptOf text commands done
IsScriptEnding text (Refused number line) = (commands : List Command) × IsScriptOf text commands (refused number line)
IsScriptEnding text (Limit quantity line) = (quantity ≡ Bytes)
    × (commands : List Command) × IsScriptOf text commands (limit line)
IsScriptEnding text (CheckLimit quantity) = ⊥
IsScriptEnding text ReadFault = ⊤
IsScriptEnding text WriteFault = ⊤
IsScriptEnding text NoMemory = ⊤

-- The script was read to its ending, so that all of its commands were given.
abbrev pub IsReadOut : Ending → Type 0
IsReadOut (Done status) = ⊤
IsReadOut (Refused number line) = ⊤
IsReadOut (Limit quantity line) = ⊤
IsReadOut (CheckLimit quantity) = ⊥
IsReadOut ReadFault = ⊥
IsReadOut WriteFault = ⊥
IsReadOut NoMemory = ⊥

-- The work on a script may end so: in any way but by a check formula.
abbrev pub EndsScript : Ending → Type 0
EndsScript (Done status) = ⊤
EndsScript (Refused number line) = ⊤
EndsScript (Limit quantity line) = ⊤
EndsScript (CheckLimit quantity) = ⊥
EndsScript ReadFault = ⊤
EndsScript WriteFault = ⊤
EndsScript NoMemory = ⊤

-- These commands are the first of the text's script, which is of this version.
abbrev pub AreFirst : List ℕ → Option Version → List Command → Type 0
AreFirst text version commands =
    (rest : List Command) × (ending : ScriptEnding) × ReadsScript text version (commands ++ rest) ending

-- Commands were answered, by the version that the header names: the first of the text's script, if the text is told,
-- and all of them where it was read to its ending. The replies are allowed ones; all of them were written, or after a
-- write fault a front of them. The list of what is told of searches that stopped got an entry for each `UNKNOWN` among
-- them. `written` is what stood on the output and stands on it, `stops` the list before and after.
pub record AreAnswered (terms : Terms) (known : Option (List ℕ)) (written : Option (List ℕ) × Option (List ℕ))
    (stops : List Account × List Account) (ending : Ending) : Type 0 where
  pub version : Option Version
  pub commands : List Command
  pub out : Output
  pub after : Standing
  pub allowed : Leads terms (start_in version) commands out after
  pub first : IfSome known (λ text. AreFirst text version commands)
  pub all : IsReadOut ending → IfSome known (λ text. (e : ScriptEnding) × ReadsScript text version commands e)
  pub front : AppendsFront written.0 written.1 out.text
  pub whole : ending ≢ WriteFault → Appends written.0 written.1 out.text
  pub told : stops.1 ≡ stops.0 ++ out.stops
  pub ends : EndsScript ending

-- The output has room for all allowed replies to the first commands of the text's script, if the text is told.
abbrev pub RoomForReplies : Terms → Option (List ℕ) → (ℕ → Type 0) → Type 0
RoomForReplies terms known has_room = (version : Option Version) (commands : List Command) (out : Output)
    (after : Standing) → Leads terms (start_in version) commands out after
    → IfSome known (λ text. AreFirst text version commands) → has_room (length out.text)

-- the ending that a result stands for
abbrev pub ending_of : Result (Unit {0}) Ending → Ending
ending_of (Ok u) = Done 0
ending_of (Err ending) = ending

-- What is left of a script where the work on it has this result: its ending, unless a fault or want of memory came
-- first.
abbrev pub IsLeftAt : Result (Unit {0}) Ending → Script → Type 0
IsLeftAt (Ok u) rest = rest ≡ stopped done
IsLeftAt (Err (Done status)) rest = ⊥
IsLeftAt (Err (Refused number line)) rest = rest ≡ stopped (refused number line)
IsLeftAt (Err (Limit quantity line)) rest = (quantity ≡ Bytes) × (rest ≡ stopped (limit line))
IsLeftAt (Err (CheckLimit quantity)) rest = ⊥
IsLeftAt (Err ReadFault) rest = ⊤
IsLeftAt (Err WriteFault) rest = ⊤
IsLeftAt (Err NoMemory) rest = ⊤

-- A text was written, or a front of it before a write fault.
abbrev pub IsSentAt : {S : Type 0} → (written flushed : S → Option (List ℕ)) → (S → ℕ) → (S → ℕ → Type 0) → S → S
    → List ℕ → Result (Unit {0}) Ending → Type 0
IsSentAt written flushed faults has_room old new text (Ok u) = Wrote written flushed faults has_room old new text
IsSentAt written flushed faults has_room old new text (Err WriteFault) =
    Stops written flushed faults has_room old new text
IsSentAt written flushed faults has_room old new text (Err (Done status)) = ⊥
IsSentAt written flushed faults has_room old new text (Err (Refused number line)) =
    Wrote written flushed faults has_room old new text
IsSentAt written flushed faults has_room old new text (Err (Limit quantity line)) =
    Wrote written flushed faults has_room old new text
IsSentAt written flushed faults has_room old new text (Err (CheckLimit quantity)) = ⊥
IsSentAt written flushed faults has_room old new text (Err ReadFault) =
    Wrote written flushed faults has_room old new text
IsSentAt written flushed faults has_room old new text (Err NoMemory) =
    Wrote written flushed faults has_room old new text

-- From a standing on, commands were replied to: the first of the script, if this is known, up to this rest. `IsSent`
-- says what was written of the replies, and `stops` is the list of what is told of searches before and after.
pub record Answers (terms : Terms) (s : Standing) (script : Option Script) (IsRest : Script → Type 0)
    (IsSent : Text → Type 0) (stops : List Account × List Account) : Type 0 where
  pub commands : List Command
  pub out : Output
  pub after : Standing
  pub leads : Leads terms s commands out after
  pub first : IfSome script (λ all. (rest : Script) × (all ≡ (commands ++ rest.0, rest.1)) × IsRest rest)
  pub sent : IsSent out.text
  pub told : stops.1 ≡ stops.0 ++ out.stops

-- The same, where the engine holds what the commands came to.
pub record IsUnderWay (terms : Terms) (s : Standing) (script to_come : Option Script) (e : EngineState)
    (IsSent : Text → Type 0) (stops : List Account × List Account) : Type 0 where
  pub so_far : Answers terms s script (λ rest. to_come ≡ Some rest) IsSent stops
  pub holds : Holds terms e so_far.after

-- the script that is known is that of the text
abbrev pub IsOfText : Option (List ℕ) → Option Version → Option Script → Type 0
IsOfText known version script = IfSome known (λ text. (cs : List Command) × (e : ScriptEnding)
    × ReadsScript text version cs e × (script ≡ Some (cs, e)))

-- What the work on the commands of a text comes to, once the header was read: its ending is that of the script, the
-- replies were sent, and flushed where it ends well.
pub record IsWorkedOff {S : Type 0} (written flushed : S → Option (List ℕ)) (faults : S → ℕ)
    (has_room : S → ℕ → Type 0) (terms : Terms) (known : Option (List ℕ)) (old new : S)
    (stops : List Account × List Account) (result : Result (Unit {0}) Ending) : Type 0 where
  pub ending : IfSome known (λ text. IsScriptEnding text (ending_of result))
  pub err : IfErr result (λ e. ¬ IsDone e)
  pub sent : SendsReply written flushed faults (RoomForReplies terms known (has_room old)) old new result
  pub answered : AreAnswered terms known (written old, written new) stops (ending_of result)
