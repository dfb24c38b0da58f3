-- What a session does at a command.
use Rattle.std.specs.Prelude.{◌≡◌, ◌≤◌, ℕ, Bool, true, false, List, ◌∷◌, ◌++◌, Option, Some, None, Result, Ok, Err, ⊤, []}
use Rattle.trail.specs.State.{Account}
use Rattle.ports.specs.Writing.{Stops, Wrote}
use Rattle.engine.specs.State.{EngineState}
use Rattle.qscript.specs.declared.command.Command.{Command}
use Rattle.qscript.specs.declared.command.Command.TheVariants.{Scope as ScopeCommand, Var, Clause, Push, Pop, Assume, Solve, Value, Relevant, Trace, Cert, OpenGroup, CloseGroup, Activate, Deactivate, GroupCore}
use Rattle.solve.specs.declared.ending.Ending.{Ending}
use Rattle.solve.specs.declared.ending.Ending.TheVariants.{Done, Refused as Malformed, Limit as Beyond, CheckLimit, ReadFault as Unreadable, WriteFault as EndsInFault, NoMemory as EndsInWant}
use Rattle.session.specs.declared.reply.Reply.{Reply}
use Rattle.session.specs.declared.reply.Reply.TheVariants.{Silent, Refused, Sat, Unsat, Unknown, Written}
use Rattle.session.specs.declared.reply.SessionStop.{SessionStop}
use Rattle.session.specs.declared.reply.SessionStop.TheVariants.{WriteFault, NoMemory}
use Rattle.session.specs.Replies.{IsReply, refusal_number, refused_text}
use Rattle.solve.specs.Outputs.{Output, Text}
use Rattle.solve.specs.Standing.{Standing}
use Rattle.session.specs.State.{SessionState}
use Rattle.solve.specs.Holding.{Holds}
use Rattle.solve.specs.Terms.{Terms}
use Rattle.solve.specs.declared.decision.Decision.{Decision}
use Rattle.solve.specs.declared.decision.Decision.TheVariants.{Sat as is_sat, Unsat as is_unsat, Unknown as is_unknown}
use Rattle.solve.specs.Decisions.{stopped_at, truth_of}
use Rattle.solve.specs.Entries.{listed}

-- what a reply tells of a search that stopped
abbrev pub told_by : Reply → List Account
told_by Silent = []
told_by (Refused number) = []
told_by Sat = []
told_by Unsat = []
told_by (Unknown stopped) = stopped ∷ []
told_by Written = []

-- the reply to a solve that came to this
abbrev pub reply_to : Decision → Reply
reply_to is_sat = Sat
reply_to is_unsat = Unsat
reply_to (is_unknown stopped) = Unknown stopped

-- The reply to a solve of a formula with this truth: the truth, or that the budget was spent first.
abbrev pub IsSolveReply : Bool → Reply → Type 0
IsSolveReply truth Silent = ⊥
IsSolveReply truth (Refused number) = ⊥
IsSolveReply truth Sat = truth ≡ true
IsSolveReply truth Unsat = truth ≡ false
IsSolveReply truth (Unknown stopped) = ⊤
IsSolveReply truth Written = ⊥

-- The reply to a question for a core: the core, or that the budget was spent first.
abbrev pub IsCoreReply : Reply → Type 0
IsCoreReply Silent = ⊥
IsCoreReply (Refused number) = ⊥
IsCoreReply Sat = ⊥
IsCoreReply Unsat = ⊥
IsCoreReply (Unknown stopped) = ⊤
IsCoreReply Written = ⊤

-- Which reply an accepted command has: a change none, a solve the truth or `UNKNOWN`, and a question what was asked,
-- or one for a core `UNKNOWN`.
abbrev pub IsAcceptedReply : Standing → Command → Reply → Type 0
IsAcceptedReply s (ScopeCommand quant at) reply = reply ≡ Silent
IsAcceptedReply s (Var var scope) reply = reply ≡ Silent
IsAcceptedReply s (Clause lits) reply = reply ≡ Silent
IsAcceptedReply s Push reply = reply ≡ Silent
IsAcceptedReply s Pop reply = reply ≡ Silent
IsAcceptedReply s (Assume lit) reply = reply ≡ Silent
IsAcceptedReply s Solve reply = IsSolveReply (truth_of s.script.formula) reply
IsAcceptedReply s (Value v) reply = reply ≡ Written
IsAcceptedReply s Relevant reply = reply ≡ Written
IsAcceptedReply s Trace reply = reply ≡ Written
IsAcceptedReply s Cert reply = reply ≡ Written
IsAcceptedReply s (OpenGroup group) reply = reply ≡ Silent
IsAcceptedReply s CloseGroup reply = reply ≡ Silent
IsAcceptedReply s (Activate group) reply = reply ≡ Silent
IsAcceptedReply s (Deactivate group) reply = reply ≡ Silent
IsAcceptedReply s GroupCore reply = IsCoreReply reply

-- Which reply a command has, whose refusal has this number, if it is refused.
abbrev pub IsReplyFor : Option ℕ → Standing → Command → Reply → Type 0
IsReplyFor None s command reply = IsAcceptedReply s command reply
IsReplyFor (Some number) s command reply = reply ≡ Refused number

-- A reply with this text is sent: the text is written, or a front of it before a fault.
abbrev pub Sends : {S : Type 0} → (written flushed : S → Option (List ℕ)) → (S → ℕ)
    → (S → ℕ → Type 0) → Reply → Text → S → S → Result Reply SessionStop → Type 0
Sends written flushed faults has_room reply text old new (Ok sent) =
    (sent ≡ reply) × Wrote written flushed faults has_room old new text
Sends written flushed faults has_room reply text old new (Err (WriteFault told)) =
    (listed told ≡ told_by reply) × Stops written flushed faults has_room old new text
Sends written flushed faults has_room reply text old new (Err NoMemory) = ⊥

-- A refusal is sent by its number; one without a number is want of memory, and nothing is written.
abbrev pub Refuses : {S : Type 0} → (written flushed : S → Option (List ℕ)) → (S → ℕ) → (S → ℕ → Type 0) → Option ℕ
    → S → S → Result Reply SessionStop → Type 0
Refuses written flushed faults has_room (Some number) old new result =
    Sends written flushed faults has_room (Refused number) (refused_text number) old new result
Refuses written flushed faults has_room None old new result = (result ≡ Err NoMemory) × (new ≡ old)

-- A reply is answered where its line was written, and else, with what it tells, that this failed.
abbrev pub IsSent : {T E : Type 0} → Reply → Result T E → Result Reply SessionStop → Type 0
IsSent reply (Ok u) result = result ≡ Ok reply
IsSent reply (Err e) result = (told : Option Account) × (result ≡ Err (WriteFault told)) × (listed told ≡ told_by reply)

-- what is left where there is no memory for a command: a solve stops, and else nothing has changed
abbrev pub left_by : Command → Standing → Standing
left_by (ScopeCommand quant at) s = s
left_by (Var var scope) s = s
left_by (Clause lits) s = s
left_by Push s = s
left_by Pop s = s
left_by (Assume lit) s = s
left_by Solve s = stopped_at s
left_by (Value v) s = s
left_by Relevant s = s
left_by Trace s = s
left_by Cert s = s
left_by (OpenGroup group) s = s
left_by CloseGroup s = s
left_by (Activate group) s = s
left_by (Deactivate group) s = s
left_by GroupCore s = s

-- A command is replied to, and the reply is written; or a front of it is, before a fault; or there is no memory for one
-- that isn't refused, and nothing is written. `old` and `new` are the sink, by what sinks of its type tell.
abbrev pub StepsOf : {S : Type 0} → (written flushed : S → Option (List ℕ)) → (S → ℕ)
    → (S → ℕ → Type 0) → Terms → Command → Standing → S → S → EngineState → Result Reply SessionStop
    → Type 0
StepsOf written flushed faults has_room terms command s old new e (Ok reply) = (text : Text) × (after : Standing)
    × IsReply terms s command (record { text = text; stops = told_by reply }) after
    × IsReplyFor (refusal_number s command) s command reply × Wrote written flushed faults has_room old new text
    × Holds terms e after
StepsOf written flushed faults has_room terms command s old new e (Err (WriteFault told)) = (text : Text)
    × (after : Standing) × IsReply terms s command (record { text = text; stops = listed told }) after
    × Stops written flushed faults has_room old new text × Holds terms e after
StepsOf written flushed faults has_room terms command s old new e (Err NoMemory) =
    Wrote written flushed faults has_room old new [] × Holds terms e (left_by command s)
    × (refusal_number s command ≡ None)

-- A command asks for something of the verdict.
abbrev pub IsQuestion : Command → Type 0
IsQuestion (ScopeCommand quant at) = ⊥
IsQuestion (Var var scope) = ⊥
IsQuestion (Clause lits) = ⊥
IsQuestion Push = ⊥
IsQuestion Pop = ⊥
IsQuestion (Assume lit) = ⊥
IsQuestion Solve = ⊥
IsQuestion (Value v) = ⊤
IsQuestion Relevant = ⊤
IsQuestion Trace = ⊤
IsQuestion Cert = ⊤
IsQuestion (OpenGroup group) = ⊥
IsQuestion CloseGroup = ⊥
IsQuestion (Activate group) = ⊥
IsQuestion (Deactivate group) = ⊥
IsQuestion GroupCore = ⊤

-- A session is as it was, but that fewer long learned rows may be attached.
pub record IsAllButLong (old new : SessionState) : Type 0 where
  pub rest : new ≡ record old { engine = record old.engine { kept_long = new.engine.kept_long } }
  pub fewer : new.engine.kept_long ≤ old.engine.kept_long

-- What a command leaves of a session where there is no memory for it: all, but that `clause` and `activate` may have
-- let go of long learned rows. What a solve leaves, `left_by` says.
abbrev pub LeavesAtWant : Command → SessionState → SessionState → Type 0
LeavesAtWant (ScopeCommand quant at) old new = new ≡ old
LeavesAtWant (Var var scope) old new = new ≡ old
LeavesAtWant (Clause lits) old new = IsAllButLong old new
LeavesAtWant Push old new = new ≡ old
LeavesAtWant Pop old new = new ≡ old
LeavesAtWant (Assume lit) old new = new ≡ old
LeavesAtWant Solve old new = ⊤
LeavesAtWant (Value v) old new = new ≡ old
LeavesAtWant Relevant old new = new ≡ old
LeavesAtWant Trace old new = new ≡ old
LeavesAtWant Cert old new = new ≡ old
LeavesAtWant (OpenGroup group) old new = new ≡ old
LeavesAtWant CloseGroup old new = new ≡ old
LeavesAtWant (Activate group) old new = IsAllButLong old new
LeavesAtWant (Deactivate group) old new = new ≡ old
LeavesAtWant GroupCore old new = new ≡ old

-- A command of a script is replied to, and what the reply tells of a search that stopped is listed behind what was;
-- after a fault too. Without memory nothing is written or listed. `stops` is the list before and after.
abbrev pub Goes : {S : Type 0} → (written flushed : S → Option (List ℕ)) → (S → ℕ)
    → (S → ℕ → Type 0) → Terms → Command → Standing → S → S → EngineState
    → (stops : List Account × List Account) → Result (Unit {0}) Ending → Type 0
Goes written flushed faults has_room terms command s old new e stops (Ok u) = (out : Output) × (after : Standing)
    × IsReply terms s command out after × Wrote written flushed faults has_room old new out.text
    × (stops.1 ≡ stops.0 ++ out.stops) × Holds terms e after
Goes written flushed faults has_room terms command s old new e stops (Err EndsInFault) = (out : Output)
    × (after : Standing) × IsReply terms s command out after
    × Stops written flushed faults has_room old new out.text × (stops.1 ≡ stops.0 ++ out.stops)
Goes written flushed faults has_room terms command s old new e stops (Err EndsInWant) =
    Wrote written flushed faults has_room old new [] × (stops.1 ≡ stops.0)
Goes written flushed faults has_room terms command s old new e stops (Err (Done status)) = ⊥
Goes written flushed faults has_room terms command s old new e stops (Err (Malformed number line)) = ⊥
Goes written flushed faults has_room terms command s old new e stops (Err (Beyond quantity line)) = ⊥
Goes written flushed faults has_room terms command s old new e stops (Err (CheckLimit quantity)) = ⊥
Goes written flushed faults has_room terms command s old new e stops (Err Unreadable) = ⊥
