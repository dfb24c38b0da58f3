-- What is written for a formula that is decided, traced or certified.
use Rattle.std.specs.Prelude.{◌≡◌, ◌≤◌, ℕ, Bool, true, false, if◌then◌else◌, List, ◌++◌, length, codes, Option, IfSome, Result, Ok, Err, ⊤, []}
use Rattle.std.specs.Fmt.{decimal}
use Rattle.std.specs.List.{flat_map}
use Rattle.std.specs.Io.KnownBytes.{Appends, Keeps}
use Rattle.ports.specs.Bytes.{AllFlushed, AppendsFront}
use Rattle.ports.specs.Causes.{Rose}
use Rattle.prefix.specs.Literal.{Literal}
use Rattle.prefix.specs.Scopes.{Scope, quantifier_at}
use Rattle.prefix.specs.Sides.{is_of}
use Rattle.truth.specs.declared.formula.Formula.{Formula}
use Rattle.calculus.specs.Limits.{weight_bound}
use Rattle.trail.specs.State.{Account}
use Rattle.search.specs.Counting.{size_of}
use Rattle.engine.specs.Refusals.{winner_of}
use Rattle.qdimacs.specs.Rules.{parsed}
use Rattle.ports.specs.Writing.{Stops, Wrote}
use Rattle.solve.specs.declared.answer.Answer.{Answer}
use Rattle.solve.specs.declared.answer.Answer.TheVariants.{Sat, Unsat, Unknown}
use Rattle.solve.specs.declared.ending.Ending.{Ending}
use Rattle.solve.specs.declared.ending.Ending.TheVariants.{Done, Refused, Limit, CheckLimit, ReadFault, WriteFault, NoMemory}
use Rattle.files.specs.declared.job.Job.{Job}
use Rattle.files.specs.declared.file.Header.{Header}
use Rattle.files.specs.declared.job.Job.TheVariants.{Solve, Qdo, Qcir, Trace, Cert}
use Rattle.files.specs.Inputs.{Says, format_of}
use Rattle.solve.specs.Outputs.{Text, literal_number, verdict_text}
use Rattle.solve.specs.Traces.{IsTraceText}
use Rattle.solve.specs.Certificates.{IsCertificate}
use Rattle.solve.specs.Answers.{IsAnswerTo, answer_line}
use Rattle.files.specs.Solve.{OfAnswer}
use Rattle.solve.specs.Standing.{IsWitness, Witness}
use Rattle.solve.specs.Entries.{AddsEntry, IsStopAt}
use Rattle.solve.specs.Terms.{Terms}
use Rattle.solve.specs.Decisions.{answer_with, unassumed}
use Rattle.solve.specs.Feeding.{opened}

-- an answer as a number: 1 for true, 0 for false, -1 where it is unknown (QDIMACS 1.1, output format: solution line)
abbrev pub result_number : Answer → Text
result_number Sat = codes "1"
result_number Unsat = codes "0"
result_number Unknown = codes "-1"

-- `s cnf RESULT VARIABLES CLAUSES`, with the two numbers of the formula's header
abbrev pub solution_line : Answer → Formula → Text
solution_line answer f = codes "s cnf " ++ (result_number answer ++ (codes " " ++ (decimal f.declared_vars ++ (codes " "
    ++ (decimal f.declared_clauses ++ codes "\n")))))

-- `V LITERAL 0` (QDIMACS 1.1, output format: certificate)
abbrev pub value_line : Literal → Text
value_line l = codes "V " ++ (literal_number l ++ codes " 0\n")

-- a line for each value of the first scope, where this is the winner's
abbrev pub value_lines : List Scope → Bool → List Literal → Text
value_lines scopes truth values =
    if is_of (quantifier_at scopes 1) (winner_of truth) then flat_map value_line values else []

-- how many gates a circuit for the formula may have, after one solve
abbrev pub gates_for : Terms → Formula → ℕ
gates_for terms f = weight_bound (length f.clauses) 1 terms.budget terms.greatest (size_of f.prefix)

-- The text of a job for a verdict with this witness: its line; the lines of its result, with the values of the first
-- scope; the trace of its proof; or its certificate, in one of the two forms and trimmed or not, in which outputs of
-- the first scope have these values.
abbrev pub IsVerdictText : Job → Terms → Formula → Bool → Witness → Text → Type 0
IsVerdictText Solve terms f truth witness text = text ≡ verdict_text truth
IsVerdictText Qdo terms f truth witness text =
    text ≡ solution_line (answer_with truth) f ++ value_lines f.prefix truth witness.values
IsVerdictText Qcir terms f truth witness text = text ≡ verdict_text truth
IsVerdictText Trace terms f truth witness text = IsTraceText f.prefix truth witness.proof text
IsVerdictText (Cert binary trim) terms f truth witness text =
    IsCertificate binary trim (opened f) (unassumed truth) witness.values (gates_for terms f) text

-- the same with some witness
pub record HasVerdictText (job : Job) (terms : Terms) (f : Formula) (truth : Bool) (text : Text) : Type 0 where
  pub witness : Witness
  pub is_witness : IsWitness (opened f) (unassumed truth) witness
  pub says : IsVerdictText job terms f truth witness text

-- the text of a job where the answer is unknown
abbrev pub unknown_text : Job → Formula → Text
unknown_text Solve f = answer_line Unknown
unknown_text Qdo f = solution_line Unknown f
unknown_text Qcir f = answer_line Unknown
unknown_text Trace f = answer_line Unknown
unknown_text (Cert binary trim) f = answer_line Unknown

-- The text of a job for an answer to a formula.
abbrev pub IsJobText : Job → Terms → Formula → Answer → Text → Type 0
IsJobText job terms f Sat text = HasVerdictText job terms f true text
IsJobText job terms f Unsat text = HasVerdictText job terms f false text
IsJobText job terms f Unknown text = text ≡ unknown_text job f

-- The reply of a job to a formula: a right answer, its text, and one more entry of what a search tells that stopped
-- where the answer is unknown. `stops` is the list of entries before and after.
pub record IsReplyTo (job : Job) (terms : Terms) (f : Formula) (stops : List Account × List Account) (answer : Answer)
    (text : Text) : Type 0 where
  pub right : IsAnswerTo terms f answer
  pub says : IsJobText job terms f answer text
  pub told : AddsEntry (IsStopAt terms (size_of f.prefix)) stops.0 stops.1 answer

-- The same to the formula of an input, whose text says it, where it is told.
pub record IsReplyOn (job : Job) (terms : Terms) (known : Option Text) (stops : List Account × List Account)
    (answer : Answer) (text : Text) : Type 0 where
  pub formula : Formula
  pub read : IfSome known (λ bytes. Says (format_of job) bytes (parsed formula))
  pub reply : IsReplyTo job terms formula stops answer text

-- What the work on an input leaves: its reply on the output, or after a write fault a front of that, and else nothing.
-- `written` is what stood on the output and stands on it.
abbrev pub LeavesOutput : Job → Terms → (known : Option Text) → (written : Option Text × Option Text)
    → (stops : List Account × List Account) → Ending → Type 0
LeavesOutput job terms known written stops (Done status) = OfAnswer status (λ answer. (text : Text)
    × IsReplyOn job terms known stops answer text × Appends written.0 written.1 text)
LeavesOutput job terms known written stops WriteFault = (answer : Answer) × (text : Text)
    × IsReplyOn job terms known stops answer text × AppendsFront written.0 written.1 text
LeavesOutput job terms known written stops (Refused number line) =
    Keeps written.0 written.1 × (stops.1 ≡ stops.0)
LeavesOutput job terms known written stops (Limit quantity line) =
    Keeps written.0 written.1 × (stops.1 ≡ stops.0)
LeavesOutput job terms known written stops (CheckLimit quantity) = ⊥
LeavesOutput job terms known written stops ReadFault = Keeps written.0 written.1 × (stops.1 ≡ stops.0)
LeavesOutput job terms known written stops NoMemory = Keeps written.0 written.1 × (stops.1 ≡ stops.0)

-- The output has room for each text that a job may write for the formula of an input.
abbrev pub RoomForJob : Job → Terms → Option Text → (ℕ → Type 0) → Type 0
RoomForJob job terms known has_room = (f : Formula) (answer : Answer) (text : Text)
    → IfSome known (λ bytes. Says (format_of job) bytes (parsed f)) → IsAnswerTo terms f answer
    → IsJobText job terms f answer text → has_room (length text)

-- the numbers of a formula's header
pub record IsHeaderOf (f : Formula) (header : Header) : Type 0 where
  pub vars : header.vars ≡ f.declared_vars
  pub clauses : header.clauses ≡ f.declared_clauses

-- there is a verdict
abbrev pub HasVerdict : Answer → Type 0
HasVerdict Sat = ⊤
HasVerdict Unsat = ⊤
HasVerdict Unknown = ⊥

-- The text of a job is written, or a front of it before a fault; or nothing, for want of memory to tell of a verdict.
abbrev pub WritesJob : {S : Type 0} → (written flushed : S → Option (List ℕ)) → (S → ℕ) → (S → ℕ → Type 0) → Job
    → Terms → Formula → Answer → S → S → Result (Unit {0}) Ending → Type 0
WritesJob written flushed faults has_room job terms f answer old new (Ok u) = (text : Text)
    × IsJobText job terms f answer text × Wrote written flushed faults has_room old new text
WritesJob written flushed faults has_room job terms f answer old new (Err WriteFault) = (text : Text)
    × IsJobText job terms f answer text × Stops written flushed faults has_room old new text
WritesJob written flushed faults has_room job terms f answer old new (Err NoMemory) =
    HasVerdict answer × Wrote written flushed faults has_room old new []
WritesJob written flushed faults has_room job terms f answer old new (Err (Done status)) = ⊥
WritesJob written flushed faults has_room job terms f answer old new (Err (Refused number line)) = ⊥
WritesJob written flushed faults has_room job terms f answer old new (Err (Limit quantity line)) = ⊥
WritesJob written flushed faults has_room job terms f answer old new (Err (CheckLimit quantity)) = ⊥
WritesJob written flushed faults has_room job terms f answer old new (Err ReadFault) = ⊥

-- a text was written, and all that is written was flushed
pub record Delivers {S : Type 0} (written flushed : S → Option (List ℕ)) (faults : S → ℕ) (old new : S) (text : Text)
    : Type 0 where
  pub appended : Appends (written old) (written new) text
  pub all_flushed : AllFlushed (written new) (flushed old) (flushed new)
  pub no_fault : faults new ≡ faults old

-- a front of a text was written, and then a fault came, for which there was no cause where there was room
pub record Fails {S : Type 0} (written : S → Option (List ℕ)) (faults : S → ℕ) (has_room : S → ℕ → Type 0)
    (old new : S) (text : Text) : Type 0 where
  pub front : AppendsFront (written old) (written new) text
  pub later : faults old ≤ faults new
  pub rose : Rose (faults old) (faults new)
  pub no_room : has_room old (length text) → ⊥

-- nothing was written
pub record IsUntouched {S : Type 0} (written : S → Option (List ℕ)) (faults : S → ℕ) (old new : S) : Type 0 where
  pub kept : Keeps (written old) (written new)
  pub no_fault : faults new ≡ faults old

-- A job is replied to, and all is flushed; or a front of the reply is written, before a fault; or there is no memory.
abbrev pub RepliesTo : {S : Type 0} → (written flushed : S → Option (List ℕ)) → (S → ℕ)
    → (S → ℕ → Type 0) → Job → Terms → Formula → S → S → (stops : List Account × List Account)
    → Result Answer Ending → Type 0
RepliesTo written flushed faults has_room job terms f old new stops (Ok answer) = (text : Text)
    × IsReplyTo job terms f stops answer text × Delivers written flushed faults old new text
RepliesTo written flushed faults has_room job terms f old new stops (Err WriteFault) = (answer : Answer)
    × (text : Text) × IsReplyTo job terms f stops answer text × Fails written faults has_room old new text
RepliesTo written flushed faults has_room job terms f old new stops (Err NoMemory) =
    IsUntouched written faults old new × (stops.1 ≡ stops.0)
RepliesTo written flushed faults has_room job terms f old new stops (Err (Done status)) = ⊥
RepliesTo written flushed faults has_room job terms f old new stops (Err (Refused number line)) = ⊥
RepliesTo written flushed faults has_room job terms f old new stops (Err (Limit quantity line)) = ⊥
RepliesTo written flushed faults has_room job terms f old new stops (Err (CheckLimit quantity)) = ⊥
RepliesTo written flushed faults has_room job terms f old new stops (Err ReadFault) = ⊥
