-- What is written where the certificate of a formula's verdict is checked: the formula that says that the circuit
-- loses, or what comes of deciding it.
use Rattle.std.specs.Prelude.{◌≡◌, ℕ, Bool, true, false, if◌then◌else◌, List, [], ◌++◌, codes, length, Option, Some, None, IfSome, Result, Ok, Err}
use Rattle.std.specs.Io.KnownBytes.{Appends, Keeps}
use Rattle.ports.specs.Bytes.{AppendsFront}
use Rattle.ports.specs.Writing.{Stops, Wrote}
use Rattle.truth.specs.declared.formula.Formula.{Formula}
use Rattle.truth.specs.Truth.{truth}
use Rattle.trail.specs.State.{Account}
use Rattle.search.specs.Counting.{size_of}
use Rattle.engine.specs.State.{EngineState}
use Rattle.reading.specs.declared.refusal.Quantity.{Quantity}
use Rattle.qdimacs.specs.Reads.{Reads}
use Rattle.qdimacs.specs.Rules.{parsed}
use Rattle.qdimacs_out.specs.Texts.{formula_text}
use Rattle.aig.specs.declared.strategy.Strategy.{Strategy}
use Rattle.aig.specs.Strategies.{IsStrategy}
use Rattle.aiger_out.specs.Aag.{IsAagText}
use Rattle.certcheck.specs.Building.{limit_of}
use Rattle.certcheck.specs.Check.{checked}
use Rattle.solve.specs.declared.answer.Answer.{Answer}
use Rattle.solve.specs.declared.answer.Answer.TheVariants.{Sat, Unsat, Unknown as Unanswered}
use Rattle.files.specs.declared.check.Outcome.{Outcome}
use Rattle.files.specs.declared.check.Outcome.TheVariants.{Unknown, Checked, Undecided, Beyond}
use Rattle.solve.specs.declared.ending.Ending.{Ending}
use Rattle.solve.specs.declared.ending.Ending.TheVariants.{Done, Refused, Limit, CheckLimit, ReadFault, WriteFault, NoMemory}
use Rattle.solve.specs.declared.decision.Decision.{Decision}
use Rattle.solve.specs.Feeding.{opened}
use Rattle.solve.specs.Decisions.{IsAnsweredBy, answer_with, unassumed, answered, told_by}
use Rattle.files.specs.Jobs.{Delivers, Fails, IsUntouched, gates_for}
use Rattle.solve.specs.Outputs.{Text}
use Rattle.solve.specs.Certificates.{Certifies}
use Rattle.solve.specs.Answers.{IsAnswerTo, IsShort, answer_line, answer_status}
use Rattle.solve.specs.Standing.{IsWitness, Standing, Witness}
use Rattle.solve.specs.Holding.{Holds}
use Rattle.solve.specs.Entries.{AddsEntry, IsStopAt}
use Rattle.solve.specs.Terms.{Terms}

-- the check formula of a circuit for a formula, under no assumption
abbrev pub check_of : Formula → Strategy → Formula
check_of f circuit = checked f.clauses [] circuit

-- The formula has this truth, and the circuit certifies it: as one does that is written as a certificate.
pub record HasCircuit (terms : Terms) (f : Formula) (value : Bool) (circuit : Strategy) : Type 0 where
  pub right : truth f.prefix f.clauses ≡ value
  pub strategy : IsStrategy circuit
  pub witness : Witness
  pub is_witness : IsWitness (opened f) (unassumed value) witness
  pub certifies : Certifies (opened f) (unassumed value) witness.values (gates_for terms f) circuit

-- A circuit that certifies the formula's truth has a check formula that is within the limits and false, and of which
-- this is so.
pub record OfCheck (terms : Terms) (f : Formula) (value : Bool) (P : Formula → Type 0) : Type 0 where
  pub circuit : Strategy
  pub certified : HasCircuit terms f value circuit
  pub within : limit_of (check_of f circuit) ≡ None
  pub unsatisfiable : truth (check_of f circuit).prefix (check_of f circuit).clauses ≡ false
  pub is : P (check_of f circuit)

-- what is written of the answer to a check formula, which is false or unknown
abbrev pub check_line : Answer → Text
check_line Sat = []
check_line Unsat = codes "WINS\n"
check_line Unanswered = codes "UNDECIDED\n"

-- what is written for a check formula: a line where it is to be decided, and is, and else its text
abbrev pub check_text : (decide : Bool) → Formula → Text
check_text decide g = if decide then check_line Unsat else formula_text g

-- The budget was spent before a verdict. That is told, with an entry for the search.
pub record IsUnknown (terms : Terms) (f : Formula) (stops : List Account × List Account) (text : Text) : Type 0 where
  pub short : IsShort terms f
  pub says : text ≡ answer_line Unanswered
  pub told : AddsEntry (IsStopAt terms (size_of f.prefix)) stops.0 stops.1 Unanswered

-- The check formula is to be decided, and a budget of its own was spent before. That is told, with an entry for the
-- search, which is over the variables of the check formula.
pub record IsUndecided (decide : Bool) (terms : Terms) (stops : List Account × List Account) (text : Text)
    (g : Formula) : Type 0 where
  pub asked : decide ≡ true
  pub short : IsShort terms g
  pub says : text ≡ check_line Unanswered
  pub told : AddsEntry (IsStopAt terms (size_of g.prefix)) stops.0 stops.1 Unanswered

-- the check formula is written, or it was decided
pub record IsCheckText (decide : Bool) (stops : List Account × List Account) (text : Text) (g : Formula) : Type 0 where
  pub says : text ≡ check_text decide g
  pub told : stops.1 ≡ stops.0

-- The check formula goes beyond this limit. The circuit is written in its place, as AIGER 1.9 in ASCII.
pub record IsBeyond (terms : Terms) (f : Formula) (quantity : Quantity) (stops : List Account × List Account)
    (text : Text) : Type 0 where
  pub value : Bool
  pub circuit : Strategy
  pub certified : HasCircuit terms f value circuit
  pub limit : limit_of (check_of f circuit) ≡ Some quantity
  pub denotes : IsAagText text circuit
  pub told : stops.1 ≡ stops.0

-- What a check of a formula comes to, and what it writes: `stops` is the list of what is told of searches that stopped,
-- before and after.
abbrev pub IsCheck : (decide : Bool) → Terms → Formula → (stops : List Account × List Account) → Outcome → Text
    → Type 0
IsCheck decide terms f stops Unknown text = IsUnknown terms f stops text
IsCheck decide terms f stops (Checked value) text = OfCheck terms f value (IsCheckText decide stops text)
IsCheck decide terms f stops Undecided text =
    (value : Bool) × OfCheck terms f value (IsUndecided decide terms stops text)
IsCheck decide terms f stops (Beyond quantity) text = IsBeyond terms f quantity stops text

-- The same of the formula of an input, whose text says it, where it is told.
pub record IsCheckOn (decide : Bool) (terms : Terms) (known : Option Text) (stops : List Account × List Account)
    (outcome : Outcome) (text : Text) : Type 0 where
  pub formula : Formula
  pub read : IfSome known (λ bytes. Reads bytes (parsed formula))
  pub is : IsCheck decide terms formula stops outcome text

-- The ending of a check: the status of the verdict where its check formula is written or decided.
abbrev pub check_ending : Outcome → Ending
check_ending Unknown = Done 0
check_ending (Checked value) = Done (answer_status (answer_with value))
check_ending Undecided = Done 0
check_ending (Beyond quantity) = CheckLimit quantity

-- A check came to its end.
abbrev pub IsFinished : Ending → Type 0
IsFinished (Done status) = Unit {0}
IsFinished (Refused number line) = ⊥
IsFinished (Limit quantity line) = ⊥
IsFinished (CheckLimit quantity) = Unit {0}
IsFinished ReadFault = ⊥
IsFinished WriteFault = ⊥
IsFinished NoMemory = ⊥

-- What a check leaves: its text on the output, or after a write fault a front of that, and else nothing. `written` is
-- what stood on the output and stands on it.
abbrev pub LeavesCheck : (decide : Bool) → Terms → (known : Option Text) → (written : Option Text × Option Text)
    → (stops : List Account × List Account) → Ending → Type 0
LeavesCheck decide terms known written stops (Done status) = (outcome : Outcome) × (text : Text)
    × (check_ending outcome ≡ Done status) × IsCheckOn decide terms known stops outcome text
    × Appends written.0 written.1 text
LeavesCheck decide terms known written stops (CheckLimit quantity) = (text : Text)
    × IsCheckOn decide terms known stops (Beyond quantity) text × Appends written.0 written.1 text
LeavesCheck decide terms known written stops WriteFault = (outcome : Outcome) × (text : Text)
    × IsCheckOn decide terms known stops outcome text × AppendsFront written.0 written.1 text
LeavesCheck decide terms known written stops (Refused number line) =
    Keeps written.0 written.1 × (stops.1 ≡ stops.0)
LeavesCheck decide terms known written stops (Limit quantity line) =
    Keeps written.0 written.1 × (stops.1 ≡ stops.0)
LeavesCheck decide terms known written stops ReadFault = Keeps written.0 written.1 × (stops.1 ≡ stops.0)
LeavesCheck decide terms known written stops NoMemory = Keeps written.0 written.1 × (stops.1 ≡ stops.0)

-- The output has room for each text that a check may write for the formula of an input.
abbrev pub RoomForCheck : (decide : Bool) → Terms → Option Text → (ℕ → Type 0) → Type 0
RoomForCheck decide terms known has_room = (stops : List Account × List Account) (outcome : Outcome) (text : Text)
    → IsCheckOn decide terms known stops outcome text → has_room (length text)

-- the ending of a check, or without one
abbrev pub ending_after : Result Outcome Ending → Ending
ending_after (Ok outcome) = check_ending outcome
ending_after (Err ending) = ending

-- an engine holds what commands came to that build the formula, and one solve, which had this right answer
pub record HasDecided (terms : Terms) (f : Formula) (answer : Answer) (e : EngineState) : Type 0 where
  pub standing : Standing
  pub holds : Holds terms e standing
  pub is : IsAnsweredBy f answer standing
  pub right : IsAnswerTo terms f answer

-- a decision by a search has a right answer, and tells of the search where it stopped
pub record IsFound (terms : Terms) (f : Formula) (decision : Decision) : Type 0 where
  pub right : IsAnswerTo terms f (answered decision)
  pub told : (before : List Account)
      → AddsEntry (IsStopAt terms (size_of f.prefix)) before (before ++ told_by decision) (answered decision)

-- what comes of a check formula of a verdict with this truth, which is written or decided
abbrev pub IsCheckReply : (decide : Bool) → Terms → Formula → (value : Bool) → (stops : List Account × List Account)
    → Outcome → Text → Type 0
IsCheckReply decide terms g value stops Unknown text = ⊥
IsCheckReply decide terms g value stops (Checked truth) text = (truth ≡ value) × IsCheckText decide stops text g
IsCheckReply decide terms g value stops Undecided text = IsUndecided decide terms stops text g
IsCheckReply decide terms g value stops (Beyond quantity) text = ⊥

-- by the answer to that formula
abbrev pub judged : Answer → Bool → Outcome
judged Sat value = Checked value
judged Unsat value = Checked value
judged Unanswered value = Undecided

-- A text of an outcome is written, or a front of it before a fault; or nothing, for want of memory.
abbrev pub WritesOutcome : {S : Type 0} → (written flushed : S → Option (List ℕ)) → (S → ℕ) → (S → ℕ → Type 0)
    → (IsText : Outcome → Text → Type 0) → S → S → (stops : List Account × List Account) → Result Outcome Ending
    → Type 0
WritesOutcome written flushed faults has_room IsText old new stops (Ok outcome) = (text : Text)
    × IsText outcome text × Wrote written flushed faults has_room old new text
WritesOutcome written flushed faults has_room IsText old new stops (Err WriteFault) = (outcome : Outcome)
    × (text : Text) × IsText outcome text × Stops written flushed faults has_room old new text
WritesOutcome written flushed faults has_room IsText old new stops (Err NoMemory) =
    IsUntouched written faults old new × (stops.1 ≡ stops.0)
WritesOutcome written flushed faults has_room IsText old new stops (Err (Done status)) = ⊥
WritesOutcome written flushed faults has_room IsText old new stops (Err (Refused number line)) = ⊥
WritesOutcome written flushed faults has_room IsText old new stops (Err (Limit quantity line)) = ⊥
WritesOutcome written flushed faults has_room IsText old new stops (Err (CheckLimit quantity)) = ⊥
WritesOutcome written flushed faults has_room IsText old new stops (Err ReadFault) = ⊥

-- The same, and all is flushed that was written.
abbrev pub SendsOutcome : {S : Type 0} → (written flushed : S → Option (List ℕ)) → (S → ℕ) → (S → ℕ → Type 0)
    → (IsText : Outcome → Text → Type 0) → S → S → (stops : List Account × List Account) → Result Outcome Ending
    → Type 0
SendsOutcome written flushed faults has_room IsText old new stops (Ok outcome) = (text : Text)
    × IsText outcome text × Delivers written flushed faults old new text
SendsOutcome written flushed faults has_room IsText old new stops (Err WriteFault) = (outcome : Outcome)
    × (text : Text) × IsText outcome text × Fails written faults has_room old new text
SendsOutcome written flushed faults has_room IsText old new stops (Err NoMemory) =
    IsUntouched written faults old new × (stops.1 ≡ stops.0)
SendsOutcome written flushed faults has_room IsText old new stops (Err (Done status)) = ⊥
SendsOutcome written flushed faults has_room IsText old new stops (Err (Refused number line)) = ⊥
SendsOutcome written flushed faults has_room IsText old new stops (Err (Limit quantity line)) = ⊥
SendsOutcome written flushed faults has_room IsText old new stops (Err (CheckLimit quantity)) = ⊥
SendsOutcome written flushed faults has_room IsText old new stops (Err ReadFault) = ⊥
