-- The replies that commands may have.
use Rattle.std.specs.Prelude.{◌≡◌, ◌⊎◌, ℕ, ◌<◌, not, false, Bool, if◌then◌else◌, List, ◌∷◌, ◌++◌, codes, Option, Some, None, IfSome, unwrap_or, []}
use Rattle.std.specs.Fmt.{decimal}
use Rattle.std.specs.List.{flat_map}
use Rattle.std.specs.Option.{option_and_then}
use Rattle.prefix.specs.Literal.{Literal}
use Rattle.prefix.specs.Sides.{is_of}
use Rattle.prefix.specs.Scopes.{Scope, quantifier_at}
use Rattle.steps.specs.Counter.{step_limit}
use Rattle.truth.specs.Truth.{assumed_value}
use Rattle.calculus.specs.Derivations.{Inference}
use Rattle.calculus.specs.Rows.{Row}
use Rattle.calculus.specs.Verdicts.{relevant_of}
use Rattle.trail.specs.State.{Account}
use Rattle.frames.specs.Commands.{Activate as ActivateGroup, AddClause, AddScope, AddVariable, Assume as AssumeLiteral, CloseGroup as CloseFrames, Command as FrameCommand, Deactivate as DeactivateGroup, OpenGroup as OpenFrames, Pop as PopFrame, Push as PushFrame, refusal_of}
use Rattle.frames.specs.Fold.{Given, state_after}
use Rattle.frames.specs.Refusal.{number_of}
use Rattle.frames.specs.State.{OpenFormula}
use Rattle.qrp_trace.specs.Texts.{literal_word, number_word}
use Rattle.search.specs.Counting.{size_of}
use Rattle.engine.specs.Cores.{HasCore, core_of}
use Rattle.engine.specs.Refusals.{is_outermost, winner_of}
use Rattle.qscript.specs.declared.command.Command.{Command}
use Rattle.qscript.specs.declared.command.Command.TheVariants.{Scope as ScopeCommand, Var, Clause, Push, Pop, Assume, Solve, Value, Relevant, Trace, Cert, OpenGroup, CloseGroup, Activate, Deactivate, GroupCore}
use Rattle.solve.specs.Standing.{Standing, start}
use Rattle.solve.specs.Entries.{IsStopAt}
use Rattle.solve.specs.Terms.{Terms}
use Rattle.solve.specs.Outputs.{Text, Output, says, literal_number}
use Rattle.solve.specs.Decisions.{IsSolved}
use Rattle.solve.specs.Traces.{IsTraceText}
use Rattle.solve.specs.Certificates.{IsCertText, gates_after}

-- one output behind another
abbrev pub joined : Output → Output → Output
joined first second = record { text = first.text ++ second.text; stops = first.stops ++ second.stops }

-- why a command is refused, by the number that its reply tells

-- without a verdict, or where a change came after it
abbrev pub no_verdict : Option Given → Option ℕ
no_verdict None = Some 50
no_verdict (Some given) = None

-- a variable that isn't in the first scope, then a first scope that isn't the winner's
abbrev pub no_first : List Scope → Bool → ℕ → Option ℕ
no_first scopes truth v =
    if not (is_outermost scopes v) then Some 51
    else if not (is_of (quantifier_at scopes 1) (winner_of truth)) then Some 52
    else None

abbrev pub no_value : List Scope → Option Given → ℕ → Option ℕ
no_value scopes None v = Some 50
no_value scopes (Some given) v = no_first scopes given.truth v

-- without a verdict, or where it is that the formula is true
abbrev pub no_core : Option Given → Option ℕ
no_core None = Some 50
no_core (Some given) = if given.truth then Some 53 else None

-- by the fold over commands
abbrev pub no_change : OpenFormula → FrameCommand → Option ℕ
no_change formula command = option_and_then number_of (refusal_of formula command)

abbrev pub refusal_number : Standing → Command → Option ℕ
refusal_number s (ScopeCommand quant at) = no_change s.script.formula (AddScope quant at)
refusal_number s (Var var scope) = no_change s.script.formula (AddVariable var scope)
refusal_number s (Clause lits) = no_change s.script.formula (AddClause lits)
refusal_number s Push = no_change s.script.formula PushFrame
refusal_number s Pop = no_change s.script.formula PopFrame
refusal_number s (Assume lit) = no_change s.script.formula (AssumeLiteral lit)
refusal_number s Solve = None
refusal_number s (Value v) = no_value s.script.formula.scopes s.script.verdict v
refusal_number s Relevant = no_verdict s.script.verdict
refusal_number s Trace = no_verdict s.script.verdict
refusal_number s Cert = no_verdict s.script.verdict
refusal_number s (OpenGroup group) = no_change s.script.formula (OpenFrames group)
refusal_number s CloseGroup = no_change s.script.formula CloseFrames
refusal_number s (Activate group) = no_change s.script.formula (ActivateGroup group)
refusal_number s (Deactivate group) = no_change s.script.formula (DeactivateGroup group)
refusal_number s GroupCore = no_core s.script.verdict

-- the texts of replies

abbrev pub refused_text : ℕ → Text
refused_text number = codes "refused " ++ (decimal number ++ codes "\n")

abbrev pub value_text : Literal → Text
value_text l = codes "value " ++ (literal_number l ++ codes "\n")

abbrev pub relevant_text : List Literal → Text
relevant_text lits = codes "relevant " ++ (flat_map literal_word lits ++ codes "0\n")

-- the numbers of groups, and a 0
abbrev pub core_text : List ℕ → Text
core_text groups = codes "core " ++ (flat_map number_word groups ++ codes "0\n")

-- the row that a proof ends in
abbrev pub last_row : List Inference → Row
last_row [] = []
last_row (s ∷ []) = s.row
last_row (s ∷ t ∷ steps) = last_row (t ∷ steps)

-- the first-scope value of a variable, as a literal
abbrev pub value_in : List Literal → ℕ → Literal
value_in values v = record { variable = v; positive = unwrap_or (assumed_value values v) false }

-- what an accepted command may reply

-- A change of the formula has no reply.
pub record Changes (s : Standing) (command : FrameCommand) (out : Output) (after : Standing) : Type 0 where
  pub silent : out ≡ says []
  pub state : after ≡ record s { script = state_after s.script command }

-- A question of the verdict is replied to by such a text, and changes nothing.
pub record Tells (s : Standing) (IsTold : Given → Text → Type 0) (out : Output) (after : Standing) : Type 0 where
  pub text : Text
  pub told : IfSome s.script.verdict (λ given. IsTold given text)
  pub says_text : out ≡ says text
  pub same : after ≡ s

-- The core is that of the verdict's assumptions: the clauses outside groups are false with those of its groups, and
-- true with those of all but any one of them. Nothing changes.
pub record TellsCore (s : Standing) (out : Output) (after : Standing) : Type 0 where
  pub told : IfSome s.script.verdict (λ given.
      (out ≡ says (core_text (core_of s.script.formula given.assumptions)))
      × HasCore s.script.formula given.assumptions)
  pub same : after ≡ s

-- Without a core the budget is below the step limit of the formula's variables, and a search over these stopped at it.
-- Nothing changes: the verdict stays.
pub record GivesUpCore (terms : Terms) (s : Standing) (out : Output) (after : Standing) : Type 0 where
  pub stopped : Account
  pub short : terms.budget < step_limit terms.restarts (size_of s.script.formula.scopes)
  pub stop : IsStopAt terms (size_of s.script.formula.scopes) stopped
  pub says_unknown : out ≡ record { text = codes "UNKNOWN\n"; stops = stopped ∷ [] }
  pub same : after ≡ s

abbrev pub IsAccepted : Terms → Standing → Command → Output → Standing → Type 0
IsAccepted terms s (ScopeCommand quant at) out after = Changes s (AddScope quant at) out after
IsAccepted terms s (Var var scope) out after = Changes s (AddVariable var scope) out after
IsAccepted terms s (Clause lits) out after = Changes s (AddClause lits) out after
IsAccepted terms s Push out after = Changes s PushFrame out after
IsAccepted terms s Pop out after = Changes s PopFrame out after
IsAccepted terms s (Assume lit) out after = Changes s (AssumeLiteral lit) out after
IsAccepted terms s Solve out after = IsSolved terms s out after
IsAccepted terms s (Value v) out after =
    Tells s (λ given text. text ≡ value_text (value_in s.witness.values v)) out after
IsAccepted terms s Relevant out after =
    Tells s (λ given text. text ≡ relevant_text (relevant_of given.assumptions (last_row s.witness.proof))) out after
IsAccepted terms s Trace out after =
    Tells s (λ given text. IsTraceText s.script.formula.scopes given.truth s.witness.proof text) out after
IsAccepted terms s Cert out after =
    Tells s (λ given text. IsCertText s.script.formula given s.witness.values (gates_after terms s.script) text) out
    after
IsAccepted terms s (OpenGroup group) out after = Changes s (OpenFrames group) out after
IsAccepted terms s CloseGroup out after = Changes s CloseFrames out after
IsAccepted terms s (Activate group) out after = Changes s (ActivateGroup group) out after
IsAccepted terms s (Deactivate group) out after = Changes s (DeactivateGroup group) out after
IsAccepted terms s GroupCore out after = TellsCore s out after ⊎ GivesUpCore terms s out after

-- A refused command says its number, and changes nothing.
abbrev pub IsReplyWith : Option ℕ → Terms → Standing → Command → Output → Standing → Type 0
IsReplyWith None terms s command out after = IsAccepted terms s command out after
IsReplyWith (Some number) terms s command out after = (out ≡ says (refused_text number)) × (after ≡ s)

-- What a command may reply where others came to a standing, on these terms for each solve, and what it comes to then.
abbrev pub IsReply : Terms → Standing → Command → Output → Standing → Type 0
IsReply terms s command out after = IsReplyWith (refusal_number s command) terms s command out after

-- What commands in a row may reply from a standing on, and what they come to.
abbrev pub Leads : Terms → Standing → List Command → Output → Standing → Type 0
Leads terms s [] out after = (out ≡ says []) × (after ≡ s)
Leads terms s (command ∷ commands) out after = (first rest : Output) × (next : Standing)
    × (out ≡ joined first rest) × IsReply terms s command first next × Leads terms next commands rest after

-- What the commands of a script may reply.
abbrev pub AllowedReplies : Terms → List Command → Output → Type 0
AllowedReplies terms commands out = (after : Standing) × Leads terms start commands out after
