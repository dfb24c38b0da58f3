-- Worked values: what commands on scopes and frames come to.
use Rattle.std.specs.Prelude.{◌≡◌, ℕ, pos, negsuc, true, false, List, [], ◌∷◌, ◌++◌, length, Option, Some, None}
use Rattle.prefix.specs.declared.quant.Quant.TheVariants.{Exists, Forall}
use Rattle.prefix.specs.declared.refusal.PrefixRefusal.TheVariants.{VarTwice, VarRange, ScopeRange}
use Rattle.prefix.specs.Literal.{Literal}
use Rattle.prefix.specs.Scopes.{Scope}
use Rattle.versions.specs.declared.version.Version.{Version}
use Rattle.versions.specs.declared.version.Version.TheVariants.{One, Two, Three}
use Rattle.frames.specs.declared.refusal.FrameRefusal.{FrameRefusal}
use Rattle.frames.specs.declared.refusal.FrameRefusal.TheVariants.{Prefix, NoFrame, UnknownVar, AssumeScope, AssumeClash, AssumptionsHeld}
use Rattle.calculus.specs.Rows.{Row}
use Rattle.frames.specs.State.{Frame, OpenFormula, depth, empty_frame, literals_in, open_clauses, variables_on_top}
use Rattle.frames.specs.Commands.{Command, AddScope, AddVariable, AddClause, Push, Pop, Assume, Solve, Verdict, Stop, is_beyond, max_pushed, refusal_of}
use Rattle.truth.specs.Limits.{max_clauses, max_literals}
use Rattle.frames.specs.Fold.{script_in, state_from, state_of}

-- a variable as a literal
abbrev pub plus : ℕ → Literal
plus v = record { variable = v; positive = true }

-- its negation
abbrev pub minus : ℕ → Literal
minus v = record { variable = v; positive = false }

-- 1 is existential and outermost, 2 universal
abbrev pub two_scopes : List Command
two_scopes = AddScope Exists None ∷ AddVariable 1 1 ∷ AddScope Forall None ∷ AddVariable 2 2 ∷ []

-- with the clause 1 1, then a pushed frame with the clause -1 2 and the tautology 1 -1
abbrev pub framed : List Command
framed = two_scopes
    ++ AddClause (pos 1 ∷ pos 1 ∷ [])
    ∷ Push
    ∷ AddClause (negsuc 0 ∷ pos 2 ∷ [])
    ∷ AddClause (pos 1 ∷ negsuc 0 ∷ [])
    ∷ []

-- with the clause 1, a frame that is pushed and popped, and 1 assumed twice
abbrev pub assumed : List Command
assumed = two_scopes
    ++ AddClause (pos 1 ∷ [])
    ∷ Push
    ∷ AddClause (negsuc 0 ∷ [])
    ∷ Pop
    ∷ Assume (pos 1)
    ∷ Assume (pos 1)
    ∷ []

abbrev pub solved : List Command
solved = AddScope Exists None ∷ AddVariable 1 1 ∷ Assume (negsuc 0) ∷ Solve Stop ∷ Solve (Verdict true) ∷ []

abbrev pub changed : List Command
changed = AddScope Exists None ∷ AddVariable 1 1 ∷ Solve (Verdict true) ∷ Pop ∷ Push ∷ []

-- a frame with these clauses, with which no variable leaves
abbrev pub standing : List Row → Frame
standing clauses = record { clauses = clauses; variables = [] }

abbrev pub refused_after : List Command → Command → Option FrameRefusal
refused_after commands command = refusal_of (state_of commands).formula command

pub record WorkedCommands : Type 0 where
  -- clauses by frame, without the tautology and with the repeat once
  pub frames : (state_of framed).formula.frames
      ≡ standing ((plus 1 ∷ []) ∷ []) ∷ standing ((minus 1 ∷ plus 2 ∷ []) ∷ []) ∷ []
  pub opened : open_clauses (state_of framed).formula ≡ (plus 1 ∷ []) ∷ (minus 1 ∷ plus 2 ∷ []) ∷ []
  pub pushed : depth (state_of framed).formula.frames ≡ 1
  pub literals : literals_in (open_clauses (state_of framed).formula) ≡ 3
  -- a tautology counts as an accepted clause
  pub accepted : (state_of framed).clauses ≡ 3
  pub popped : (state_of assumed).formula.frames ≡ standing ((plus 1 ∷ []) ∷ []) ∷ []
  pub once : (state_of assumed).formula.assumptions ≡ plus 1 ∷ []
  -- refusals, in their order
  pub no_frame : refused_after two_scopes Pop ≡ Some NoFrame
  pub zero : refused_after two_scopes (AddClause (pos 0 ∷ [])) ≡ Some UnknownVar
  pub unknown : refused_after two_scopes (Assume (pos 3)) ≡ Some UnknownVar
  pub inner : refused_after two_scopes (Assume (pos 2)) ≡ Some AssumeScope
  pub clash : refused_after assumed (Assume (negsuc 0)) ≡ Some AssumeClash
  pub held_first : refused_after assumed (AddVariable 1 1) ≡ Some AssumptionsHeld
  pub held : refused_after assumed (AddScope Exists (Some 9)) ≡ Some AssumptionsHeld
  pub twice : refused_after two_scopes (AddVariable 1 1) ≡ Some (Prefix VarTwice)
  pub range : refused_after two_scopes (AddVariable 0 9) ≡ Some (Prefix VarRange)
  pub no_scope : refused_after two_scopes (AddVariable 3 9) ≡ Some (Prefix ScopeRange)
  -- a stop keeps the assumptions, a verdict empties them
  pub verdict : (state_of solved).verdict ≡ Some (record { truth = true; assumptions = minus 1 ∷ [] })
  pub emptied : (state_of solved).formula.assumptions ≡ []
  pub solves : (state_of solved).solves ≡ 2
  pub greatest : (state_of solved).greatest ≡ 1
  -- a refused pop is no change, a push is
  pub removed : (state_of changed).verdict ≡ None

-- a variable that is added above frame 0, and named by a clause
abbrev pub above : List Command
above = AddScope Exists None ∷ Push ∷ AddVariable 1 1 ∷ AddClause (negsuc 0 ∷ []) ∷ []

-- the same variable, assumed
abbrev pub assumed_above : List Command
assumed_above = AddScope Exists None ∷ Push ∷ AddVariable 1 1 ∷ Assume (pos 1) ∷ []

-- two pushed frames, each with a clause and with variables of both scopes; one variable of each frame is assumed
abbrev pub nested : List Command
nested = AddScope Exists None
    ∷ AddScope Forall None
    ∷ AddVariable 4 1
    ∷ Push
    ∷ AddVariable 3 1
    ∷ AddVariable 1 2
    ∷ AddClause (pos 4 ∷ negsuc 2 ∷ [])
    ∷ Push
    ∷ AddVariable 6 1
    ∷ AddVariable 5 2
    ∷ AddVariable 2 1
    ∷ AddClause (pos 2 ∷ pos 3 ∷ pos 5 ∷ [])
    ∷ Assume (pos 4)
    ∷ Assume (pos 3)
    ∷ Assume (pos 2)
    ∷ []

-- what commands come to in a version
abbrev pub formula_by : Version → List Command → OpenFormula
formula_by version commands = (state_from (script_in version) commands).formula

-- a scope of each quantifier
abbrev pub two_of : List ℕ → List ℕ → List Scope
two_of outer inner =
    record { quantifier = Exists; variables = outer } ∷ record { quantifier = Forall; variables = inner } ∷ []

pub record WorkedVersions : Type 0 where
  -- In version 2 a variable leaves with its frame, so that its number may be added again; in version 1 it stays.
  pub leaves : variables_on_top (formula_by Two above) ≡ 1 ∷ []
  pub gone : (formula_by Two (above ++ Pop ∷ [])).scopes ≡ record { quantifier = Exists; variables = [] } ∷ []
  pub again : refusal_of (formula_by Two (above ++ Pop ∷ [])) (AddVariable 1 1) ≡ None
  pub stays : variables_on_top (formula_by One above) ≡ []
  pub there : (formula_by One (above ++ Pop ∷ [])).scopes ≡ record { quantifier = Exists; variables = 1 ∷ [] } ∷ []
  pub twice : refusal_of (formula_by One (above ++ Pop ∷ [])) (AddVariable 1 1) ≡ Some (Prefix VarTwice)
  -- version 3 is in this as version 2
  pub third_leaves : variables_on_top (formula_by Three above) ≡ 1 ∷ []
  pub third_gone : (formula_by Three (above ++ Pop ∷ [])).scopes ≡ record { quantifier = Exists; variables = [] } ∷ []
  -- the assumption over it goes with it, or stays
  pub dropped : (formula_by Two (assumed_above ++ Pop ∷ [])).assumptions ≡ []
  pub free : refusal_of (formula_by Two (assumed_above ++ Pop ∷ [])) (AddVariable 1 1) ≡ None
  pub kept : (formula_by One (assumed_above ++ Pop ∷ [])).assumptions ≡ plus 1 ∷ []
  pub held : refusal_of (formula_by One (assumed_above ++ Pop ∷ [])) (AddVariable 1 1) ≡ Some AssumptionsHeld
  -- frames one within the other: each takes its own variables along, in the order in which they came
  pub frames : (formula_by Two nested).frames ≡ empty_frame
      ∷ record { clauses = (minus 3 ∷ plus 4 ∷ []) ∷ []; variables = 3 ∷ 1 ∷ [] }
      ∷ record { clauses = (plus 2 ∷ plus 3 ∷ plus 5 ∷ []) ∷ []; variables = 6 ∷ 5 ∷ 2 ∷ [] }
      ∷ []
  pub all : (formula_by Two nested).scopes ≡ two_of (2 ∷ 3 ∷ 4 ∷ 6 ∷ []) (1 ∷ 5 ∷ [])
  pub one_less : (formula_by Two (nested ++ Pop ∷ [])).scopes ≡ two_of (3 ∷ 4 ∷ []) (1 ∷ [])
  pub one_left : (formula_by Two (nested ++ Pop ∷ [])).assumptions ≡ plus 3 ∷ plus 4 ∷ []
  pub one_clause : open_clauses (formula_by Two (nested ++ Pop ∷ [])) ≡ (minus 3 ∷ plus 4 ∷ []) ∷ []
  pub next : variables_on_top (formula_by Two (nested ++ Pop ∷ [])) ≡ 3 ∷ 1 ∷ []
  pub two_less : (formula_by Two (nested ++ Pop ∷ Pop ∷ [])).scopes ≡ two_of (4 ∷ []) []
  pub two_left : (formula_by Two (nested ++ Pop ∷ Pop ∷ [])).assumptions ≡ plus 4 ∷ []
  pub none_next : variables_on_top (formula_by Two (nested ++ Pop ∷ Pop ∷ [])) ≡ []
  pub all_stay : (formula_by One (nested ++ Pop ∷ Pop ∷ [])).scopes ≡ two_of (2 ∷ 3 ∷ 4 ∷ 6 ∷ []) (1 ∷ 5 ∷ [])
  pub all_assumed : (formula_by One (nested ++ Pop ∷ Pop ∷ [])).assumptions ≡ plus 2 ∷ plus 3 ∷ plus 4 ∷ []

-- the limits, and rows that meet them exactly: the last one of a number of literals, and one literal more; beside a row
-- of two literals; the last one by the number of rows, and one row more
pub record WorkedLimits : Type 0 where
  pub pushed : max_pushed ≡ 65536
  pub clauses : max_clauses ≡ 16777216
  pub literals : max_literals ≡ 268435456
  pub last_literal : is_beyond [] 268435456 ≡ false
  pub one_literal_more : is_beyond [] 268435457 ≡ true
  pub last_beside_two : is_beyond ((plus 1 ∷ plus 2 ∷ []) ∷ []) 268435454 ≡ false
  pub more_beside_two : is_beyond ((plus 1 ∷ plus 2 ∷ []) ∷ []) 268435455 ≡ true
  pub last_row : (rows : List Row) → length rows ≡ 16777215 → literals_in rows ≡ 268435450 → is_beyond rows 6 ≡ false
  pub one_row_more : (rows : List Row) → length rows ≡ 16777216 → is_beyond rows 0 ≡ true
