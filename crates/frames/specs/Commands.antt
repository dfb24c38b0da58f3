-- Commands: what each is refused for, and what it does where it is accepted.
use Rattle.std.specs.Prelude.{ℕ, ◌+◌, ◌-◌, ℤ, nat_abs, Bool, true, false, not, ◌&&◌, ◌||◌, ◌==◌, nat_lt, nat_le, if◌then◌else◌, List, [], ◌∷◌, length, Option, Some, None, is_none, is_some, unwrap_or}
use Rattle.std.specs.List.{list_all}
use Rattle.prefix.specs.declared.quant.Quant.{Quant}
use Rattle.prefix.specs.declared.refusal.PrefixRefusal.{PrefixRefusal}
use Rattle.prefix.specs.Literal.{Literal}
use Rattle.prefix.specs.Scopes.{Scope, level_of, with_scope, with_variable_at}
use Rattle.prefix.specs.Refusals.{scope_refusal, variable_refusal}
use Rattle.truth.specs.Truth.{assumed_value}
use Rattle.clauses.specs.Clause.{is_tautology, as_row, variables_of}
use Rattle.calculus.specs.Rows.{Row}
use Rattle.frames.specs.declared.refusal.FrameRefusal.{FrameRefusal}
use Rattle.frames.specs.declared.refusal.FrameRefusal.TheVariants.{NoFrame, UnknownVar, AssumeScope, AssumeClash, AssumptionsHeld, Limit, GroupOpen, GroupRange, NoGroup, GroupFrame}
use Rattle.frames.specs.Refusal.{refusal_for}
use Rattle.frames.specs.Groups.{is_group, may_number, with_clause_at, with_group, with_mark}
use Rattle.frames.specs.State.{OpenFormula, all_clauses, depth, variables_on_top, literals_in, with_row, with_variable, pushed, popped, without_variables, without_assumed, literal_from, put_assumption, is_positive}
use Rattle.truth.specs.Limits.{max_clauses, max_literals}

-- how a decision of the formula ended: with its truth, or without a verdict
pub data Answer : Type 0 where
  Verdict : Bool → Answer
  Stop : Answer

-- a scope at a number or as the last, a variable with the number of its scope, a clause, a frame more or less, an
-- assumption, a decision with its answer, and the group of a number opened, closed, made active or inactive
pub data Command : Type 0 where
  AddScope : Quant → Option ℕ → Command
  AddVariable : ℕ → ℕ → Command
  AddClause : List ℤ → Command
  Push : Command
  Pop : Command
  Assume : ℤ → Command
  Solve : Answer → Command
  OpenGroup : ℕ → Command
  CloseGroup : Command
  Activate : ℕ → Command
  Deactivate : ℕ → Command

abbrev pub max_pushed : ℕ
max_pushed = 65536

-- whether a number's variable is in the prefix; 0 is no variable
abbrev pub is_known : List Scope → ℤ → Bool
is_known scopes n = is_some (level_of scopes (nat_abs n))

-- whether a number's variable is in the first scope
abbrev pub is_outermost : List Scope → ℤ → Bool
is_outermost scopes n = unwrap_or (level_of scopes (nat_abs n)) 0 == 1

-- whether a variable with this value, if any, has the other sign
abbrev pub opposes : Option Bool → Bool → Bool
opposes None b = false
opposes (Some true) b = not b
opposes (Some false) b = b

-- whether the negation of a literal is assumed
abbrev pub clashes_with : List Literal → ℤ → Bool
clashes_with assumptions n = opposes (assumed_value assumptions (nat_abs n)) (is_positive n)

abbrev pub is_empty : List Literal → Bool
is_empty [] = true
is_empty (l ∷ ls) = false

-- whether a row of so many literals beside so many clauses, with so many literals in all, goes beyond a limit
abbrev pub exceeds : ℕ → ℕ → ℕ → Bool
exceeds clauses literals n = nat_le max_clauses clauses || nat_lt max_literals (literals + n)

-- whether a row of so many literals beside these rows goes beyond a limit
abbrev pub is_beyond : List Row → ℕ → Bool
is_beyond rows n = exceeds (length rows) (literals_in rows) n

abbrev pub prefix_refusals : Option PrefixRefusal → List (Bool × FrameRefusal)
prefix_refusals None = []
prefix_refusals (Some refusal) = (true, refusal_for refusal) ∷ []

-- what refuses to make a group active or inactive
abbrev pub turn_refusals : OpenFormula → ℕ → List (Bool × FrameRefusal)
turn_refusals s n =
    (not (may_number n), GroupRange) ∷ (not (is_group s.groups n), NoGroup) ∷ (is_some s.current, GroupOpen) ∷ []

-- what refuses a command, the first test that holds before all others
abbrev pub refusals : OpenFormula → Command → List (Bool × FrameRefusal)
refusals s (AddScope quant at) =
    (not (is_empty s.assumptions), AssumptionsHeld) ∷ prefix_refusals (scope_refusal s.scopes at)
refusals s (AddVariable var scope) =
    (not (is_empty s.assumptions), AssumptionsHeld) ∷ prefix_refusals (variable_refusal s.scopes var scope)
refusals s (AddClause clause) =
    (not (list_all (is_known s.scopes) clause), UnknownVar)
    ∷ (not (is_tautology clause) && is_beyond (all_clauses s) (length (variables_of clause)), Limit)
    ∷ []
refusals s Push = (is_some s.current, GroupOpen) ∷ (depth s.frames == max_pushed, Limit) ∷ []
refusals s Pop = (depth s.frames == 0, NoFrame) ∷ []
refusals s (Assume n) =
    (not (is_known s.scopes n), UnknownVar)
    ∷ (not (is_outermost s.scopes n), AssumeScope)
    ∷ (clashes_with s.assumptions n, AssumeClash)
    ∷ []
refusals s (Solve answer) = []
refusals s (OpenGroup n) =
    (not (may_number n), GroupRange) ∷ (is_some s.current, GroupOpen) ∷ (not (depth s.frames == 0), GroupFrame) ∷ []
refusals s CloseGroup = (is_none s.current, NoGroup) ∷ []
refusals s (Activate n) = turn_refusals s n
refusals s (Deactivate n) = turn_refusals s n

abbrev pub first_of : List (Bool × FrameRefusal) → Option FrameRefusal
first_of [] = None
first_of (rule ∷ rules) = if rule.0 then Some rule.1 else first_of rules

abbrev pub refusal_of : OpenFormula → Command → Option FrameRefusal
refusal_of s command = first_of (refusals s command)

-- with one more row: of the open group, or else of the top frame
abbrev pub with_row_at : Option ℕ → Row → OpenFormula → OpenFormula
with_row_at None row s = record s { frames = with_row row s.frames }
with_row_at (Some n) row s = record s { groups = with_clause_at row n s.groups }

abbrev pub with_clause : List ℤ → OpenFormula → OpenFormula
with_clause clause s = if is_tautology clause then s else with_row_at s.current (as_row clause) s

-- the formula after an accepted command
abbrev pub formula_after : OpenFormula → Command → OpenFormula
formula_after s (AddScope quant at) = record s { scopes = with_scope s.scopes quant at }
formula_after s (AddVariable var scope) = record s {
  scopes = with_variable_at s.scopes (scope - 1) var;
  frames = with_variable s.version var s.frames;
}
formula_after s (AddClause clause) = with_clause clause s
formula_after s Push = record s { frames = pushed s.frames }
formula_after s Pop = record s {
  scopes = without_variables (variables_on_top s) s.scopes;
  frames = popped s.frames;
  assumptions = without_assumed (variables_on_top s) s.assumptions;
}
formula_after s (Assume n) = record s { assumptions = put_assumption (literal_from n) s.assumptions }
formula_after s (Solve (Verdict truth)) = record s { assumptions = [] }
formula_after s (Solve Stop) = s
formula_after s (OpenGroup n) = record s { groups = with_group n s.groups; current = Some n }
formula_after s CloseGroup = record s { current = None }
formula_after s (Activate n) = record s { groups = with_mark true n s.groups }
formula_after s (Deactivate n) = record s { groups = with_mark false n s.groups }
