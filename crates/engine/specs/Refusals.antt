-- When a question about the last verdict is refused.
use Rattle.std.specs.Prelude.{ℕ, Bool, true, false, not, ◌==◌, if◌then◌else◌, List, [], ◌∷◌, Option, Some, None, is_none, unwrap_or}
use Rattle.prefix.specs.declared.quant.Quant.{Quant}
use Rattle.prefix.specs.declared.quant.Quant.TheVariants.{Exists, Forall}
use Rattle.prefix.specs.Scopes.{Scope, level_of, quantifier_at}
use Rattle.prefix.specs.Sides.{is_of}
use Rattle.engine.specs.declared.refusal.AskRefusal.{AskRefusal}
use Rattle.engine.specs.declared.refusal.AskRefusal.TheVariants.{NoVerdict, NotOutermost, NotWinner, NoMemory}
use Rattle.engine.specs.State.{EngineState, VerdictState}

-- the number that a reply tells; want of memory has none
abbrev pub ask_number : AskRefusal → Option ℕ
ask_number NoVerdict = Some 50
ask_number NotOutermost = Some 51
ask_number NotWinner = Some 52
ask_number NoMemory = None

-- the side that wins: exists where the formula is true
abbrev pub winner_of : Bool → Quant
winner_of true = Exists
winner_of false = Forall

-- whether a variable is in the first scope; a number that is no variable's is in no scope
abbrev pub is_outermost : List Scope → ℕ → Bool
is_outermost scopes x = unwrap_or (level_of scopes x) 0 == 1

-- whether the first scope is of the side that wins
abbrev pub is_winners : List Scope → Option VerdictState → Bool
is_winners scopes None = false
is_winners scopes (Some v) = is_of (quantifier_at scopes 1) (winner_of v.truth)

-- the refusal of the first test that holds
abbrev pub first_refusal : List (Bool × AskRefusal) → Option AskRefusal
first_refusal [] = None
first_refusal (rule ∷ rules) = if rule.0 then Some rule.1 else first_refusal rules

-- what refuses each question about a verdict
abbrev pub ask_refusal : EngineState → Option AskRefusal
ask_refusal e = first_refusal ((is_none e.verdict, NoVerdict) ∷ [])

-- what refuses to tell the value of a variable, the first test that holds before all others
abbrev pub value_refusal : EngineState → ℕ → Option AskRefusal
value_refusal e x = first_refusal (
    (is_none e.verdict, NoVerdict)
    ∷ (not (is_outermost e.formula.scopes x), NotOutermost)
    ∷ (not (is_winners e.formula.scopes e.verdict), NotWinner)
    ∷ [])
