-- Worked values: what may be decided under e 1 2, a 3, and the signs that are remembered.
use Rattle.std.specs.Prelude.{◌≡◌, true, false, List, [], ◌∷◌, Some, None}
use Rattle.prefix.specs.Scopes.{Scope}
use Rattle.calculus.specs.Search.{Trail}
use Rattle.calculus.specs.Search.Cause.{Decided, Propagated}
use Rattle.calculus.specs.Worked.{existential, minus, plus, universal}
use Rattle.decide.specs.Decision.{IsDecision, IsOpenIn}
use Rattle.decide.specs.Memory.{Memory, phase_of, saved, with_phase}

-- e 1 2, a 3
abbrev pub two_scopes : List Scope
two_scopes = existential (1 ∷ 2 ∷ []) ∷ universal (3 ∷ []) ∷ []

-- 1 is assigned
abbrev pub first : Trail
first = record { literal = minus 1; cause = Decided } ∷ []

-- 1 and 2 are
abbrev pub both : Trail
both = record { literal = minus 1; cause = Decided } ∷ record { literal = plus 2; cause = Propagated 7 } ∷ []

pub record WorkedDecisions : Type 0 where
  -- 2 may be decided where 1 is assigned; not 1 again, nor 3, which is of a later scope, nor 4, which is of none
  pub decision : IsDecision two_scopes first 2
  pub assigned : IsDecision two_scopes first 1 → ⊥
  pub later : IsDecision two_scopes first 3 → ⊥
  pub unknown : IsDecision two_scopes first 4 → ⊥
  -- 3 may be decided where both are assigned
  pub then_later : IsDecision two_scopes both 3
  -- 2 is open in the first scope, and not in the second; 1 isn't, nor is 4 in the place after the last scope
  pub open_there : IsOpenIn two_scopes first 1 2
  pub other_scope : IsOpenIn two_scopes first 2 2 → ⊥
  pub not_open : IsOpenIn two_scopes first 1 1 → ⊥
  pub no_variable : IsOpenIn two_scopes first 3 4 → ⊥

-- no sign of three variables
abbrev pub no_signs : Memory
no_signs = None ∷ None ∷ None ∷ []

pub record WorkedMemories : Type 0 where
  -- the last sign of each variable, and of none that had none; a variable without room isn't remembered
  pub one : with_phase no_signs (minus 2) ≡ None ∷ Some false ∷ None ∷ []
  pub last_counts : saved (minus 2 ∷ plus 1 ∷ plus 2 ∷ []) no_signs ≡ Some true ∷ Some true ∷ None ∷ []
  pub other_order : saved (plus 2 ∷ plus 1 ∷ minus 2 ∷ []) no_signs ≡ Some true ∷ Some false ∷ None ∷ []
  pub without_room : saved (plus 4 ∷ []) no_signs ≡ no_signs
  pub first_sign : phase_of (Some true ∷ Some false ∷ None ∷ []) 1 ≡ Some true
  pub second_sign : phase_of (Some true ∷ Some false ∷ None ∷ []) 2 ≡ Some false
  pub no_sign : phase_of (Some true ∷ Some false ∷ None ∷ []) 3 ≡ None
  pub no_number : phase_of (Some true ∷ Some false ∷ None ∷ []) 0 ≡ None
