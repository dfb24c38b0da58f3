-- Worked values: the core of a small derivation, and its numbers.
use Rattle.std.specs.Prelude.{◌≡◌, List, [], ◌∷◌, Option, Some, None}
use Rattle.prefix.specs.declared.quant.Quant.TheVariants.{Exists}
use Rattle.rows.specs.Arena.{StoredRow, new_row}
use Rattle.calculus.specs.Rows.{Row}
use Rattle.calculus.specs.Derivations.{Why}
use Rattle.calculus.specs.Derivations.Reason.{Input as ByInput, One as ByOne}
use Rattle.calculus.specs.Derivations.Why.{Given, ReducedFrom, ResolvedFrom, FinishedFrom}
use Rattle.calculus.specs.Worked.{minus, plus, refutation}
use Rattle.derive.specs.State.{Note, State}
use Rattle.step_core.specs.declared.listing.Line.{Line}
use Rattle.step_core.specs.declared.listing.CoreStep.TheVariants.{Input, One, Two}
use Rattle.step_core.specs.Cores.{IsNumbered, core_ids, inferences_of, lines_at, proof_at}

-- what is kept of a clause of frame 0
abbrev pub clause : Why → Option Note
clause why = Some (record { side = Exists; why = why; tag = 0 })

-- a row without links
abbrev pub stored : Row → Option StoredRow
stored row = Some (new_row row)

-- under e 2, a 1: from 1 2 and -1 -2 follow 2 and -2, and from these the empty clause; no step rests on the clause 2
-- under id 2, and the one under id 3 was dropped
abbrev pub derived : State
derived = record {
  notes = clause Given ∷ clause (ReducedFrom 0) ∷ clause Given ∷ None ∷ clause Given ∷ clause (ReducedFrom 4)
      ∷ clause (ResolvedFrom 1 5 2) ∷ clause (FinishedFrom 0) ∷ [];
  rows = Some (stored (plus 1 ∷ plus 2 ∷ []) ∷ stored (plus 2 ∷ []) ∷ stored (plus 2 ∷ []) ∷ None
      ∷ stored (minus 1 ∷ minus 2 ∷ []) ∷ stored (minus 2 ∷ []) ∷ stored [] ∷ stored (plus 1 ∷ []) ∷ []);
}

-- the core of the empty clause
abbrev pub refuted : List Line
refuted =
    record { lits = plus 1 ∷ plus 2 ∷ []; step = Input }
    ∷ record { lits = minus 1 ∷ minus 2 ∷ []; step = Input }
    ∷ record { lits = plus 2 ∷ []; step = One 1 }
    ∷ record { lits = minus 2 ∷ []; step = One 2 }
    ∷ record { lits = []; step = Two 3 4 2 }
    ∷ []

-- cores: the inputs first, numbered by their places from 1; of a finish; of an input; and as inferences
pub record WorkedCores : Type 0 where
  pub ids : core_ids derived 6 ≡ 0 ∷ 4 ∷ 1 ∷ 5 ∷ 6 ∷ []
  pub numbered : lines_at derived (core_ids derived 6) ≡ refuted
  pub finish : core_ids derived 7 ≡ 0 ∷ 7 ∷ []
  pub finish_step : lines_at derived (0 ∷ 7 ∷ []) ≡ record { lits = plus 1 ∷ plus 2 ∷ []; step = Input }
      ∷ record { lits = plus 1 ∷ []; step = One 1 } ∷ []
  pub input : core_ids derived 2 ≡ 2 ∷ []
  pub inferences : inferences_of refuted ≡ refutation
  -- the proofs of the empty clause, of the clause 1 2 where both are assumed, and of its finish where 1 alone is
  pub proof : proof_at derived [] 6 ≡ refutation
  pub whole_proof : proof_at derived (minus 1 ∷ minus 2 ∷ []) 0
      ≡ record { row = plus 1 ∷ plus 2 ∷ []; reason = ByInput } ∷ []
  pub finish_proof : proof_at derived (minus 1 ∷ []) 7 ≡ record { row = plus 1 ∷ plus 2 ∷ []; reason = ByInput }
      ∷ record { row = plus 1 ∷ []; reason = ByOne (plus 1 ∷ plus 2 ∷ []) } ∷ []

-- the clause 1 twice, of which the resolvent names the first alone; by rows each of them would be used
abbrev pub twice : List Line
twice =
    record { lits = plus 1 ∷ []; step = Input }
    ∷ record { lits = plus 1 ∷ []; step = Input }
    ∷ record { lits = minus 1 ∷ []; step = Input }
    ∷ record { lits = []; step = Two 1 3 1 }
    ∷ []

-- a step that rests on itself
abbrev pub circular : List Line
circular = record { lits = []; step = One 1 } ∷ []

pub record WorkedNumbers : Type 0 where
  pub one_is_enough : IsNumbered (record { lits = []; step = Input } ∷ [])
  pub second_unused : IsNumbered twice → ⊥
  pub no_circle : IsNumbered circular → ⊥
