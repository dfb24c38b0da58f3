-- Worked values: the row 1 2 3 of either side, as a reason and as a row to be cleaned.
use Rattle.std.specs.Prelude.{◌≡◌, ℕ, true, false, [], ◌∷◌, Some, None}
use Rattle.prefix.specs.declared.quant.Quant.{Quant}
use Rattle.prefix.specs.Sides.{opposite}
use Rattle.calculus.specs.Derivations.{Why}
use Rattle.calculus.specs.Derivations.Why.{Given, ReducedFrom, ResolvedFrom, FinishedFrom}
use Rattle.calculus.specs.Rows.{Row}
use Rattle.calculus.specs.Search.{Trail}
use Rattle.steps.specs.Counter.{Counter}
use Rattle.calculus.specs.Search.Cause.{Propagated}
use Rattle.calculus.specs.Worked.{plus}
use Rattle.calculus.specs.WorkedSearch.{alternating, bad, good, three, with_last}
use Rattle.rows.specs.Arena.{new_row}
use Rattle.derive.specs.State.{State, with_step}
use Rattle.trail.specs.State.{TrailState, new_trail, with_clean, with_literal}
use Rattle.clean.specs.Blockers.{IsBlocked}
use Rattle.clean.specs.Cleaning.{IsCleaned, IsUntouched, MayBeCleaned}
use Rattle.clean.specs.Marks.{IsReasonBlocked}
use Rattle.clean.specs.Reasons.{IsReason, IsReducedStep}
use Rattle.clean.specs.Staying.{has_as_deep}
use Rattle.clean.specs.Turns.{AreInferred, Resolves, reductions_in, resolvents_in}

-- rows of a side, the step 0 and the step 1; the step 2 was dropped
abbrev pub two_steps : Quant → Row → Row → State
two_steps pivot first second = record {
  notes = Some (record { side = pivot; why = Given; tag = 0 })
      ∷ Some (record { side = pivot; why = Given; tag = 0 })
      ∷ None
      ∷ [];
  rows = Some (Some (new_row first) ∷ Some (new_row second) ∷ None ∷ []);
}

-- the rows 1 2 3 and 1 2, of which the second is not reduced
abbrev pub stored : Quant → State
stored pivot = two_steps pivot three (plus 1 ∷ plus 2 ∷ [])

-- the row 1 2 came in as a resolvent, the step 3, and then the row 1 for that reason, the step 4
abbrev pub with_two : Quant → Why → State
with_two pivot why =
    with_step
    (with_step (stored pivot) (record { side = pivot; why = ResolvedFrom 0 1 3; tag = 0 }) (plus 1 ∷ plus 2 ∷ []))
    (record { side = pivot; why = why; tag = 0 })
    (plus 1 ∷ [])

-- 3 is bad, and then 1 was propagated good from the step 0, in which 2 is open
abbrev pub propagated : Quant → TrailState
propagated pivot = with_literal (alternating pivot)
    (with_literal (alternating pivot) new_trail (bad pivot 3) (Propagated 7)) (good pivot 1) (Propagated 0)

-- 1 and 3 are bad, and 2 is open
abbrev pub two_open : Quant → Trail
two_open pivot =
    record { literal = bad pivot 1; cause = Propagated 7 }
    ∷ record { literal = bad pivot 3; cause = Propagated 8 }
    ∷ []

pub record WorkedReasons (pivot : Quant) : Type 0 where
  -- the row 1 2 3 is reduced, since 3 blocks 2; not the row 1 2, nor a row of the other side, nor one that was dropped
  pub reduced : IsReducedStep pivot (alternating pivot) (stored pivot) 0
  pub not_reduced : IsReducedStep pivot (alternating pivot) (stored pivot) 1 → ⊥
  pub other_side : IsReducedStep (opposite pivot) (alternating pivot) (stored pivot) 0 → ⊥
  pub dropped : IsReducedStep pivot (alternating pivot) (stored pivot) 2 → ⊥
  -- it is a reason of 1 with 2 open; not once it is marked
  pub reason : IsReason pivot (alternating pivot) (stored pivot) (propagated pivot) (plus 1) 0
  pub not_clean : IsReason pivot (alternating pivot) (stored pivot) (with_clean (propagated pivot) 1 0) (plus 1) 0 → ⊥

pub record WorkedSteps (pivot : Quant) : Type 0 where
  -- a resolvent came in, and its reduction: one of each
  pub inferred : AreInferred (stored pivot) (with_two pivot (ReducedFrom 3))
  pub one_resolvent : resolvents_in (with_two pivot (ReducedFrom 3)) ≡ 1
  pub one_reduction : reductions_in (with_two pivot (ReducedFrom 3)) ≡ 1
  -- neither a finish nor an input may come in after it, which no count tells
  pub finish : Resolves (alternating pivot) (stored pivot) (with_two pivot (FinishedFrom 3)) 1 0 → ⊥
  pub input : Resolves (alternating pivot) (stored pivot) (with_two pivot Given) 1 0 → ⊥
  -- 3 keeps a resolvent of 1 2 3 on 1 reduced; nothing does so on 3, nor in 1 2 on 1, where 2 is of the other type; a
  -- literal of the same scope does
  pub deeper : has_as_deep pivot (alternating pivot) 1 three ≡ true
  pub shallower : has_as_deep pivot (alternating pivot) 3 three ≡ false
  pub other_type : has_as_deep pivot (alternating pivot) 1 (plus 1 ∷ plus 2 ∷ []) ≡ false
  pub same_scope : has_as_deep pivot (record { quantifier = pivot; variables = 1 ∷ 2 ∷ [] } ∷ []) 1
      (plus 1 ∷ plus 2 ∷ []) ≡ true

pub record WorkedCleaning (pivot : Quant) : Type 0 where
  -- 3 keeps 2 from reduction where 2 is open; nothing does where all are bad
  pub blocked : IsBlocked pivot (alternating pivot) (two_open pivot) three
  pub not_blocked : IsBlocked pivot (alternating pivot) (with_last pivot (bad pivot 3)) three → ⊥
  -- a bad row may be cleaned, and a unit one with its literal kept, but not without
  pub bad_row : MayBeCleaned pivot (alternating pivot) (two_open pivot) None three
  pub unit_row : MayBeCleaned pivot (alternating pivot) (with_last pivot (good pivot 3)) (Some (plus 3)) three
  pub unit_not_kept : MayBeCleaned pivot (alternating pivot) (with_last pivot (good pivot 3)) None three → ⊥
  -- it is cleaned where all are bad, and where all but the one to keep are; not with 2 open
  pub cleaned : IsCleaned pivot (alternating pivot) (with_last pivot (bad pivot 3)) None three
  pub kept : IsCleaned pivot (alternating pivot) (with_last pivot (good pivot 3)) (Some (plus 3)) three
  pub one_open : IsCleaned pivot (alternating pivot) (two_open pivot) None three → ⊥

-- 2 and 3 are bad, and then 1 was propagated good from the step 0
abbrev pub all_assigned : Quant → TrailState
all_assigned pivot = with_literal (alternating pivot)
    (with_literal (alternating pivot)
    (with_literal (alternating pivot) new_trail (bad pivot 3) (Propagated 7)) (bad pivot 2) (Propagated 8))
    (good pivot 1) (Propagated 0)

-- a counter of nine steps, of which so many were taken
abbrev pub taken : ℕ → Counter
taken n = record { spent = n; budget = 9 }

pub record WorkedReasonsLeft (pivot : Quant) : Type 0 where
  -- the reason of 1 is blocked where 2 is open; not where it is marked, nor where 2 is bad
  pub reason_blocked : IsReasonBlocked pivot (alternating pivot) (stored pivot) (propagated pivot) 1
  pub marked : IsReasonBlocked pivot (alternating pivot) (stored pivot) (with_clean (propagated pivot) 1 0) 1 → ⊥
  pub none_open : IsReasonBlocked pivot (alternating pivot) (stored pivot) (all_assigned pivot) 1 → ⊥
  -- nothing was done: not so where a step was counted, another row is the answer, a row came in, or a reason was marked
  pub untouched : IsUntouched (stored pivot) (stored pivot) (propagated pivot) (propagated pivot)
      (taken 4) (taken 4) 0 0
  pub counted : IsUntouched (stored pivot) (stored pivot) (propagated pivot) (propagated pivot)
      (taken 4) (taken 5) 0 0 → ⊥
  pub other_row : IsUntouched (stored pivot) (stored pivot) (propagated pivot) (propagated pivot)
      (taken 4) (taken 4) 0 1 → ⊥
  pub more_rows : IsUntouched (stored pivot) (with_two pivot (ReducedFrom 3)) (propagated pivot) (propagated pivot)
      (taken 4) (taken 4) 0 0 → ⊥
  pub one_marked : IsUntouched (stored pivot) (stored pivot) (propagated pivot) (with_clean (propagated pivot) 1 0)
      (taken 4) (taken 4) 0 0 → ⊥
