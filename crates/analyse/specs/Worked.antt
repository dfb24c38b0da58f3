-- Worked values: the row 1 2 3 of either side on small trails, and what it teaches.
use Rattle.std.specs.Prelude.{[], ◌∷◌}
use Rattle.prefix.specs.declared.quant.Quant.{Quant}
use Rattle.calculus.specs.Search.{Trail}
use Rattle.calculus.specs.Search.Cause.{Decided, Propagated}
use Rattle.calculus.specs.Worked.{plus}
use Rattle.calculus.specs.WorkedSearch.{alternating, bad, three, with_last}
use Rattle.clean.specs.Worked.{two_steps}
use Rattle.derive.specs.State.{State}
use Rattle.analyse.specs.Levels.{IsLevelBelow, MakesUnitFirstAt}
use Rattle.analyse.specs.Lessons.{IsLesson}
use Rattle.analyse.specs.declared.lesson.Lesson.TheVariants.{Learn, End}

-- 1 was decided bad, 2 was propagated bad, 4 was decided, which is in no scope, and then 3 was decided bad
abbrev pub one_between : Quant → Trail
one_between pivot =
    record { literal = bad pivot 1; cause = Decided }
    ∷ record { literal = bad pivot 2; cause = Propagated 7 }
    ∷ record { literal = plus 4; cause = Decided }
    ∷ record { literal = bad pivot 3; cause = Decided }
    ∷ []

-- 1 and 2 were decided bad
abbrev pub two_decided : Quant → Trail
two_decided pivot =
    record { literal = bad pivot 1; cause = Decided } ∷ record { literal = bad pivot 2; cause = Decided } ∷ []

-- the rows 1 2 3 and 2, which has no pivot-type literal
abbrev pub learned : Quant → State
learned pivot = two_steps pivot three (plus 2 ∷ [])

pub record WorkedLevels (pivot : Quant) : Type 0 where
  -- 1 and 2 must stay bad where 3 is to be unit, and are of level 1
  pub level : IsLevelBelow pivot (alternating pivot) (with_last pivot (bad pivot 3)) (plus 3) three 1
  pub too_low : IsLevelBelow pivot (alternating pivot) (with_last pivot (bad pivot 3)) (plus 3) three 0 → ⊥
  pub too_high : IsLevelBelow pivot (alternating pivot) (with_last pivot (bad pivot 3)) (plus 3) three 2 → ⊥
  -- 2, of level 2, doesn't count where 1 is to be unit, since its scope is later
  pub later_scope : IsLevelBelow pivot (alternating pivot) (two_decided pivot) (plus 1) (plus 1 ∷ plus 2 ∷ []) 0
  -- it makes 3 unit at level 1; not at level 2 first where it does so at level 1
  pub first : MakesUnitFirstAt pivot (alternating pivot) (one_between pivot) three (plus 3) 1
  pub not_first : MakesUnitFirstAt pivot (alternating pivot) (one_between pivot) three (plus 3) 2 → ⊥

pub record WorkedLessons (pivot : Quant) : Type 0 where
  -- it is learned with its least level, and not with another one; it is no end row, and the row 2 is one
  pub learn : IsLesson pivot (alternating pivot) (with_last pivot (bad pivot 3)) (learned pivot) (Learn 0 (plus 3) 1 2)
  pub other_level
      : IsLesson pivot (alternating pivot) (with_last pivot (bad pivot 3)) (learned pivot) (Learn 0 (plus 3) 0 2) → ⊥
  pub end : IsLesson pivot (alternating pivot) (with_last pivot (bad pivot 3)) (learned pivot) (End 1)
  pub no_end : IsLesson pivot (alternating pivot) (with_last pivot (bad pivot 3)) (learned pivot) (End 0) → ⊥
