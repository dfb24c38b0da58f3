-- Worked values of the search: unit, bad, quiet and clean rows of both sides, a cut trail, and a core.
use Rattle.std.specs.Prelude.{◌≡◌, ℕ, not, List, [], ◌∷◌, Some}
use Rattle.prefix.specs.declared.quant.Quant.{Quant}
use Rattle.prefix.specs.declared.quant.Quant.TheVariants.{Exists, Forall}
use Rattle.prefix.specs.Literal.{Literal}
use Rattle.prefix.specs.Scopes.{Scope}
use Rattle.prefix.specs.Sides.{bad_of, opposite}
use Rattle.truth.specs.Truth.{assumed_value}
use Rattle.calculus.specs.Rows.{Row}
use Rattle.calculus.specs.Derivations.{Step, side_core}
use Rattle.calculus.specs.Derivations.Why.{Given, ReducedFrom, ResolvedFrom}
use Rattle.calculus.specs.Search.{Trail, value_on, place_on, decision_level_on, last_level, cut_trail, IsBadRow, IsUnitIn, IsQuiet, IsClean, IsCleanBut, MakesUnitAt}
use Rattle.calculus.specs.Search.Cause.{Decided, Propagated}
use Rattle.calculus.specs.Worked.{plus, minus}

-- e 1, a 2, e 3 for clauses; a 1, e 2, a 3 for cubes
abbrev pub alternating : Quant → List Scope
alternating pivot =
    record { quantifier = pivot; variables = 1 ∷ [] }
    ∷ record { quantifier = opposite pivot; variables = 2 ∷ [] }
    ∷ record { quantifier = pivot; variables = 3 ∷ [] }
    ∷ []

-- the row 1 2 3
abbrev pub three : Row
three = plus 1 ∷ plus 2 ∷ plus 3 ∷ []

-- the value that makes its literal over x bad: false for a clause, true for a cube
abbrev pub bad : Quant → ℕ → Literal
bad pivot x = record { variable = x; positive = bad_of pivot }

-- and the one that makes it good
abbrev pub good : Quant → ℕ → Literal
good pivot x = record { variable = x; positive = not (bad_of pivot) }

-- the row 1 2 3 under some values
pub record WorkedUnits (pivot : Quant) : Type 0 where
  -- unit in 3 where 1 and 2 are bad, and in 1 where 3 is bad: 2 is open then, and of a later scope
  pub unit : IsUnitIn pivot (alternating pivot) (assumed_value (bad pivot 1 ∷ bad pivot 2 ∷ [])) three (plus 3)
  pub unit_with_later : IsUnitIn pivot (alternating pivot) (assumed_value (bad pivot 3 ∷ [])) three (plus 1)
  -- not in 3 where 2 is open, since its scope is earlier; nor where 2 is good; nor where 3 is bad; nor in 2, which is
  -- no pivot-type literal; nor in a literal that doesn't stand there
  pub earlier_open : IsUnitIn pivot (alternating pivot) (assumed_value (bad pivot 1 ∷ [])) three (plus 3) → ⊥
  pub one_good : IsUnitIn pivot (alternating pivot) (assumed_value (bad pivot 1 ∷ good pivot 2 ∷ [])) three (plus 3) → ⊥
  pub none_open : IsUnitIn pivot (alternating pivot)
      (assumed_value (bad pivot 1 ∷ bad pivot 2 ∷ bad pivot 3 ∷ [])) three (plus 3) → ⊥
  pub other_type : IsUnitIn pivot (alternating pivot) (assumed_value (bad pivot 1 ∷ bad pivot 3 ∷ [])) three (plus 2)
      → ⊥
  pub absent : IsUnitIn pivot (alternating pivot) (assumed_value (bad pivot 1 ∷ bad pivot 2 ∷ [])) three (minus 3) → ⊥
  -- bad where 1 and 3 are, also with 2 open; not where 3 is open, nor where 2 is good
  pub is_bad : IsBadRow pivot (alternating pivot) (assumed_value (bad pivot 1 ∷ bad pivot 3 ∷ [])) three
  pub pivot_open : IsBadRow pivot (alternating pivot) (assumed_value (bad pivot 1 ∷ bad pivot 2 ∷ [])) three → ⊥
  pub good_row : IsBadRow pivot (alternating pivot)
      (assumed_value (bad pivot 1 ∷ good pivot 2 ∷ bad pivot 3 ∷ [])) three → ⊥
  -- quiet where 1 alone is bad; not where it is unit, or bad
  pub quiet : IsQuiet pivot (alternating pivot) (three ∷ []) (assumed_value (bad pivot 1 ∷ []))
  pub unit_not_quiet : IsQuiet pivot (alternating pivot) (three ∷ []) (assumed_value (bad pivot 3 ∷ [])) → ⊥
  pub bad_not_quiet : IsQuiet pivot (alternating pivot) (three ∷ []) (assumed_value (bad pivot 1 ∷ bad pivot 3 ∷ []))
      → ⊥

-- 1 was decided bad, 2 was propagated bad, and then 3 was decided
abbrev pub with_last : Quant → Literal → Trail
with_last pivot last =
    record { literal = bad pivot 1; cause = Decided }
    ∷ record { literal = bad pivot 2; cause = Propagated 7 }
    ∷ record { literal = last; cause = Decided }
    ∷ []

-- 1 was decided bad, 3 was propagated good, and then 2 was decided bad
abbrev pub too_late : Quant → Trail
too_late pivot =
    record { literal = bad pivot 1; cause = Decided }
    ∷ record { literal = good pivot 3; cause = Propagated 7 }
    ∷ record { literal = bad pivot 2; cause = Decided }
    ∷ []

-- the row 1 2 3 on these trails
pub record WorkedCleanRows (pivot : Quant) : Type 0 where
  -- the trail cut to level 1 has 1 and 2, to level 0 nothing, to level 2 all
  pub values : value_on (with_last pivot (bad pivot 3)) 2 ≡ Some (bad_of pivot)
  pub place : place_on (with_last pivot (bad pivot 3)) 3 ≡ 2
  pub level : decision_level_on (with_last pivot (bad pivot 3)) 2 ≡ 1
  pub last : last_level (with_last pivot (bad pivot 3)) ≡ 2
  pub cut : cut_trail 1 (with_last pivot (bad pivot 3))
      ≡ record { literal = bad pivot 1; cause = Decided } ∷ record { literal = bad pivot 2; cause = Propagated 7 } ∷ []
  pub cut_below : cut_trail 0 (with_last pivot (bad pivot 3)) ≡ []
  pub not_cut : cut_trail 2 (with_last pivot (bad pivot 3)) ≡ with_last pivot (bad pivot 3)
  -- clean where all three are bad; not where 3 is good, nor where it is open
  pub clean : IsClean pivot (value_on (with_last pivot (bad pivot 3))) three
  pub last_good : IsClean pivot (value_on (with_last pivot (good pivot 3))) three → ⊥
  pub last_open : IsClean pivot (value_on (cut_trail 1 (with_last pivot (bad pivot 3)))) three → ⊥
  -- clean but for 3 where that is good or open; not where 2 stands after it, nor where 2 is open too
  pub clean_but : IsCleanBut pivot (with_last pivot (good pivot 3)) (plus 3) three
  pub clean_but_open : IsCleanBut pivot (cut_trail 1 (with_last pivot (good pivot 3))) (plus 3) three
  pub two_after : IsCleanBut pivot (too_late pivot) (plus 3) three → ⊥
  pub two_open : IsCleanBut pivot (cut_trail 1 (too_late pivot)) (plus 3) three → ⊥
  -- it makes 3 unit at level 1; not at level 0, nor at the trail's own level
  pub unit_at_one : MakesUnitAt pivot (alternating pivot) (with_last pivot (bad pivot 3)) three (plus 3) 1
  pub not_at_none : MakesUnitAt pivot (alternating pivot) (with_last pivot (bad pivot 3)) three (plus 3) 0 → ⊥
  pub not_at_its_own : MakesUnitAt pivot (alternating pivot)
      (cut_trail 1 (with_last pivot (bad pivot 3))) three (plus 3) 1 → ⊥

-- the derivation of a refutation under e 2, a 1, with a cube that it doesn't need
abbrev pub with_others : List Step
with_others =
    record { id = 3; side = Exists; row = plus 1 ∷ plus 2 ∷ []; why = Given }
    ∷ record { id = 4; side = Forall; row = plus 1 ∷ minus 2 ∷ []; why = Given }
    ∷ record { id = 5; side = Exists; row = minus 1 ∷ minus 2 ∷ []; why = Given }
    ∷ record { id = 6; side = Exists; row = plus 2 ∷ []; why = ReducedFrom 3 }
    ∷ record { id = 7; side = Exists; row = minus 2 ∷ []; why = ReducedFrom 5 }
    ∷ record { id = 8; side = Exists; row = []; why = ResolvedFrom 6 7 2 }
    ∷ []

-- the core of 8 leaves out the cube, and that of 6 has the clause that it comes from
pub record WorkedCores : Type 0 where
  pub whole : side_core with_others (record { id = 8; side = Exists; row = []; why = ResolvedFrom 6 7 2 })
      ≡ record { id = 3; side = Exists; row = plus 1 ∷ plus 2 ∷ []; why = Given }
      ∷ record { id = 5; side = Exists; row = minus 1 ∷ minus 2 ∷ []; why = Given }
      ∷ record { id = 6; side = Exists; row = plus 2 ∷ []; why = ReducedFrom 3 }
      ∷ record { id = 7; side = Exists; row = minus 2 ∷ []; why = ReducedFrom 5 }
      ∷ record { id = 8; side = Exists; row = []; why = ResolvedFrom 6 7 2 }
      ∷ []
  pub part : side_core with_others (record { id = 6; side = Exists; row = plus 2 ∷ []; why = ReducedFrom 3 })
      ≡ record { id = 3; side = Exists; row = plus 1 ∷ plus 2 ∷ []; why = Given }
      ∷ record { id = 6; side = Exists; row = plus 2 ∷ []; why = ReducedFrom 3 }
      ∷ []
