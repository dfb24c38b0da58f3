-- Worked values: choices under a 1, e 2, e 3 4, where -1, 2, 3 and 4 are true.
use Rattle.std.specs.Prelude.{◌≡◌, true, false, List, [], ◌∷◌, Some, None}
use Rattle.prefix.specs.declared.quant.Quant.TheVariants.{Exists, Forall}
use Rattle.prefix.specs.Scopes.{Scope}
use Rattle.truth.specs.Matrix.{Values}
use Rattle.truth.specs.Truth.{assumed_value}
use Rattle.calculus.specs.Rows.{Row}
use Rattle.calculus.specs.Worked.{existential, minus, plus, universal}
use Rattle.calculus.specs.Search.{Trail}
use Rattle.calculus.specs.Search.Cause.{Propagated}
use Rattle.cover.specs.Choices.{AreChosenBut, AreHitBut, Choices, IsInnermost, MayCover, is_better}
use Rattle.cover.specs.Covers.{IsCover}

-- a 1, e 2, e 3 4
abbrev pub three_scopes : List Scope
three_scopes = universal (1 ∷ []) ∷ existential (2 ∷ []) ∷ existential (3 ∷ 4 ∷ []) ∷ []

abbrev pub values : Values
values x = assumed_value (minus 1 ∷ plus 2 ∷ plus 3 ∷ plus 4 ∷ []) x

-- the clauses -1 2 3, and -1 -2, which has no true existential literal
abbrev pub mixed : Row
mixed = minus 1 ∷ plus 2 ∷ plus 3 ∷ []

abbrev pub lone : Row
lone = minus 1 ∷ minus 2 ∷ []

-- 3 is chosen
abbrev pub one_chosen : Choices
one_chosen = None ∷ None ∷ None ∷ Some (plus 3) ∷ []

pub record WorkedChoices : Type 0 where
  -- a literal of a later scope is taken, one of an earlier scope isn't; of one scope one that is chosen already
  pub later : is_better one_chosen three_scopes (Some (plus 2)) (plus 4) ≡ true
  pub earlier : is_better one_chosen three_scopes (Some (plus 4)) (plus 2) ≡ false
  pub chosen : is_better one_chosen three_scopes (Some (plus 4)) (plus 3) ≡ true
  pub not_chosen : is_better one_chosen three_scopes (Some (plus 3)) (plus 4) ≡ false
  -- 3 is the innermost existential literal of -1 2 3, and not 2; -1 is the innermost universal one
  pub innermost : IsInnermost Exists three_scopes values mixed (Some (plus 3))
  pub outer : IsInnermost Exists three_scopes values mixed (Some (plus 2)) → ⊥
  pub universal_one : IsInnermost Forall three_scopes values mixed (Some (minus 1))
  pub no_other : IsInnermost Exists three_scopes values lone None
  -- where 3 is chosen, of -1 2 3 and -1 -2 all but the second are hit, and not all but the first
  pub hit_but : AreHitBut (lone ∷ []) (mixed ∷ lone ∷ []) one_chosen
  pub not_hit_but : AreHitBut (mixed ∷ []) (mixed ∷ lone ∷ []) one_chosen → ⊥
  -- so 3 is chosen for both clauses but the second; for -1 -2 none is, and 3 stands in no clause of -1 -2 alone
  pub chosen_but : AreChosenBut three_scopes values (lone ∷ []) (mixed ∷ lone ∷ []) one_chosen
  pub needs_both : AreChosenBut three_scopes values [] (mixed ∷ lone ∷ []) one_chosen → ⊥
  pub of_no_clause : AreChosenBut three_scopes values (lone ∷ []) (lone ∷ []) one_chosen → ⊥

pub record WorkedCovers : Type 0 where
  -- 3 may stand in a cover of -1 2 3, but neither 2 nor -1; for -1 -2 it is -1
  pub latest : MayCover three_scopes values (mixed ∷ []) (plus 3)
  pub not_latest : MayCover three_scopes values (mixed ∷ []) (plus 2) → ⊥
  pub needless : MayCover three_scopes values (mixed ∷ []) (minus 1) → ⊥
  pub needed : MayCover three_scopes values (mixed ∷ lone ∷ []) (minus 1)

-- the trail with these values
abbrev pub all_placed : Trail
all_placed =
    record { literal = minus 1; cause = Propagated 0 }
    ∷ record { literal = plus 2; cause = Propagated 1 }
    ∷ record { literal = plus 3; cause = Propagated 2 }
    ∷ record { literal = plus 4; cause = Propagated 3 }
    ∷ []

pub record WorkedRows : Type 0 where
  -- 3 alone is a cover of -1 2 3, and with -1 one of both clauses
  pub cover : IsCover three_scopes all_placed (mixed ∷ []) (plus 3 ∷ [])
  pub of_both : IsCover three_scopes all_placed (mixed ∷ lone ∷ []) (minus 1 ∷ plus 3 ∷ [])
  -- 2 is none, though it is true and hits the clause; nor is 3 with 4, which stands in no clause, nor -1 with 3
  pub not_latest_row : IsCover three_scopes all_placed (mixed ∷ []) (plus 2 ∷ []) → ⊥
  pub needless_row : IsCover three_scopes all_placed (mixed ∷ []) (minus 1 ∷ plus 3 ∷ []) → ⊥
  pub of_no_clause : IsCover three_scopes all_placed (mixed ∷ []) (plus 3 ∷ plus 4 ∷ []) → ⊥
  -- nor is 3 one of both, nor the row 3 -1, which doesn't ascend
  pub misses_one : IsCover three_scopes all_placed (mixed ∷ lone ∷ []) (plus 3 ∷ []) → ⊥
  pub not_ascending : IsCover three_scopes all_placed (mixed ∷ lone ∷ []) (plus 3 ∷ minus 1 ∷ []) → ⊥
