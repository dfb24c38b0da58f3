-- Worked values: cores of groups over one variable and over two.
use Rattle.std.specs.Prelude.{◌≡◌, ℕ, true, false, List, [], ◌∷◌}
use Rattle.prefix.specs.Scopes.{Scope}
use Rattle.calculus.specs.Rows.{Row}
use Rattle.calculus.specs.Worked.{existential, minus, plus}
use Rattle.cores.specs.Cores.{Group, IsCore, core_numbers, truth_with}

-- e 1 2
abbrev pub two_variables : List Scope
two_variables = existential (1 ∷ 2 ∷ []) ∷ []

-- a group of one clause
abbrev pub group_of : ℕ → Row → Group
group_of number row = record { number = number; clauses = row ∷ [] }

-- the groups 1, -1 and 1 again
abbrev pub first_one : Group
first_one = group_of 1 (plus 1 ∷ [])

abbrev pub second_one : Group
second_one = group_of 2 (minus 1 ∷ [])

abbrev pub third_one : Group
third_one = group_of 3 (plus 1 ∷ [])

abbrev pub doubled : List Group
doubled = first_one ∷ second_one ∷ third_one ∷ []

-- the groups 1, -1 2 and -2
abbrev pub chained : List Group
chained = group_of 4 (plus 1 ∷ []) ∷ group_of 6 (minus 1 ∷ plus 2 ∷ []) ∷ group_of 9 (minus 2 ∷ []) ∷ []

pub record WorkedCores : Type 0 where
  -- with the groups 1 and -1 the formula is false, with 1 alone it is true
  pub refuted : truth_with [] two_variables [] (first_one ∷ second_one ∷ []) ≡ false
  pub satisfied : truth_with [] two_variables [] (first_one ∷ third_one ∷ []) ≡ true
  -- of 1, -1 and 1 the first goes, since the formula is false with the others; of the first two both are needed
  pub last_two : core_numbers [] two_variables [] doubled ≡ 2 ∷ 3 ∷ []
  pub first_two : core_numbers [] two_variables [] (first_one ∷ second_one ∷ []) ≡ 1 ∷ 2 ∷ []
  -- of 1, -1 2 and -2 all are needed, but where 2 is assumed false or true, or the other clauses hold -1
  pub all_three : core_numbers [] two_variables [] chained ≡ 4 ∷ 6 ∷ 9 ∷ []
  pub assumed_false : core_numbers (minus 2 ∷ []) two_variables [] chained ≡ 4 ∷ 6 ∷ []
  pub assumed_true : core_numbers (plus 2 ∷ []) two_variables [] chained ≡ 9 ∷ []
  pub with_others : core_numbers [] two_variables ((minus 1 ∷ []) ∷ []) chained ≡ 4 ∷ []
  -- where the others are false alone, none is
  pub of_others : core_numbers [] two_variables ([] ∷ []) chained ≡ []
  -- 2 and 3 are a core, and so are 1 and 2; all three aren't, nor are 1 and 3
  pub is_core : IsCore [] two_variables [] doubled (second_one ∷ third_one ∷ [])
  pub other_core : IsCore [] two_variables [] doubled (first_one ∷ second_one ∷ [])
  pub not_minimal : IsCore [] two_variables [] doubled doubled → ⊥
  pub not_refuted : IsCore [] two_variables [] doubled (first_one ∷ third_one ∷ []) → ⊥
  pub not_among : IsCore [] two_variables [] (second_one ∷ third_one ∷ []) (first_one ∷ second_one ∷ []) → ⊥
