-- Worked values of the generator.
use Rattle.std.specs.Prelude.{◌≡◌, ◌/◌, [], ◌∷◌, map}
use Rattle.std.specs.List.{range_with_len}
use Rattle.clauses.specs.Worked.{minus, plus}
use Rattle.qdimacs.specs.Worked.{smallest, two_clauses}
use Rattle.generate.specs.Draws.{drawn, start_of, state_at}
use Rattle.generate.specs.Made.{by_variable, first_place, literals_drawn, made, past, second_from, second_place, third_from, third_place}

-- the first states and quotients of seed 0, and seeds that begin with one state
pub record WorkedStates : Type 0 where
  pub states : map (state_at (start_of 0)) (range_with_len 1 6)
      ≡ 12345 ∷ 1406932606 ∷ 654583775 ∷ 1449466924 ∷ 229283573 ∷ 1109335178 ∷ []
  pub quotients : map (λ n. state_at (start_of 0) n / 65536) (range_with_len 1 6)
      ≡ 0 ∷ 21468 ∷ 9988 ∷ 22117 ∷ 3498 ∷ 16927 ∷ []
  pub start : state_at (start_of 0) 0 ≡ 0
  pub seed_wraps : start_of 2147483649 ≡ start_of 1
  pub first_draws : map (λ n. drawn (start_of 0) n 10) (range_with_len 0 6) ≡ 0 ∷ 8 ∷ 8 ∷ 7 ∷ 8 ∷ 7 ∷ []

-- Places and literals of the only clause over three variables: the draws 0, 0 and 0 leave the places 0, 1 and 2. A
-- step on from the last place is place 0, and a place moves past one taken place, past both, or past none.
pub record WorkedPlaces : Type 0 where
  pub first : first_place (start_of 0) 3 0 ≡ 0
  pub second : second_place (start_of 0) 3 0 ≡ 1
  pub third : third_place (start_of 0) 3 0 ≡ 2
  pub literals : literals_drawn (start_of 0) 3 0 ≡ minus 1 ∷ plus 2 ∷ minus 3 ∷ []
  pub round : second_from 5 4 0 ≡ 0
  pub not_back : second_from 5 4 3 ≡ 3
  pub past_none : third_from 3 1 0 ≡ 0
  pub past_one : third_from 3 1 1 ≡ 2
  pub past_both : third_from 3 1 2 ≡ 4
  pub past_itself : past 2 2 ≡ 3
  pub sorted : by_variable (plus 3 ∷ minus 1 ∷ plus 2 ∷ []) ≡ minus 1 ∷ plus 2 ∷ plus 3 ∷ []

-- two whole formulas
pub record WorkedFormulas : Type 0 where
  pub of_seed_0 : made 0 3 1 ≡ smallest
  pub of_seed_1 : made 1 4 2 ≡ two_clauses
  pub no_clause : (made 7 3 0).clauses ≡ []
