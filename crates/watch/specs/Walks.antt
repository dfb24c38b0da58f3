-- A walk along a list.
use Rattle.std.specs.Prelude.{◌≡◌, ℕ, ◌+◌, ◌⊎◌, min, IsTrue, List, [], ◌∷◌, Option, Some, None, slice_get}
use Rattle.prefix.specs.declared.quant.Quant.{Quant}
use Rattle.prefix.specs.Literal.{Literal}
use Rattle.truth.specs.Matrix.{Values}
use Rattle.truth.specs.Truth.{assumed_value}
use Rattle.calculus.specs.Search.{is_bad_now}
use Rattle.rows.specs.Arena.{Arena, link_at, literals_at}
use Rattle.watch.specs.Families.{base_of, turn_of}
use Rattle.watch.specs.Links.{owner}
use Rattle.watch.specs.Pairs.{HasGood, bad_by, is_good_now, watch_name}

-- a row is one of these
abbrev pub In : List ℕ → ℕ → Type 0
In [] i = ⊥
In (x ∷ xs) i = (i ≡ x) ⊎ In xs i

-- the rows from one on, each of which leads on to the next
abbrev pub Path : (ℕ → Option ℕ) → List ℕ → Option ℕ → Type 0
Path next [] at = at ≡ None
Path next (x ∷ xs) at = (at ≡ Some x) × Path next xs (next x)

-- the row to which a row leads on
abbrev pub behind : Arena → ℕ → ℕ → Option ℕ
behind arena base i = link_at arena i (base + 2)

-- a list with this name, if there is one, is of the rows that watch a good literal
pub record IsGoodWatch (pivot : Quant) (values : Values) (name : Option ℕ) : Type 0 where
  pub literal : Literal
  pub named : name ≡ Some (watch_name literal)
  pub good : IsTrue (is_good_now pivot values literal)

-- the list with this name is of the rows that watch a bad literal
pub record IsBadWatch (pivot : Quant) (values : Values) (name : ℕ) : Type 0 where
  pub literal : Literal
  pub named : name ≡ watch_name literal
  pub bad : IsTrue (is_bad_now pivot values literal)

-- each row in the list with this name has a good literal
abbrev pub IsSifted : Quant → Values → Arena → ℕ → ℕ → Type 0
IsSifted pivot values arena base name = (i : ℕ) → owner pivot arena base i ≡ Some name
    → HasGood pivot values (literals_at arena i)

-- while a list is walked along: each row that was passed has a good literal
pub record IsSifting (pivot : Quant) (values : Values) (base name : ℕ) (at : Option ℕ) (arena : Arena) : Type 0 where
  pub rows : List ℕ
  pub path : Path (behind arena base) rows at
  pub listed : (i : ℕ) → In rows i → owner pivot arena base i ≡ Some name
  pub passed : (i : ℕ) → owner pivot arena base i ≡ Some name
      → In rows i ⊎ HasGood pivot values (literals_at arena i)

-- a row is reached in the list that is walked next: that of the literal that the next one of the trail makes bad
pub record IsWalking (pivot : Quant) (seen : List Literal) (ones twos : ℕ) (at : Option ℕ) (arena : Arena) : Type 0
  where
    pub literal : Literal
    pub here : slice_get seen (min ones twos) ≡ Some literal
    pub sifting : IsSifting pivot (assumed_value seen) (base_of (turn_of ones twos)) (watch_name (bad_by pivot
        literal)) at
        arena
