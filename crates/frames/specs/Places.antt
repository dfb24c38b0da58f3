-- How groups are kept: in a list that ascends by number, with the place of the open one.
use Rattle.std.specs.Prelude.{◌≡◌, ℕ, true, ◌-◌, ◌<◌, ◌≤◌, ◌==◌, if◌then◌else◌, List, length, map, take, drop, Option, Some, None, option_map, slice_get, ⊤}
use Rattle.std.specs.List.{AllByRecursion}
use Rattle.calculus.specs.Rows.{Row}
use Rattle.frames.specs.Groups.{AreRising, Group, is_group, with_clause_at}

-- the groups, and the number of the open one
pub record GroupsState : Type 0 where
  pub groups : List Group
  pub current : Option ℕ

-- the numbers ascend, and the open group is among them
pub record AreInOrder (s : GroupsState) : Type 0 where
  pub rising : AreRising s.groups
  pub there : (n : ℕ) → s.current ≡ Some n → is_group s.groups n ≡ true

-- the number of the group at a place
abbrev pub number_at : List Group → Option ℕ → Option ℕ
number_at groups None = None
number_at groups (Some i) = option_map (λ (g : Group). g.number) (slice_get groups i)

-- a place, if any, is that of a group
abbrev pub IsPlace : List Group → Option ℕ → Type 0
IsPlace groups None = ⊤
IsPlace groups (Some i) = i < length groups

-- the group of a number stands at this place
pub record IsGroupAt (groups : List Group) (n i : ℕ) : Type 0 where
  pub group : Group
  pub there : slice_get groups i ≡ Some group
  pub numbered : group.number ≡ n

-- a group of this number is to be put in at this place: there is none, those before it have lower numbers, and those
-- from it on higher ones
pub record IsGapFor (groups : List Group) (n i : ℕ) : Type 0 where
  pub within : i ≤ length groups
  pub before : AllByRecursion (λ (g : Group). g.number < n) (take i groups)
  pub behind : AllByRecursion (λ (g : Group). n < g.number) (drop i groups)

-- with one more clause in the group of a number, if one is open
abbrev pub joined : Option ℕ → Row → List Group → List Group
joined None row groups = groups
joined (Some n) row groups = with_clause_at row n groups

abbrev pub with_joined : Row → GroupsState → GroupsState
with_joined row s = record s { groups = joined s.current row s.groups }

-- a group without its last clause, if it has this number
abbrev pub shrunk : ℕ → Group → Group
shrunk n g = if g.number == n then record g { clauses = take (length g.clauses - 1) g.clauses } else g

-- without the last clause of the open group, if one is open
abbrev pub shortened : Option ℕ → List Group → List Group
shortened None groups = groups
shortened (Some n) groups = map (shrunk n) groups

abbrev pub without_last : GroupsState → GroupsState
without_last s = record s { groups = shortened s.current s.groups }

-- the fields belong together
pub record AreGroups (groups : List Group) (place : Option ℕ) : Type 0 where
  pub rising : AreRising groups
  pub placed : IsPlace groups place
