-- Groups of clauses, ascending by number.
use Rattle.std.specs.Prelude.{ℕ, ◌<◌, Bool, true, false, ◌==◌, ◌&&◌, nat_lt, nat_le, if◌then◌else◌, List, [], ◌∷◌, ◌++◌, map, flat_map, Option, Some, None, is_some, unwrap_or, option_map, ⊤}
use Rattle.std.specs.List.{AllByRecursion}
use Rattle.calculus.specs.Rows.{Row}

-- clauses under a number, which are in the open formula where the group is active
pub record Group : Type 0 where
  pub number : ℕ
  pub active : Bool
  pub clauses : List Row

abbrev pub max_group : ℕ
max_group = 65536

-- whether a number may be that of a group
abbrev pub may_number : ℕ → Bool
may_number n = nat_le 1 n && nat_le n max_group

-- the clauses of an active group, none of another
abbrev pub active_of : Group → List Row
active_of g = if g.active then g.clauses else []

-- the clauses of an inactive group, none of another
abbrev pub inactive_of : Group → List Row
inactive_of g = if g.active then [] else g.clauses

-- the clauses of the active groups, by number
abbrev pub active_in : List Group → List Row
active_in groups = flat_map active_of groups

-- the clauses of the inactive groups, by number
abbrev pub inactive_in : List Group → List Row
inactive_in groups = flat_map inactive_of groups

-- the clauses of all groups, by number
abbrev pub grouped_in : List Group → List Row
grouped_in groups = flat_map (λ (g : Group). g.clauses) groups

-- the group of a number, if there is one
abbrev pub group_at : List Group → ℕ → Option Group
group_at [] n = None
group_at (g ∷ groups) n = if g.number == n then Some g else group_at groups n

abbrev pub is_group : List Group → ℕ → Bool
is_group groups n = is_some (group_at groups n)

-- whether there is a group of this number, and it is active
abbrev pub is_active : List Group → ℕ → Bool
is_active groups n = unwrap_or (option_map (λ (g : Group). g.active) (group_at groups n)) false

-- the clauses of the group of a number, none where there is no such group
abbrev pub clauses_at : List Group → ℕ → List Row
clauses_at groups n = unwrap_or (option_map (λ (g : Group). g.clauses) (group_at groups n)) []

-- a group is active at first, and has no clause
abbrev pub new_group : ℕ → Group
new_group n = record { number = n; active = true; clauses = [] }

-- with a group of this number: a new one in its place, unless there is one
abbrev pub with_group : ℕ → List Group → List Group
with_group n [] = new_group n ∷ []
with_group n (g ∷ groups) =
    if nat_lt n g.number then new_group n ∷ g ∷ groups
    else if g.number == n then g ∷ groups
    else g ∷ with_group n groups

-- a group made active or inactive, if it has this number
abbrev pub marked : Bool → ℕ → Group → Group
marked active n g = if g.number == n then record g { active = active } else g

abbrev pub with_mark : Bool → ℕ → List Group → List Group
with_mark active n groups = map (marked active n) groups

-- a group with one more clause, if it has this number
abbrev pub grown : Row → ℕ → Group → Group
grown row n g = if g.number == n then record g { clauses = g.clauses ++ row ∷ [] } else g

abbrev pub with_clause_at : Row → ℕ → List Group → List Group
with_clause_at row n groups = map (grown row n) groups

-- the numbers ascend
abbrev pub AreRising : List Group → Type 0
AreRising [] = ⊤
AreRising (g ∷ groups) = AllByRecursion (λ (h : Group). g.number < h.number) groups × AreRising groups
