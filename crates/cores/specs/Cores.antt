-- Which groups of clauses a false formula rests on.
use Rattle.std.specs.Prelude.{◌≡◌, ℕ, Bool, true, false, if◌then◌else◌, List, [], ◌∷◌, ◌++◌, map, Contains}
use Rattle.std.specs.List.{flat_map}
use Rattle.prefix.specs.Literal.{Literal}
use Rattle.prefix.specs.Scopes.{Scope}
use Rattle.truth.specs.Truth.{truth_under}
use Rattle.calculus.specs.Rows.{Row}

-- a group: its number and its clauses
pub record Group : Type 0 where
  pub number : ℕ
  pub clauses : List Row

-- the clauses of groups
abbrev pub grouped_in : List Group → List Row
grouped_in groups = flat_map (λ (g : Group). g.clauses) groups

-- whether the other clauses with those of these groups are true under assumptions
abbrev pub truth_with : List Literal → List Scope → List Row → List Group → Bool
truth_with assumptions scopes others groups = truth_under assumptions scopes (others ++ grouped_in groups)

-- one after the other of the groups `rest` is tried: it is kept where the formula is true without it, with those kept
-- and the ones that are still to be tried
abbrev pub core_from : List Literal → List Scope → List Row → List Group → List Group → List Group
core_from assumptions scopes others kept [] = kept
core_from assumptions scopes others kept (g ∷ rest) =
    core_from assumptions scopes others
    (if truth_with assumptions scopes others (kept ++ rest) then kept ++ g ∷ [] else kept) rest

-- the core: what is left of groups that are tried in their order
abbrev pub core_groups : List Literal → List Scope → List Row → List Group → List Group
core_groups assumptions scopes others groups = core_from assumptions scopes others [] groups

-- the numbers of the groups of the core
abbrev pub core_numbers : List Literal → List Scope → List Row → List Group → List ℕ
core_numbers assumptions scopes others groups =
    map (λ (g : Group). g.number) (core_groups assumptions scopes others groups)

-- with these groups the formula is false, and without any one of them true; they are some of all
pub record IsCore (assumptions : List Literal) (scopes : List Scope) (others : List Row)
    (all core : List Group) : Type 0 where
  pub refuted : truth_with assumptions scopes others core ≡ false
  pub minimal : (before behind : List Group) (g : Group) → core ≡ before ++ g ∷ behind
      → truth_with assumptions scopes others (before ++ behind) ≡ true
  pub among : (g : Group) → Contains core g → Contains all g

-- Where the formula is false with all groups, the core is such a list.
abbrev pub CoresAreMinimal : Type 0
CoresAreMinimal = (assumptions : List Literal) (scopes : List Scope) (others : List Row) (groups : List Group)
    → truth_with assumptions scopes others groups ≡ false
    → IsCore assumptions scopes others groups (core_groups assumptions scopes others groups)

-- With fewer clauses a true formula stays true.
abbrev pub FewerClausesStayTrue : Type 0
FewerClausesStayTrue = (assumptions : List Literal) (scopes : List Scope) (fewer more : List Row)
    → ((row : Row) → Contains fewer row → Contains more row) → truth_under assumptions scopes more ≡ true
    → truth_under assumptions scopes fewer ≡ true
