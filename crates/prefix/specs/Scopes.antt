-- The prefix of a formula, as contracts see it: a list of scopes, the outermost first.
use Rattle.std.specs.Prelude.{◌≡◌, ℕ, ◌+◌, ◌-◌, ◌<◌, ◌≤◌, Bool, false, not, filter, ◌==◌, ◌||◌, if◌then◌else◌, List, [], ◌∷◌, length, map, Option, Some, None, insert, unwrap_or, nat_lt, zero, suc, slice_get, ⊤}
use Rattle.std.specs.Option.{option_map, option_and_then}
use Rattle.std.specs.List.{flat_map, AllByRecursion}
use Rattle.prefix.specs.declared.quant.Quant.{Quant}

-- a quantifier and its variables
pub record Scope : Type 0 where
  pub quantifier : Quant
  pub variables : List ℕ

-- whether a variable is in a list
abbrev pub is_among : ℕ → List ℕ → Bool
is_among v [] = false
is_among v (x ∷ xs) = x == v || is_among v xs

-- the number of a variable's scope, from 1
abbrev pub level_of : List Scope → ℕ → Option ℕ
level_of [] v = None
level_of (s ∷ ss) v = if is_among v s.variables then Some 1 else option_map (λ n. n + 1) (level_of ss v)

-- the depth of a variable: the number of its scope; a variable without one lies past the last scope
abbrev pub depth_of : List Scope → ℕ → ℕ
depth_of ss v = unwrap_or (level_of ss v) (length ss + 1)

-- all variables, in prefix order
abbrev pub all_variables : List Scope → List ℕ
all_variables ss = flat_map (λ s. s.variables) ss

-- a variable with its quantifier
pub record BoundVariable : Type 0 where
  pub quantifier : Quant
  pub variable : ℕ

-- a variable under a quantifier
abbrev pub bound_by : Quant → ℕ → BoundVariable
bound_by q v = record { quantifier = q; variable = v }

-- the variables alone
abbrev pub variables_of : List BoundVariable → List ℕ
variables_of xs = map (λ (x : BoundVariable). x.variable) xs

-- all variables of a prefix with their quantifiers, in prefix order
abbrev pub prefix_order : List Scope → List BoundVariable
prefix_order ss = flat_map (λ (s : Scope). map (bound_by s.quantifier) s.variables) ss

-- the variables of scope number n
abbrev pub variables_at : List Scope → ℕ → List ℕ
variables_at ss n = unwrap_or (option_map (λ (s : Scope). s.variables) (slice_get ss (n - 1))) []

-- the quantifier of scope number n
abbrev pub quantifier_at : List Scope → ℕ → Option Quant
quantifier_at ss n = if n == 0 then None else option_map (λ (s : Scope). s.quantifier) (slice_get ss (n - 1))

-- the quantifier of a variable
abbrev pub quantifier_of : List Scope → ℕ → Option Quant
quantifier_of ss v = option_and_then (quantifier_at ss) (level_of ss v)

-- each number is below all that come after it
abbrev pub IsAscending : List ℕ → Type 0
IsAscending [] = ⊤
IsAscending (x ∷ xs) = AllByRecursion (λ y. x < y) xs × IsAscending xs

-- v put into an ascending list
abbrev pub insert_ascending : ℕ → List ℕ → List ℕ
insert_ascending v [] = v ∷ []
insert_ascending v (x ∷ xs) = if nat_lt v x then v ∷ x ∷ xs else x ∷ insert_ascending v xs

-- where a new scope goes, from 0: at number n, or last
abbrev pub place_of : List Scope → Option ℕ → ℕ
place_of ss None = length ss
place_of ss (Some n) = n - 1

-- a scope without variables put in, so that those from there on move up
abbrev pub with_scope : List Scope → Quant → Option ℕ → List Scope
with_scope ss q at = insert ss (place_of ss at) (record { quantifier = q; variables = [] })

-- a variable put into scope number n + 1
abbrev pub with_variable_at : List Scope → ℕ → ℕ → List Scope
with_variable_at [] n v = []
with_variable_at (s ∷ ss) zero v = record { quantifier = s.quantifier; variables = insert_ascending v s.variables } ∷ ss
with_variable_at (s ∷ ss) (suc n) v = s ∷ with_variable_at ss n v

-- a variable taken out of its scope
abbrev pub without_variable : ℕ → List Scope → List Scope
without_variable v ss =
    map (λ (s : Scope). record { quantifier = s.quantifier; variables = filter (λ x. not (x == v)) s.variables }) ss

-- no number comes twice
abbrev pub AreDistinct : List ℕ → Type 0
AreDistinct [] = ⊤
AreDistinct (x ∷ xs) = (is_among x xs ≡ false) × AreDistinct xs

-- what is true of every prefix
pub record IsPrefix (scopes : List Scope) : Type 0 where
  pub few : length scopes ≤ 65536
  pub ascending : AllByRecursion (λ s. IsAscending s.variables) scopes
  pub distinct : AreDistinct (all_variables scopes)
  pub in_range : AllByRecursion (λ v. (1 ≤ v) × (v ≤ 1048576)) (all_variables scopes)
