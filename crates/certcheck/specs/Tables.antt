-- Tables by the numbers of variables.
use Rattle.std.specs.Prelude.{◌≡◌, ℕ, ◌<◌, ◌==◌, Bool, if◌then◌else◌, List, [], ◌∷◌, Option, Some, None, slice_index_or, IfSome}
use Rattle.prefix.specs.Literal.{Literal}
use Rattle.truth.specs.Truth.{assumed_value}
use Rattle.certcheck.specs.Check.{Named}

-- the entry of a number
abbrev pub entry_of : {A : Type 0} → List (Option A) → ℕ → Option A
entry_of table v = slice_index_or table v None

-- the literal of the first name of a variable
abbrev pub named : List Named → ℕ → Option ℕ
named [] x = None
named (n ∷ ns) x = if n.variable == x then Some n.number else named ns x

-- a table of the literals of these names
abbrev pub IsTableOf : List (Option ℕ) → List Named → Type 0
IsTableOf table ns = (x : ℕ) → entry_of table x ≡ named ns x

-- its literals are those of variables up to 1048576
abbrev pub IsSmall : List (Option ℕ) → Type 0
IsSmall table = (x : ℕ) → IfSome (entry_of table x) (λ n. n < 2097154)

-- a table of assumed values
abbrev pub IsTableOfAssumed : List (Option Bool) → List Literal → Type 0
IsTableOfAssumed table assumptions = (x : ℕ) → entry_of table x ≡ assumed_value assumptions x
