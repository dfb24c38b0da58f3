-- Which scopes and variables a prefix refuses, and why.
use Rattle.std.specs.Prelude.{ℕ, ◌+◌, ◌==◌, ◌||◌, if◌then◌else◌, List, length, Option, Some, None, nat_lt, is_some}
use Rattle.prefix.specs.declared.refusal.PrefixRefusal.{PrefixRefusal}
use Rattle.prefix.specs.declared.refusal.PrefixRefusal.TheVariants.{VarTwice, VarRange, ScopeRange, ScopeLimit}
use Rattle.prefix.specs.Scopes.{Scope, level_of}

-- the first refusal of a scope at a number, or of one that is to be the last
abbrev pub scope_refusal : List Scope → Option ℕ → Option PrefixRefusal
scope_refusal ss None = if length ss == 65536 then Some ScopeLimit else None
scope_refusal ss (Some n) =
    if length ss == 65536 then Some ScopeLimit
    else if n == 0 || nat_lt (length ss + 1) n then Some ScopeRange
    else None

-- the first refusal of variable v for scope number n
abbrev pub variable_refusal : List Scope → ℕ → ℕ → Option PrefixRefusal
variable_refusal ss v n =
    if v == 0 || nat_lt 1048576 v then Some VarRange
    else if is_some (level_of ss v) then Some VarTwice
    else if n == 0 || nat_lt (length ss) n then Some ScopeRange
    else None
