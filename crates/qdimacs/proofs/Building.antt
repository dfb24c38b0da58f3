-- A variable among those of a list; what is built of scopes.
use Rattle.std.proofs.Common.{◌≡◌, ℕ, ◌<◌, true, List, length, get_or}
use Rattle.prefix.specs.Scopes.{is_among}
use Rattle.builder.proofs.Lists.{among_get as among_at}
pub use Rattle.builder.proofs.Scoping.{last_none, scope_last, taken_new, variable_last}

pub among_get : (xs : List ℕ) (j : ℕ) → j < length xs → is_among (get_or xs j 0) xs ≡ true
among_get xs j low = among_at xs j 0 low
