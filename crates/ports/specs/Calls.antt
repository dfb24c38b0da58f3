-- Calls that are counted, of which some are to fail.
use Rattle.std.specs.Prelude.{ℕ, Bool, List, ◌==◌}
use Rattle.std.specs.List.{list_any}
use Rattle.ports.specs.Causes.{raised}

-- whether the call of this number, counted from 1, is to fail
abbrev pub is_listed : List ℕ → ℕ → Bool
is_listed failing number = list_any (λ n. n == number) failing

-- the numbers of the calls that are to fail, how many calls were made, and how many failed
pub record Tally : Type 0 where
  pub failing : List ℕ
  pub made : ℕ
  pub failed : ℕ

-- whether the next call is to fail
abbrev pub is_due : Tally → Bool
is_due t = is_listed t.failing (raised t.made)

-- after one more call that did what it is for
abbrev pub one_made : Tally → Tally
one_made t = record t { made = raised t.made }

-- after one more call that failed
abbrev pub one_failed : Tally → Tally
one_failed t = record t { made = raised t.made; failed = raised t.failed }
