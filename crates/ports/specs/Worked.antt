-- Worked calls, which are computed, and what holds of them and what doesn't.
use Rattle.std.specs.Prelude.{◌≡◌, ℕ, ◌^◌, ◌-◌, true, false, [], ◌∷◌, codes, refl, None, Some, Ok, Err}
use Rattle.ports.specs.Bytes.{AllFlushed}
use Rattle.ports.specs.Calls.{Tally, is_due, one_failed}
use Rattle.ports.specs.Causes.{Rose, raised}
use Rattle.ports.specs.Inputs.{bytes_under}
use Rattle.ports.specs.Reading.{EndsAtZero}
use Rattle.ports.specs.Shelf.{HasRoom, Shelf, taken_count, write_fails}
use Rattle.ports.specs.Stock.{Flows, IsSteady, Stock, choice_fails, given_count, read_fails}

-- one call was made, and the second and the third are to fail
abbrev pub tally : Tally
tally = record { failing = 2 ∷ 3 ∷ []; made = 1; failed = 0 }

second_is_due : is_due tally ≡ true
second_is_due = refl

two_made : one_failed tally ≡ record { failing = 2 ∷ 3 ∷ []; made = 2; failed = 1 }
two_made = refl

a_count_ends : raised (2 ^ 64 - 1) ≡ 2 ^ 64 - 1
a_count_ends = refl

-- no call fails, and `f` is kept twice
abbrev pub stock : Stock
stock = record {
  inputs = (codes "f", codes "abc") ∷ (codes "f", codes "x") ∷ [];
  left = None;
  greatest = 2;
  calls = record { failing = []; made = 0; failed = 0 };
}

the_first_counts : bytes_under stock.inputs (codes "f") ≡ Some (codes "abc")
the_first_counts = refl

kept_can_be_chosen : choice_fails stock (codes "f") ≡ false
kept_can_be_chosen = refl

others_can_not : choice_fails stock (codes "g") ≡ true
others_can_not = refl

nothing_chosen_is_read : read_fails stock ≡ true
nothing_chosen_is_read = refl

two_at_once : given_count 9 stock.greatest (codes "abc") ≡ 2
two_at_once = refl

-- four of six bytes are taken
abbrev pub shelf : Shelf
shelf = record {
  bytes = codes "abcd";
  flushed = [];
  room = 6;
  greatest = 3;
  calls = record { failing = []; made = 0; failed = 0 };
}

two_fit : taken_count shelf (codes "efgh") ≡ 2
two_fit = refl

room_is_left : write_fails shelf (codes "e") ≡ false
room_is_left = refl

full_fails : write_fails (record shelf { room = 4 }) (codes "e") ≡ true
full_fails = refl

nothing_fits_a_full_one : write_fails (record shelf { room = 4 }) [] ≡ false
nothing_fits_a_full_one = refl

-- counts that rose, and one that didn't; the greatest stays
pub record WorkedFaults : Type 0 where
  pub one_more : Rose 3 4
  pub two_more : Rose 3 5
  pub none_more : Rose 3 3 → ⊥
  pub at_the_end : Rose (2 ^ 64 - 1) (2 ^ 64 - 1)
  pub below_the_end : Rose (2 ^ 64 - 2) (2 ^ 64 - 2) → ⊥

-- `f` may be chosen and no call fails; of `g`, or where calls are to fail, that isn't so
pub record WorkedSteady : Type 0 where
  pub kept : IsSteady stock (codes "f")
  pub not_kept : IsSteady stock (codes "g") → ⊥
  pub failing : IsSteady (record stock { calls = tally }) (codes "f") → ⊥
  pub chosen : Flows (record stock { left = Some (codes "c") })
  pub at_its_end : Flows (record stock { left = Some [] })
  pub not_chosen : Flows stock → ⊥
  pub failing_reads : Flows (record stock { left = Some (codes "c"); calls = tally }) → ⊥

-- no byte into a buffer of one byte is the end, and into one of none isn't
pub record WorkedReads : Type 0 where
  pub the_end : EndsAtZero {E = ℕ} (Ok 0) (7 ∷ []) (Some [])
  pub not_the_end : EndsAtZero {E = ℕ} (Ok 0) (7 ∷ []) (Some (codes "c")) → ⊥
  pub no_buffer : EndsAtZero {E = ℕ} (Ok 0) [] (Some (codes "c"))
  pub one_byte : EndsAtZero {E = ℕ} (Ok 1) (7 ∷ []) (Some (codes "c"))
  pub not_told : EndsAtZero {E = ℕ} (Ok 0) (7 ∷ []) None
  pub failed : EndsAtZero {E = ℕ} (Err 5) (7 ∷ []) (Some (codes "c"))

-- two more bytes fit, and all that is written is flushed or a part of it
pub record WorkedWrites : Type 0 where
  pub none_more : HasRoom shelf 0
  pub two_more : HasRoom shelf 2
  pub three_more : HasRoom shelf 3 → ⊥
  pub failing : HasRoom (record shelf { calls = tally }) 2 → ⊥
  pub all_flushed : AllFlushed (Some (codes "ab")) (Some (codes "a")) (Some (codes "ab"))
  pub part_flushed : AllFlushed (Some (codes "ab")) (Some (codes "a")) (Some (codes "a")) → ⊥
  pub none_flushed : AllFlushed (Some (codes "ab")) (Some []) (Some []) → ⊥
  pub not_told : AllFlushed (Some (codes "ab")) None None
