-- Worked values: places of which 0 is the blank one, and bits.
use Rattle.std.specs.Prelude.{◌≡◌, ℕ, true, false, List, [], ◌∷◌}
use Rattle.pages.specs.Paging.{AreFull, EndsIn, IsFirstFilled, IsLastFilled, joined, page_of}
use Rattle.pages.specs.Words.{AreWords, bit_of, bits_of}

abbrev pub places : List ℕ
places = 5 ∷ 0 ∷ 0 ∷ 7 ∷ 9 ∷ 0 ∷ []

-- a page of two places, and the last one of one
abbrev pub two_pages : List (List ℕ)
two_pages = (1 ∷ 2 ∷ []) ∷ (3 ∷ []) ∷ []

pub record WorkedPages : Type 0 where
  -- from 1 on the first is 3; not 2, which is blank, nor 4, which is behind, nor 0, which is in front
  pub first : IsFirstFilled 0 places 1 3
  pub blank : IsFirstFilled 0 places 1 2 → ⊥
  pub later : IsFirstFilled 0 places 1 4 → ⊥
  pub in_front : IsFirstFilled 0 places 1 0 → ⊥
  pub here : IsFirstFilled 0 places 3 3
  -- below 4 the last is 3, below 3 it is 0; not 3 itself, nor what has another one behind
  pub last : IsLastFilled 0 places 4 3
  pub other_last : IsLastFilled 0 places 3 0
  pub not_itself : IsLastFilled 0 places 3 3 → ⊥
  pub not_last : IsLastFilled 0 places 5 3 → ⊥
  -- blank places behind the stored ones, and nothing but them
  pub filled_up : page_of {A = ℕ} 0 (4 ∷ 0 ∷ 6 ∷ []) 5 ≡ 4 ∷ 0 ∷ 6 ∷ 0 ∷ 0 ∷ []
  pub all_blank : page_of {A = ℕ} 0 [] 2 ≡ 0 ∷ 0 ∷ []
  -- pages one behind the other; each but the last is full, and none too full
  pub list : joined two_pages ≡ 1 ∷ 2 ∷ 3 ∷ []
  pub full : AreFull 2 two_pages
  pub first_short : AreFull {A = ℕ} 2 ((3 ∷ []) ∷ (1 ∷ 2 ∷ []) ∷ []) → ⊥
  pub last_long : AreFull {A = ℕ} 2 ((1 ∷ 2 ∷ 3 ∷ []) ∷ []) → ⊥
  -- the next place is on the second page
  pub ends : EndsIn two_pages 1
  pub ends_before : EndsIn two_pages 0 → ⊥
  pub begins : EndsIn {A = ℕ} [] 0

pub record WorkedBits : Type 0 where
  -- 5 has the bits 0 and 2; bit 65 is bit 1 of the second word
  pub bits : bits_of (5 ∷ []) 4 ≡ true ∷ false ∷ true ∷ false ∷ []
  pub second_word : bit_of (0 ∷ 2 ∷ []) 65 ≡ true
  pub other_bit : bit_of (0 ∷ 2 ∷ []) 64 ≡ false
  pub no_word : bit_of (5 ∷ []) 66 ≡ false
  -- 5 has three bits, and not two, since the third is set; a word has room for 64
  pub three : AreWords (5 ∷ []) 3
  pub two : AreWords (5 ∷ []) 2 → ⊥
  pub beyond : AreWords (5 ∷ []) 65 → ⊥
