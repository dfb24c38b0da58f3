-- Lists that are kept in pages.
use Rattle.std.specs.Prelude.{◌≡◌, ◌≢◌, ℕ, ◌+◌, ◌*◌, ◌-◌, ◌<◌, ◌≤◌, ◌⊎◌, List, [], ◌∷◌, ◌++◌, length, replicate, slice_index_or}

-- the places of a page: those that are stored, and blank ones behind them up to a number
abbrev pub page_of : {A : Type 0} → A → List A → ℕ → List A
page_of blank stored len = stored ++ replicate (len - length stored) blank

-- lists one behind the other
abbrev pub joined : {A : Type 0} → List (List A) → List A
joined [] = []
joined (page ∷ pages) = page ++ joined pages

-- each page has so many places, but for the last one, which has no more
abbrev pub AreFull : {A : Type 0} → ℕ → List (List A) → Type 0
AreFull size [] = Unit {0}
AreFull size (page ∷ []) = length page ≤ size
AreFull size (page ∷ next ∷ pages) = (length page ≡ size) × AreFull size (next ∷ pages)

-- the first place from one on that isn't blank
pub record IsFirstFilled {A : Type 0} (blank : A) (places : List A) (from at : ℕ) : Type 0 where
  pub behind : from ≤ at
  pub there : at < length places
  pub filled : slice_index_or places at blank ≢ blank
  pub between : (i : ℕ) → from ≤ i → i < at → slice_index_or places i blank ≡ blank

-- the last place before one that isn't blank
pub record IsLastFilled {A : Type 0} (blank : A) (places : List A) (below at : ℕ) : Type 0 where
  pub before : at < below
  pub there : at < length places
  pub filled : slice_index_or places at blank ≢ blank
  pub between : (i : ℕ) → at < i → i < below → slice_index_or places i blank ≡ blank

-- the next place is on the page with this number: the last one, which isn't full, or one more behind full ones
abbrev pub EndsIn : {A : Type 0} → List (List A) → ℕ → Type 0
EndsIn pages at = ((at + 1 ≡ length pages) × (length (slice_index_or pages at []) < 64))
    ⊎ ((at ≡ length pages) × (length (joined pages) ≡ 64 * length pages))
