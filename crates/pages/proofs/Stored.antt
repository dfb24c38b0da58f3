-- Places of which the last ones, which are blank, aren't stored.
use Rattle.std.proofs.Common.{◌≡◌, ℕ, zero, suc, ◌+◌, ◌-◌, ◌<◌, ◌≤◌, List, [], ◌∷◌, ◌++◌, length, replicate, take, get_or, set, refl, sym, ap, ◌∙◌, ⊎_elim, arith, append_assoc, ◌⊎◌, inl, inr}
use Rattle.std.specs.Prelude.{min}
use Rattle.std.proofs.lemmas.Bool.{cases_lt}
use Rattle.std.proofs.lemmas.List.{get_or-append_right, get_or_append_left, get_or_past, get_or-replicate, get_or-take, set-append_left, set-get_or, length-append, length-replicate, length-set, length-take, same_lists, replicate-append-replicate}
use Rattle.pages.specs.Paging.{page_of}

module _ {A : Type 0} (blank : A) where
  pub length_page : (stored : List A) (len : ℕ) → length stored ≤ len → length (page_of blank stored len) ≡ len
  length_page stored len fits =
      let l = length-append stored (replicate (len - length stored) blank) in
      let r = length-replicate (len - length stored) blank in
      omega arith

  blank_at : (n i : ℕ) → get_or (replicate n blank) i blank ≡ blank
  blank_at n i = ⊎_elim (λ (low : i < n). get_or-replicate n i blank blank low)
      (λ (high : n ≤ i). get_or_past (replicate n blank) i blank (let l = length-replicate n blank in omega arith))
      (cases_lt i n)

  -- what isn't stored is read as blank
  pub page_at : (stored : List A) (len i : ℕ) → get_or (page_of blank stored len) i blank ≡ get_or stored i blank
  page_at stored len i = ⊎_elim
      (λ (low : i < length stored). get_or_append_left stored (replicate (len - length stored) blank) blank i low)
      (λ (high : length stored ≤ i).
      get_or-append_right stored (replicate (len - length stored) blank) (length stored) i blank refl high
      ∙ (blank_at (len - length stored) (i - length stored) ∙ sym (get_or_past stored i blank high)))
      (cases_lt i (length stored))

  -- lists are equal that are read alike
  alike : (xs ys : List A) → length xs ≡ length ys → ((k : ℕ) → get_or xs k blank ≡ get_or ys k blank) → xs ≡ ys
  alike xs ys count same = same_lists xs ys count (λ k d low. other xs k d low ∙ (same k
      ∙ sym (other ys k d (omega arith))))
    where
      other : (zs : List A) (k : ℕ) (d : A) → k < length zs → get_or zs k d ≡ get_or zs k blank
      other [] k d low = absurd (omega arith)
      other (z ∷ zs) zero d low = refl
      other (z ∷ zs) (suc k) d low = other zs k d (omega arith)

  -- a stored place is written
  pub page_set : (stored : List A) (len i : ℕ) (v : A) → i < length stored
      → page_of blank (set stored i v) len ≡ set (page_of blank stored len) i v
  page_set stored len i v low =
      ap (λ n. set stored i v ++ replicate (len - n) blank) (length-set stored i v)
      ∙ sym (set-append_left stored (replicate (len - length stored) blank) i v low)

  -- a place that isn't stored is blank already
  pub page_clear : (stored : List A) (len i : ℕ) → length stored ≤ i
      → page_of blank stored len ≡ set (page_of blank stored len) i blank
  page_clear stored len i high =
      let is : get_or (page_of blank stored len) i blank ≡ blank = page_at stored len i
      ∙ get_or_past stored i blank high in
      sym (ap (set (page_of blank stored len) i) (sym is) ∙ set-get_or (page_of blank stored len) i blank)

  -- where all stored places are blank none need be stored
  pub page_empty : (stored : List A) (len : ℕ) → length stored ≤ len → ((i : ℕ) → i < length stored
      → get_or stored i blank ≡ blank)
      → page_of blank [] len ≡ page_of blank stored len
  page_empty stored len fits none = alike (page_of blank [] len) (page_of blank stored len)
      (length_page [] len (omega arith) ∙ sym (length_page stored len fits))
      (λ k. page_at [] len k ∙ sym (page_at stored len k ∙ here k (cases_lt k (length stored))))
    where
      here : (k : ℕ) → (k < length stored) ⊎ (length stored ≤ k) → get_or stored k blank ≡ blank
      here k (inl low) = none k low
      here k (inr high) = get_or_past stored k blank high

  -- one more place
  pub page_more : (stored : List A) (len : ℕ) → length stored ≤ len
      → page_of blank stored (len + 1) ≡ page_of blank stored len ++ blank ∷ []
  page_more stored len fits =
      let n : len + 1 - length stored ≡ (len - length stored) + 1 = omega arith in
      ap (λ m. stored ++ replicate m blank) n
      ∙ (ap (λ (xs : List A). stored ++ xs) (sym (replicate-append-replicate (len - length stored) 1 blank))
      ∙ sym (append_assoc stored (replicate (len - length stored) blank) (replicate 1 blank)))

  -- fewer places
  pub page_take : (stored : List A) (len count : ℕ) → length stored ≤ len
      → page_of blank (take count stored) (min len count) ≡ take count (page_of blank stored len)
  page_take stored len count fits =
      let short = length-take count stored in
      let all = length_page stored len fits in
      let front = length-take count (page_of blank stored len) in
      let less = length_page (take count stored) (min len count) (omega arith) in
      alike (page_of blank (take count stored) (min len count)) (take count (page_of blank stored len)) (omega arith)
      (λ k. page_at (take count stored) (min len count) k ∙ here k (cases_lt k count))
    where
      here : (k : ℕ) → (k < count) ⊎ (count ≤ k) → get_or (take count stored) k blank ≡ get_or (take count
          (page_of blank stored len)) k blank
      here k (inl low) = get_or-take count stored k blank low ∙ (sym (page_at stored len k)
          ∙ sym (get_or-take count (page_of blank stored len) k blank low))
      here k (inr high) =
          let a = length-take count stored in
          let b = length-take count (page_of blank stored len) in
          get_or_past (take count stored) k blank (omega arith)
          ∙ sym (get_or_past (take count (page_of blank stored len)) k blank (omega arith))
