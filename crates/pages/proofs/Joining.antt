-- Pages one behind the other.
use Rattle.std.proofs.Common.{◌≡◌, ℕ, zero, suc, ◌+◌, ◌*◌, ◌-◌, ◌<◌, ◌≤◌, inl, inr, List, [], ◌∷◌, ◌++◌, length, take, get_or, set, refl, sym, ap, ◌∙◌, ⊎_elim, arith, append_assoc, append-nil}
use Rattle.std.proofs.lemmas.Bool.{cases_lt}
use Rattle.std.proofs.Math.Seq.{take-append-add}
use Rattle.std.proofs.lemmas.List.{get_or-append_right, get_or_append_left, get_or_past, set-append_left, set-append_right, length-append, take-append-le}
use Rattle.pages.specs.Paging.{AreFull, EndsIn, joined}

module _ {A : Type 0} where
  -- a place of the list is a place of one page
  pub joined_at : (ps : List (List A)) → AreFull 64 ps → (i q r : ℕ) (d : A) → i ≡ 64 * q + r → r < 64
      → get_or (joined ps) i d ≡ get_or (get_or ps q []) r d
  joined_at [] full i q r d e h = refl
  joined_at (p ∷ []) full i zero r d e h =
      let is : i ≡ r = omega arith in
      ap (λ (xs : List A). get_or xs i d) (append-nil p) ∙ ap (λ (k : ℕ). get_or p k d) is
  joined_at (p ∷ []) full i (suc q) r d e h =
      let short : length p ≤ 64 = full in
      ap (λ (xs : List A). get_or xs i d) (append-nil p) ∙ get_or_past p i d (omega arith)
  joined_at (p ∷ x ∷ ps) full i zero r d e h =
      let is : i ≡ r = omega arith in
      let long : length p ≡ 64 = full.0 in
      get_or_append_left p (joined (x ∷ ps)) d i (omega arith) ∙ ap (λ (k : ℕ). get_or p k d) is
  joined_at (p ∷ x ∷ ps) full i (suc q) r d e h =
      let long : length p ≡ 64 = full.0 in
      get_or-append_right p (joined (x ∷ ps)) 64 i d long (omega arith)
      ∙ joined_at (x ∷ ps) full.1 (i - 64) q r d (omega arith) h

  -- there are no more places than the pages have
  pub joined_le : (ps : List (List A)) → AreFull 64 ps → length (joined ps) ≤ 64 * length ps
  joined_le [] full = omega arith
  joined_le (p ∷ []) full = let l = length-append p (joined []) in let short : length p ≤ 64 = full in omega arith
  joined_le (p ∷ x ∷ ps) full =
      let l = length-append p (joined (x ∷ ps)) in
      let long : length p ≡ 64 = full.0 in
      let rest = joined_le (x ∷ ps) full.1 in
      omega arith

  -- those of all pages but the last one, and those of the last one
  pub joined_last : (ps : List (List A)) → AreFull 64 ps → (q : ℕ) → suc q ≡ length ps
      → length (joined ps) ≡ 64 * q + length (get_or ps q [])
  joined_last [] full q e = absurd (omega arith)
  joined_last (p ∷ []) full zero e = let l = length-append p (joined []) in omega arith
  joined_last (p ∷ []) full (suc q) e = absurd (omega arith)
  joined_last (p ∷ x ∷ ps) full zero e = absurd (omega arith)
  joined_last (p ∷ x ∷ ps) full (suc q) e =
      let l = length-append p (joined (x ∷ ps)) in
      let long : length p ≡ 64 = full.0 in
      let rest = joined_last (x ∷ ps) full.1 q (omega arith) in
      omega arith

  -- the page of the next place
  pub ends_in : (ps : List (List A)) → AreFull 64 ps → (q r : ℕ) → length (joined ps) ≡ 64 * q + r → r < 64
      → EndsIn ps q
  ends_in [] full zero r e h = inr (refl, refl)
  ends_in [] full (suc q) r e h = absurd (omega arith)
  ends_in (p ∷ ps) full q r e h =
      let last = joined_last (p ∷ ps) full (length ps) refl in
      let most = joined_le (p ∷ ps) full in
      ⊎_elim
      (λ (low : q < suc (length ps)).
      let is : q ≡ length ps = omega arith in
      let same : length (get_or (p ∷ ps) q []) ≡ length (get_or (p ∷ ps) (length ps) []) =
      ap (λ (k : ℕ). length (get_or (p ∷ ps) k [])) is in
      inl (omega arith, omega arith))
      (λ (high : suc (length ps) ≤ q). inr (omega arith, omega arith))
      (cases_lt q (suc (length ps)))

  -- a page is replaced by one of as many places
  pub full_set : (ps : List (List A)) → AreFull 64 ps → (q : ℕ) (page : List A) → length page ≡ length (get_or ps q [])
      → AreFull 64 (set ps q page)
  full_set [] full q page e = tt
  full_set (p ∷ []) full zero page e = let short : length p ≤ 64 = full in omega arith
  full_set (p ∷ []) full (suc q) page e = full
  full_set (p ∷ x ∷ ps) full zero page e = (e ∙ full.0, full.1)
  full_set (p ∷ x ∷ ps) full (suc zero) page e = (full.0, full_set (x ∷ ps) full.1 zero page e)
  full_set (p ∷ x ∷ ps) full (suc (suc q)) page e = (full.0, full_set (x ∷ ps) full.1 (suc q) page e)

  pub joined_set : (ps : List (List A)) → AreFull 64 ps → (i q r : ℕ) (v : A) → i ≡ 64 * q + r
      → r < length (get_or ps q []) → joined (set ps q (set (get_or ps q []) r v)) ≡ set (joined ps) i v
  joined_set [] full i q r v e h = absurd (omega arith)
  joined_set (p ∷ ps) full i zero r v e h =
      let is : i ≡ r = omega arith in
      sym (ap (λ (k : ℕ). set (p ++ joined ps) k v) is ∙ set-append_left p (joined ps) r v h)
  joined_set (p ∷ []) full i (suc q) r v e h = absurd (omega arith)
  joined_set (p ∷ x ∷ ps) full i (suc q) r v e h =
      let long : length p ≡ 64 = full.0 in
      ap (λ (xs : List A). p ++ xs) (joined_set (x ∷ ps) full.1 (i - 64) q r v (omega arith) h)
      ∙ sym (set-append_right p (joined (x ∷ ps)) 64 i v long (omega arith))

  -- the last page is replaced
  pub full_last : (ps : List (List A)) → AreFull 64 ps → (q : ℕ) (page : List A) → suc q ≡ length ps → length page ≤ 64
      → AreFull 64 (set ps q page)
  full_last [] full q page e h = tt
  full_last (p ∷ []) full zero page e h = h
  full_last (p ∷ []) full (suc q) page e h = full
  full_last (p ∷ x ∷ ps) full zero page e h = absurd (omega arith)
  full_last (p ∷ x ∷ ps) full (suc zero) page e h = (full.0, full_last (x ∷ ps) full.1 zero page (omega arith) h)
  full_last (p ∷ x ∷ ps) full (suc (suc q)) page e h = (full.0, full_last (x ∷ ps) full.1 (suc q) page (omega arith) h)

  pub joined_push : (ps : List (List A)) (q : ℕ) (v : A) → suc q ≡ length ps
      → joined (set ps q (get_or ps q [] ++ v ∷ [])) ≡ joined ps ++ v ∷ []
  joined_push [] q v e = absurd (omega arith)
  joined_push (p ∷ []) zero v e = append-nil (p ++ v ∷ []) ∙ ap (λ (xs : List A). xs ++ v ∷ []) (sym (append-nil p))
  joined_push (p ∷ x ∷ ps) zero v e = absurd (omega arith)
  joined_push (p ∷ []) (suc q) v e = absurd (omega arith)
  joined_push (p ∷ x ∷ ps) (suc q) v e =
      ap (λ (xs : List A). p ++ xs) (joined_push (x ∷ ps) q v (omega arith))
      ∙ sym (append_assoc p (joined (x ∷ ps)) (v ∷ []))

  -- a page comes in behind full ones
  pub full_more : (ps : List (List A)) → AreFull 64 ps → (page : List A) → length (joined ps) ≡ 64 * length ps
      → length page ≤ 64 → AreFull 64 (ps ++ page ∷ [])
  full_more [] full page e h = h
  full_more (p ∷ []) full page e h = let l = length-append p (joined []) in (omega arith, h)
  full_more (p ∷ x ∷ ps) full page e h =
      let l = length-append p (joined (x ∷ ps)) in
      let long : length p ≡ 64 = full.0 in
      (full.0, full_more (x ∷ ps) full.1 page (omega arith) h)

  pub joined_more : (ps : List (List A)) (page : List A) → joined (ps ++ page ∷ []) ≡ joined ps ++ page
  joined_more [] page = append-nil page
  joined_more (p ∷ ps) page = ap (λ (xs : List A). p ++ xs) (joined_more ps page)
      ∙ sym (append_assoc p (joined ps) page)

  -- the first pages, of the last of which the first places
  pub full_front : (ps : List (List A)) → AreFull 64 ps → (k : ℕ) → AreFull 64 (take k ps)
  full_front [] full zero = tt
  full_front [] full (suc k) = tt
  full_front (p ∷ []) full zero = tt
  full_front (p ∷ []) full (suc zero) = full
  full_front (p ∷ []) full (suc (suc k)) = full
  full_front (p ∷ x ∷ ps) full zero = tt
  full_front (p ∷ x ∷ ps) full (suc zero) = let long : length p ≡ 64 = full.0 in omega arith
  full_front (p ∷ x ∷ ps) full (suc (suc k)) = (full.0, full_front (x ∷ ps) full.1 (suc k))

  pub joined_take : (ps : List (List A)) → AreFull 64 ps → (i q r : ℕ) → i ≡ 64 * q + r → r < 64
      → i < length (joined ps) → joined (set (take (suc q) ps) q (take r (get_or ps q []))) ≡ take i (joined ps)
  joined_take [] full i q r e h within = absurd (omega arith)
  joined_take (p ∷ []) full i zero r e h within =
      let is : i ≡ r = omega arith in
      let l = length-append p (joined []) in
      append-nil (take r p) ∙ (sym (take-append-le r p (joined []) (omega arith))
      ∙ ap (λ (k : ℕ). take k (p ++ joined [])) (sym is))
  joined_take (p ∷ x ∷ ps) full i zero r e h within =
      let is : i ≡ r = omega arith in
      let long : length p ≡ 64 = full.0 in
      append-nil (take r p)
      ∙ (sym (take-append-le r p (joined (x ∷ ps)) (omega arith))
      ∙ ap (λ (k : ℕ). take k (p ++ joined (x ∷ ps))) (sym is))
  joined_take (p ∷ []) full i (suc q) r e h within =
      let l = length-append p (joined []) in let short : length p ≤ 64 = full in absurd (omega arith)
  joined_take (p ∷ x ∷ ps) full i (suc q) r e h within =
      let long : length p ≡ 64 = full.0 in
      let l = length-append p (joined (x ∷ ps)) in
      let at : i ≡ length p + (i - 64) = omega arith in
      ap (λ (xs : List A). p ++ xs) (joined_take (x ∷ ps) full.1 (i - 64) q r (omega arith) h (omega arith))
      ∙ (sym (take-append-add p (joined (x ∷ ps)) (i - 64)) ∙ ap (λ (k : ℕ). take k (p ++ joined (x ∷ ps))) (sym at))

  -- a place of the list is there exactly where the place of the page is
  pub within : (ps : List (List A)) → AreFull 64 ps → (i q r : ℕ) → i ≡ 64 * q + r → r < 64 → i < length (joined ps)
      → r < length (get_or ps q [])
  within [] full i q r e h low = absurd (omega arith)
  within (p ∷ []) full i zero r e h low = let l = length-append p (joined []) in omega arith
  within (p ∷ []) full i (suc q) r e h low =
      let l = length-append p (joined []) in let short : length p ≤ 64 = full in absurd (omega arith)
  within (p ∷ x ∷ ps) full i zero r e h low = let long : length p ≡ 64 = full.0 in omega arith
  within (p ∷ x ∷ ps) full i (suc q) r e h low =
      let l = length-append p (joined (x ∷ ps)) in
      let long : length p ≡ 64 = full.0 in
      within (x ∷ ps) full.1 (i - 64) q r (omega arith) h (omega arith)

  pub given : (ps : List (List A)) → AreFull 64 ps → (i q r : ℕ) → i ≡ 64 * q + r → r < length (get_or ps q [])
      → i < length (joined ps)
  given [] full i q r e low = absurd (omega arith)
  given (p ∷ ps) full i zero r e low = let l = length-append p (joined ps) in omega arith
  given (p ∷ []) full i (suc q) r e low = absurd (omega arith)
  given (p ∷ x ∷ ps) full i (suc q) r e low =
      let l = length-append p (joined (x ∷ ps)) in
      let long : length p ≡ 64 = full.0 in
      let rest = given (x ∷ ps) full.1 (i - 64) q r (omega arith) low in
      omega arith

  pub page_le : (ps : List (List A)) → AreFull 64 ps → (q : ℕ) → length (get_or ps q []) ≤ 64
  page_le [] full q = omega arith
  page_le (p ∷ []) full zero = full
  page_le (p ∷ []) full (suc q) = omega arith
  page_le (p ∷ x ∷ ps) full zero = let long : length p ≡ 64 = full.0 in omega arith
  page_le (p ∷ x ∷ ps) full (suc q) = page_le (x ∷ ps) full.1 q
