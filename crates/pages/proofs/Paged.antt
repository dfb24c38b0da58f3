-- Places by their number: the page, and the place there.
use Rattle.std.proofs.Common.{Option, Some, None, IfSome, IfNone, ◌≡◌, ℕ, zero, suc, ◌+◌, ◌*◌, ◌/◌, ◌%◌, ◌<◌, ◌≤◌, List, [], ◌∷◌, length, take, get_or, set, refl, sym, ap, ap₂, ◌∙◌, arith}
use Rattle.std.proofs.lemmas.List.{get_or_past, get_or-take, length-set, length-take}
use Rattle.std.specs.Prelude.{min}
use Rattle.pages.specs.Paging.{AreFull, joined}
use Rattle.pages.proofs.Joining.{full_front, full_last, full_set, given, joined_at, joined_le, joined_set, joined_take, within}

module _ {A : Type 0} (ps : List (List A)) (full : AreFull 64 ps) where
  pub split : (i : ℕ) → i ≡ 64 * (i / 64) + i % 64
  split i = omega arith

  pub below : (i : ℕ) → i % 64 < 64
  below i = omega arith

  pub page_there : (i : ℕ) → i < length (joined ps) → i / 64 < length ps
  page_there i low = let most = joined_le ps full in omega arith

  pub read : (i : ℕ) (d : A) → get_or (joined ps) i d ≡ get_or (get_or ps (i / 64) []) (i % 64) d
  read i d = joined_at ps full i (i / 64) (i % 64) d (split i) (below i)

  -- a page that is read, whatever is read where there is none
  pub is_page : (q : ℕ) (page : List A) → q < length ps → page ≡ get_or ps q page → page ≡ get_or ps q []
  is_page q page low e = e ∙ other ps q low
    where
      other : (xs : List (List A)) (k : ℕ) → k < length xs → get_or xs k page ≡ get_or xs k []
      other [] k h = absurd (omega arith)
      other (x ∷ xs) zero h = refl
      other (x ∷ xs) (suc k) h = other xs k (omega arith)

  -- a place is written
  module _ (i : ℕ) (v : A) (page new : List A) (low : i < length (joined ps)) (is : page ≡ get_or ps (i / 64) page)
      (wrote : new ≡ set page (i % 64) v) where
    was : page ≡ get_or ps (i / 64) []
    was = is_page (i / 64) page (page_there i low) is

    made : new ≡ set (get_or ps (i / 64) []) (i % 64) v
    made = wrote ∙ ap (λ (p : List A). set p (i % 64) v) was

    pub full_written : AreFull 64 (set ps (i / 64) new)
    full_written = full_set ps full (i / 64) new
        (ap (λ (p : List A). length p) made ∙ length-set (get_or ps (i / 64) []) (i % 64) v)

    pub written : joined (set ps (i / 64) new) ≡ set (joined ps) i v
    written = ap (λ (p : List A). joined (set ps (i / 64) p)) made
        ∙ joined_set ps full i (i / 64) (i % 64) v (split i) (within ps full i (i / 64) (i % 64) (split i)
        (below i) low)

    pub count_written : length (joined (set ps (i / 64) new)) ≡ length (joined ps)
    count_written = ap (λ (xs : List A). length xs) written ∙ length-set (joined ps) i v

  -- a front is left
  module _ (i : ℕ) (front : List (List A)) (page new : List A) (low : i < length (joined ps)) (fewer : front ≡ take
      (i / 64 + 1) ps) (is : page ≡ get_or front (i / 64) page) (cut : new ≡ take (i % 64) page) where
    pub front_there : i / 64 < length front
    front_there =
        let l : length front ≡ min (i / 64 + 1) (length ps) = ap (λ (xs : List (List A)). length xs) fewer
        ∙ length-take (i / 64 + 1) ps in
        let there = page_there i low in
        omega arith

    exact : suc (i / 64) ≡ length front
    exact =
        let l : length front ≡ min (i / 64 + 1) (length ps) = ap (λ (xs : List (List A)). length xs) fewer
        ∙ length-take (i / 64 + 1) ps in
        let there = page_there i low in
        omega arith

    more : take (i / 64 + 1) ps ≡ take (suc (i / 64)) ps
    more = ap (λ (k : ℕ). take k ps) (let e : i / 64 + 1 ≡ suc (i / 64) = omega arith in e)

    full_fewer : AreFull 64 front
    full_fewer = rw (fewer ∙ more) (full_front ps full (suc (i / 64)))

    other : (xs : List (List A)) (k : ℕ) → k < length xs → get_or xs k page ≡ get_or xs k []
    other [] k h = absurd (omega arith)
    other (x ∷ xs) zero h = refl
    other (x ∷ xs) (suc k) h = other xs k (omega arith)

    stood : page ≡ get_or ps (i / 64) []
    stood = is ∙ (other front (i / 64) front_there ∙ (ap (λ (xs : List (List A)). get_or xs (i / 64) []) fewer
        ∙ get_or-take (i / 64 + 1) ps (i / 64) [] (omega arith)))

    pub full_left : AreFull 64 (set front (i / 64) new)
    full_left = full_last front full_fewer (i / 64) new exact
        (let l : length new ≡ min (i % 64) (length page) = ap (λ (xs : List A). length xs) cut
        ∙ length-take (i % 64) page in
        let b = below i in omega arith)

    pub left : joined (set front (i / 64) new) ≡ take i (joined ps)
    left = ap₂ (λ (xs : List (List A)) (p : List A). joined (set xs (i / 64) p)) (fewer ∙ more)
        (cut ∙ ap (λ (p : List A). take (i % 64) p) stood)
        ∙ joined_take ps full i (i / 64) (i % 64) (split i) (below i) low

    pub count_left : i ≡ length (joined (set front (i / 64) new))
    count_left = let l : length (joined (set front (i / 64) new)) ≡ min i (length (joined ps))
        = ap (λ (xs : List A). length xs) left ∙ length-take i (joined ps) in omega arith

  -- what a page tells of a place, told of the list
  pub some_told : {B : Type 0} (f : B → A) (o : Option B) (i : ℕ) (d : A) (page list : List A) → i / 64 < length ps
      → page ≡ get_or ps (i / 64) page → joined ps ≡ list
      → IfSome o (λ x. (i % 64 < length page) × (get_or page (i % 64) d ≡ f x))
      → IfSome o (λ x. (i < length list) × (get_or list i d ≡ f x))
  some_told f None i d page list low is view told = tt
  some_told f (Some x) i d page list low is view told =
      let was = is_page (i / 64) page low is in
      let here : i % 64 < length (get_or ps (i / 64) []) = rw (← was) told.0 in
      let there : i < length (joined ps) = given ps full i (i / 64) (i % 64) (split i) here in
      let same : length (joined ps) ≡ length list = ap (λ (xs : List A). length xs) view in (
        omega arith,
        ap (λ (xs : List A). get_or xs i d) (sym view) ∙ (read i d
            ∙ (ap (λ (p : List A). get_or p (i % 64) d) (sym was) ∙ told.1)),
      )

  pub none_told : {B : Type 0} (o : Option B) (i : ℕ) (d : A) (page list : List A) → i / 64 < length ps
      → page ≡ get_or ps (i / 64) page → joined ps ≡ list
      → IfNone o (get_or page (i % 64) d ≡ d) → IfNone o (get_or list i d ≡ d)
  none_told (Some x) i d page list low is view told = tt
  none_told None i d page list low is view told =
      ap (λ (xs : List A). get_or xs i d) (sym view) ∙ (read i d
      ∙ (ap (λ (p : List A). get_or p (i % 64) d) (sym (is_page (i / 64) page low is)) ∙ told))

  pub past_told : (i : ℕ) (d : A) (list : List A) → length ps ≤ i / 64 → joined ps ≡ list → get_or list i d ≡ d
  past_told i d list high view =
      ap (λ (xs : List A). get_or xs i d) (sym view) ∙ (read i d
      ∙ ap (λ (p : List A). get_or p (i % 64) d) (get_or_past ps (i / 64) [] high))
