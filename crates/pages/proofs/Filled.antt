-- The first and the last place that isn't blank, from that of a page.
use Rattle.std.proofs.Common.{◌≡◌, ℕ, ◌+◌, ◌*◌, ◌-◌, ◌<◌, ◌≤◌, List, [], length, get_or, sym, ap, ◌∙◌, ⊎_elim, arith}
use Rattle.std.proofs.lemmas.Bool.{cases_lt}
use Rattle.std.proofs.lemmas.List.{get_or_past}
use Rattle.pages.specs.Paging.{AreFull, IsFirstFilled, IsLastFilled, joined}
use Rattle.pages.proofs.Joining.{given, joined_at, joined_le, page_le}
use Rattle.pages.proofs.Paged.{is_page}

module _ {A : Type 0} (blank : A) (ps : List (List A)) (full : AreFull 64 ps) (q : ℕ) (page : List A)
    (low : q < length ps) (is : page ≡ get_or ps q page) where
  was : page ≡ get_or ps q []
  was = is_page ps full q page low is

  short : length page ≤ 64
  short = rw was (page_le ps full q)

  on_page : (i r : ℕ) → i ≡ 64 * q + r → r < 64 → get_or (joined ps) i blank ≡ get_or page r blank
  on_page i r e h = joined_at ps full i q r blank e h ∙ ap (λ (p : List A). get_or p r blank) (sym was)

  listed : (i r : ℕ) → i ≡ 64 * q + r → r < length page → i < length (joined ps)
  listed i r e h = given ps full i q r e (rw (← was) h)

  pub first_on : (from start at : ℕ) → from ≤ 64 * q + start
      → ((i : ℕ) → from ≤ i → i < 64 * q + start → get_or (joined ps) i blank ≡ blank)
      → IsFirstFilled blank page start at → IsFirstFilled blank (joined ps) from (q * 64 + at)
  first_on from start at behind none first =
      let a = first.behind in
      let l = first.there in
      record {
        behind = omega (arith, short);
        there = listed (q * 64 + at) at (omega arith) l;
        filled = λ e. first.filled (sym (on_page (q * 64 + at) at (omega arith) (omega (arith, short))) ∙ e);
        between = λ i after before. ⊎_elim (λ (h : i < 64 * q + start). none i after h)
            (λ (h : 64 * q + start ≤ i). on_page i (i - 64 * q) (omega arith) (omega (arith, short))
            ∙ first.between (i - 64 * q) (omega arith) (omega arith))
            (cases_lt i (64 * q + start));
      }

  pub none_up : (from start : ℕ) → ((i : ℕ) → from ≤ i → i < 64 * q + start → get_or (joined ps) i blank ≡ blank)
      → ((k : ℕ) → start ≤ k → get_or page k blank ≡ blank)
      → (i : ℕ) → from ≤ i → i < 64 * (q + 1) + 0 → get_or (joined ps) i blank ≡ blank
  none_up from start none rest i after before = ⊎_elim (λ (h : i < 64 * q + start). none i after h)
      (λ (h : 64 * q + start ≤ i). on_page i (i - 64 * q) (omega arith) (omega arith) ∙ rest (i - 64 * q) (omega arith))
      (cases_lt i (64 * q + start))

  pub last_on : (below at : ℕ) → 64 * q ≤ below
      → ((i : ℕ) → 64 * (q + 1) ≤ i → i < below → get_or (joined ps) i blank ≡ blank)
      → IsLastFilled blank page (below - q * 64) at → IsLastFilled blank (joined ps) below (q * 64 + at)
  last_on below at within none last =
      let b = last.before in
      let l = last.there in
      record {
        before = omega arith;
        there = listed (q * 64 + at) at (omega arith) l;
        filled = λ e. last.filled (sym (on_page (q * 64 + at) at (omega arith) (omega (arith, short))) ∙ e);
        between = λ i after before. ⊎_elim
            (λ (h : i < 64 * (q + 1)). on_page i (i - 64 * q) (omega arith) (omega arith)
            ∙ last.between (i - 64 * q) (omega arith) (omega arith))
            (λ (h : 64 * (q + 1) ≤ i). none i h before)
            (cases_lt i (64 * (q + 1)));
      }

  pub none_down : (below : ℕ) → ((i : ℕ) → 64 * (q + 1) ≤ i → i < below → get_or (joined ps) i blank ≡ blank)
      → ((k : ℕ) → k < below - q * 64 → get_or page k blank ≡ blank)
      → (i : ℕ) → 64 * q ≤ i → i < below → get_or (joined ps) i blank ≡ blank
  none_down below none rest i after before = ⊎_elim
      (λ (h : i < 64 * (q + 1)). on_page i (i - 64 * q) (omega arith) (omega arith) ∙ rest (i - 64 * q) (omega arith))
      (λ (h : 64 * (q + 1) ≤ i). none i h before)
      (cases_lt i (64 * (q + 1)))

-- behind the last page
pub none_past : {A : Type 0} (blank : A) (ps : List (List A)) → AreFull 64 ps → (i : ℕ) → 64 * length ps ≤ i
    → get_or (joined ps) i blank ≡ blank
none_past blank ps full i high = get_or_past (joined ps) i blank (let most = joined_le ps full in omega arith)
