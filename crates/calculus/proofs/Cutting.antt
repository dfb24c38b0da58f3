-- A trail that is cut to a decision level, literal by literal.
use Rattle.std.proofs.Common.{cond, Contains, false, ◌≡◌, ℕ, suc, ◌<◌, ◌≤◌, true, [], ◌∷◌, ◌++◌, length, take, refl, sym, ap, ◌∙◌, ⊎_elim, arith, nat_le}
use Rattle.std.proofs.lemmas.Bool.{cond_both, cond-true, cond-false, cases_lt, le-leb, lt-leb, cases_Bool}
use Rattle.calculus.specs.Search.{Placed, Trail, cut_from, cut_trail, is_decision, last_level, last_level_from, level_after}
use Rattle.calculus.proofs.Lists.{contains_head, contains_tail}

-- levels don't fall
pub after_least : (before : ℕ) (p : Placed) → before ≤ level_after before p
after_least before p = cond_both (is_decision p.cause) (suc before) before (λ n. before ≤ n) (λ t. omega arith)
    (λ f. omega arith)

pub level_least : (before : ℕ) (trail : Trail) → before ≤ last_level_from before trail
level_least before [] = omega arith
level_least before (p ∷ trail) =
    let now = level_after before p in
    let first : before ≤ now = after_least before p in
    let later : now ≤ last_level_from now trail = level_least now trail in
    omega arith

module _ (before b : ℕ) (p : Placed) (trail : Trail) where
  -- the first literal stays, or all go
  pub cut_here : level_after before p ≤ b → cut_from before b (p ∷ trail) ≡ p ∷ cut_from (level_after before p) b trail
  cut_here low = cond-true (nat_le (level_after before p) b) (p ∷ cut_from (level_after before p) b trail) []
      (le-leb (level_after before p) b low)

  pub cut_none : b < level_after before p → cut_from before b (p ∷ trail) ≡ []
  cut_none high = cond-false (nat_le (level_after before p) b) (p ∷ cut_from (level_after before p) b trail) []
      (lt-leb (level_after before p) b high)

-- a cut at no lower level changes nothing
pub cut_all : (before b : ℕ) (trail : Trail) → last_level_from before trail ≤ b → cut_from before b trail ≡ trail
cut_all before b [] low = refl
cut_all before b (p ∷ trail) low =
    let now = level_after before p in
    let later : now ≤ last_level_from now trail = level_least now trail in
    let rest : last_level_from now trail ≤ b = low in
    cut_here before b p trail (omega arith) ∙ ap (λ t. p ∷ t) (cut_all now b trail rest)

-- a cut that takes literals off takes a decision off first
pub record IsCutAt (b : ℕ) (front : Trail) (trail : Trail) : Type 0 where
  pub decision : Placed
  pub back : Trail
  pub is_decision : is_decision decision.cause ≡ true
  pub parts : trail ≡ front ++ decision ∷ back

pub cut_at : (before b : ℕ) (trail : Trail) → before ≤ b → b < last_level_from before trail
    → IsCutAt b (cut_from before b trail) trail
cut_at before b [] least high = absurd (let h : b < before = high in omega arith)
cut_at before b (p ∷ trail) least high =
    let now = level_after before p in
    ⊎_elim
    (λ (above : b < now). record {
      decision = p;
      back = trail;
      is_decision = ⊎_elim (λ t. t)
          (λ f. absurd (let same : now ≡ before = cond-false (is_decision p.cause) (suc before) before f in
          omega arith)) (cases_Bool (is_decision p.cause));
      parts = ap (λ t. t ++ p ∷ trail) (sym (cut_none before b p trail above));
    })
    (λ (low : now ≤ b).
    let later = cut_at now b trail low high in
    record {
      decision = later.decision;
      back = later.back;
      is_decision = later.is_decision;
      parts = ap (λ t. p ∷ t) later.parts ∙ ap (λ t. t ++ later.decision ∷ later.back)
          (sym (cut_here before b p trail low));
    })
    (cases_lt b now)

-- a cut trail is a front
pub cut_front : (before b : ℕ) (trail : Trail) → (back : Trail) × (trail ≡ cut_from before b trail ++ back)
cut_front before b [] = ([], refl)
cut_front before b (p ∷ trail) =
    let now = level_after before p in
    ⊎_elim
    (λ (high : b < now). (
      p ∷ trail,
      ap (λ t. t ++ p ∷ trail)
          (sym (cond-false (nat_le now b) (p ∷ cut_from now b trail) [] (lt-leb now b high))),
    ))
    (λ (low : now ≤ b).
    let r = cut_front now b trail in (
      r.0,
      ap (λ t. p ∷ t) r.1 ∙ ap (λ t. t ++ r.0)
          (sym (cond-true (nat_le now b) (p ∷ cut_from now b trail) [] (le-leb now b low))),
    ))
    (cases_lt b now)

take_front : (front back : Trail) → take (length front) (front ++ back) ≡ front
take_front [] back = refl
take_front (p ∷ front) back = ap (λ t. p ∷ t) (take_front front back)

pub cut_taken : (trail : Trail) (b : ℕ) → cut_trail b trail ≡ take (length (cut_trail b trail)) trail
cut_taken trail b = let r = cut_front 0 b trail in sym (take_front (cut_trail b trail) r.0)
    ∙ ap (take (length (cut_trail b trail))) (sym r.1)

length_more : (front : Trail) (d : Placed) (back : Trail) → length front < length (front ++ d ∷ back)
length_more [] d back = let h : length (d ∷ back) ≡ suc (length back) = refl in let g : length {A = Placed} [] ≡ 0 =
    refl in omega arith
length_more (p ∷ front) d back = let h = length_more front d back in let g : length (p ∷ front) ≡ suc (length front) =
    refl in let k : length (p ∷ (front ++ d ∷ back)) ≡ suc (length (front ++ d ∷ back)) = refl in omega arith

pub cut_shorter : (trail : Trail) (b : ℕ) → b < last_level trail → length (cut_trail b trail) < length trail
cut_shorter trail b high =
    let at = cut_at 0 b trail (omega arith) high in
    let h = length_more (cut_trail b trail) at.decision at.back in
    let same : length trail ≡ length (cut_trail b trail ++ at.decision ∷ at.back) = ap length at.parts in
    omega arith

after_most : (before : ℕ) (p : Placed) → level_after before p ≤ suc before
after_most before p = cond_both (is_decision p.cause) (suc before) before (λ n. n ≤ suc before) (λ t. omega arith)
    (λ f. omega arith)

-- a cut is at its level
pub cut_reached : (before b : ℕ) (trail : Trail) → before ≤ b → b ≤ last_level_from before trail
    → last_level_from before (cut_from before b trail) ≡ b
cut_reached before b [] least high = let h : b ≤ before = high in let g : last_level_from before
    (cut_from before b []) ≡ before = refl in omega arith
cut_reached before b (p ∷ trail) least high =
    let now = level_after before p in
    ⊎_elim
    (λ (above : b < now).
    let none = ap (last_level_from before) (cut_none before b p trail above) in
    let most : now ≤ suc before = after_most before p in
    let same : before ≡ b = omega arith in
    none ∙ same)
    (λ (low : now ≤ b). ap (last_level_from before) (cut_here before b p trail low) ∙ cut_reached now b trail low high)
    (cases_lt b now)

-- a trail without decisions is at level 0
pub level_none : (before : ℕ) (trail : Trail) → ((p : Placed) → Contains trail p → is_decision p.cause ≡ false)
    → last_level_from before trail ≡ before
level_none before [] none = refl
level_none before (p ∷ rest) none =
    ap (λ b. last_level_from (cond b (suc before) before) rest) (none p (contains_head p rest))
    ∙ level_none before rest (λ q i. none q (contains_tail p rest q i))
