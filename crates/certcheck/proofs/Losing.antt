-- What selectors say of the clauses that they select.
use Rattle.std.proofs.Common.{◌≡◌, ℕ, zero, suc, ◌+◌, ◌*◌, ◌<◌, ⊎_elim, Bool, true, false, not, ◌&&◌, ◌||◌, List, [], ◌∷◌, length, map, get_or, refl, sym, ap, ◌∙◌, arith}
use Rattle.std.specs.List.{list_any, list_all}
use Rattle.std.proofs.lemmas.Bool.{cases_Bool, and_parts, and_from, or_cases, or_parts, or_from, or_left, or_right, not-true, not-false, false_from_ne_true, true≢false}
use Rattle.std.proofs.lemmas.List.Folds.{list_all-append, list_all-map}
use Rattle.prefix.specs.declared.quant.Quant.{Quant}
use Rattle.prefix.specs.declared.quant.Quant.TheVariants.{Exists, Forall}
use Rattle.prefix.specs.Sides.{bad_of, opposite}
use Rattle.calculus.specs.Rows.{Assignment}
use Rattle.calculus.proofs.Lists.{any_at, any_from, all_at, all_from}
use Rattle.builder.specs.Rows.{flipped}
use Rattle.certcheck.specs.Check.{falsified, satisfied, lost, selectors}
use Rattle.builder.proofs.Lists.{or_off}
use Rattle.certcheck.proofs.Numbers.{number_true, flipped_true, holds, all_hold}

-- the selectors from one on have these values
abbrev pub Selects : Assignment → ℕ → List Bool → Type 0
Selects σ first [] = Unit {0}
Selects σ first (b ∷ bs) = (number_true σ (2 * first) ≡ b) × Selects σ (suc first) bs

pub selects_from : (σ : Assignment) (first : ℕ) (bs : List Bool)
    → ((i : ℕ) → i < length bs → number_true σ (2 * (first + i)) ≡ get_or bs i false) → Selects σ first bs
selects_from σ first [] h = tt
selects_from σ first (b ∷ bs) h =
    let here : first ≡ first + 0 = omega arith in (
      ap (λ k. number_true σ (2 * k)) here ∙ h zero (omega arith),
      selects_from σ (suc first) bs (λ i below.
          let next : suc first + i ≡ first + suc i = omega arith in
          ap (λ k. number_true σ (2 * k)) next ∙ h (suc i) (omega (arith, below))),
    )

-- a pair of opposites
pair_gives : (σ : Assignment) (s n : ℕ) → holds σ (flipped s ∷ flipped n ∷ []) ≡ true → number_true σ n ≡ true
    → number_true σ s ≡ false
pair_gives σ s n h t =
    ⊎_elim (λ a. not-true (number_true σ s) (sym (flipped_true σ s) ∙ a))
    (λ b. absurd (true≢false (sym (sym (or_off (number_true σ (flipped n))) ∙ b) ∙ flipped_true σ n ∙ ap not t)))
    (or_cases (number_true σ (flipped s)) (number_true σ (flipped n) || false) h)

pair_from : (σ : Assignment) (s n : ℕ) → (number_true σ s ≡ true → number_true σ n ≡ false)
    → holds σ (flipped s ∷ flipped n ∷ []) ≡ true
pair_from σ s n h =
    ⊎_elim (λ t. or_right (number_true σ (flipped s)) (number_true σ (flipped n) || false)
    (or_left (number_true σ (flipped n)) false (flipped_true σ n ∙ ap not (h t))))
    (λ f. or_left (number_true σ (flipped s)) (number_true σ (flipped n) || false) (flipped_true σ s ∙ ap not f))
    (cases_Bool (number_true σ s))

pairs : ℕ → List ℕ → List (List ℕ)
pairs s c = map (λ n. flipped s ∷ flipped n ∷ []) c

pairs_give : (σ : Assignment) (s : ℕ) (c : List ℕ) → all_hold σ (pairs s c) ≡ true → holds σ c ≡ true
    → number_true σ s ≡ false
unfolding pairs
pairs_give σ s c h t =
    let r = any_at (number_true σ) c t in
    pair_gives σ s r.0
    (all_at (λ n. holds σ (flipped s ∷ flipped n ∷ [])) c
    (sym (list_all-map (holds σ) (λ n. flipped s ∷ flipped n ∷ []) c) ∙ h) r.0 r.1) r.2

pairs_from : (σ : Assignment) (s : ℕ) (c : List ℕ) → (number_true σ s ≡ true → holds σ c ≡ false)
    → all_hold σ (pairs s c) ≡ true
unfolding pairs
pairs_from σ s c h =
    list_all-map (holds σ) (λ n. flipped s ∷ flipped n ∷ []) c
    ∙ all_from (λ n. holds σ (flipped s ∷ flipped n ∷ [])) c
    (λ n i.
    pair_from σ s n
    (λ t. false_from_ne_true (number_true σ n) (λ u. true≢false (sym (any_from (number_true σ) c n i u) ∙ h t))))

falsified_more : (σ : Assignment) (first : ℕ) (c : List ℕ) (cs : List (List ℕ))
    → all_hold σ (falsified first (c ∷ cs)) ≡
    (all_hold σ (pairs (2 * first) c) && all_hold σ (falsified (suc first) cs))
unfolding pairs
falsified_more σ first c cs = list_all-append (holds σ) (map (λ n. flipped (2 * first) ∷ flipped n ∷ []) c)
    (falsified (suc first) cs)

-- where all clauses hold no selector is true
pub falsified_gives : (σ : Assignment) (first : ℕ) (cs : List (List ℕ)) → all_hold σ (falsified first cs) ≡ true
    → all_hold σ cs ≡ true
    → list_any (number_true σ) (selectors first (length cs)) ≡ false
falsified_gives σ first [] h t = refl
falsified_gives σ first (c ∷ cs) h t =
    let parts = and_parts (all_hold σ (pairs (2 * first) c)) (all_hold σ (falsified (suc first) cs))
    (sym (falsified_more σ first c cs) ∙ h) in
    let both = and_parts (holds σ c) (all_hold σ cs) t in
    or_from (number_true σ (2 * first)) (list_any (number_true σ) (selectors (suc first) (length cs)))
    (pairs_give σ (2 * first) c parts.0 both.0) (falsified_gives σ (suc first) cs parts.1 both.1)

-- a selector of a clause that is true where the clause is false
pub falsified_from : (σ : Assignment) (first : ℕ) (cs : List (List ℕ)) → Selects σ first (map not (map (holds σ) cs))
    → all_hold σ (falsified first cs) ≡ true
falsified_from σ first [] h = refl
falsified_from σ first (c ∷ cs) h =
    falsified_more σ first c cs ∙ and_from (all_hold σ (pairs (2 * first) c)) (all_hold σ (falsified (suc first) cs))
    (pairs_from σ (2 * first) c (λ t. not-true (holds σ c) (sym h.0 ∙ t)))
    (falsified_from σ (suc first) cs h.1)

pub unselected_hold : (σ : Assignment) (first : ℕ) (cs : List (List ℕ)) → Selects σ first (map not (map (holds σ) cs))
    → list_any (number_true σ) (selectors first (length cs)) ≡ false → all_hold σ cs ≡ true
unselected_hold σ first [] h f = refl
unselected_hold σ first (c ∷ cs) h f =
    let parts = or_parts (number_true σ (2 * first))
    (list_any (number_true σ) (selectors (suc first) (length cs))) f in
    and_from (holds σ c) (all_hold σ cs) (not-false (holds σ c) (sym h.0 ∙ parts.0))
    (unselected_hold σ (suc first) cs h.1 parts.1)

-- one selector of all clauses

satisfied_all : (σ : Assignment) (first : ℕ) (cs : List (List ℕ)) → all_hold σ (satisfied first cs) ≡ true
    → number_true σ (2 * first) ≡ true → all_hold σ cs ≡ true
satisfied_all σ first [] h t = refl
satisfied_all σ first (c ∷ cs) h t =
    let parts = and_parts (number_true σ (flipped (2 * first)) || holds σ c) (all_hold σ (satisfied first cs)) h in
    and_from (holds σ c) (all_hold σ cs)
    (⊎_elim (λ a. absurd (true≢false (sym a ∙ flipped_true σ (2 * first) ∙ ap not t))) (λ b. b)
    (or_cases (number_true σ (flipped (2 * first))) (holds σ c) parts.0))
    (satisfied_all σ first cs parts.1 t)

satisfied_from : (σ : Assignment) (first : ℕ) (cs : List (List ℕ))
    → (number_true σ (2 * first) ≡ true → all_hold σ cs ≡ true) → all_hold σ (satisfied first cs) ≡ true
satisfied_from σ first [] h = refl
satisfied_from σ first (c ∷ cs) h =
    and_from (number_true σ (flipped (2 * first)) || holds σ c) (all_hold σ (satisfied first cs))
    (⊎_elim
    (λ t. or_right (number_true σ (flipped (2 * first))) (holds σ c) (and_parts (holds σ c) (all_hold σ cs) (h t)).0)
    (λ f. or_left (number_true σ (flipped (2 * first))) (holds σ c) (flipped_true σ (2 * first) ∙ ap not f))
    (cases_Bool (number_true σ (2 * first))))
    (satisfied_from σ first cs (λ t. (and_parts (holds σ c) (all_hold σ cs) (h t)).1))

-- the matrix

-- so many selectors
abbrev pub count_of : Quant → List (List ℕ) → ℕ
count_of Exists cs = length cs
count_of Forall cs = 1

pub lost_gives : (σ : Assignment) (winner : Quant) (first : ℕ) (cs : List (List ℕ))
    → all_hold σ (lost winner first cs) ≡ true
    → all_hold σ cs ≡ bad_of (opposite winner) → list_any (number_true σ) (selectors first (count_of winner cs))
    ≡ false
lost_gives σ Exists first cs h t = falsified_gives σ first cs h t
lost_gives σ Forall first cs h t =
    or_from (number_true σ (2 * first)) false
    (false_from_ne_true (number_true σ (2 * first)) (λ u. true≢false (sym (satisfied_all σ first cs h u) ∙ t))) refl

-- the selectors' values where the clauses have these
abbrev pub lost_values : Quant → List Bool → List Bool
lost_values Exists bs = map not bs
lost_values Forall bs = list_all (λ b. b) bs ∷ []

all_of : (σ : Assignment) (cs : List (List ℕ)) → list_all (λ b. b) (map (holds σ) cs) ≡ all_hold σ cs
all_of σ cs = list_all-map (λ b. b) (holds σ) cs

pub lost_from : (σ : Assignment) (winner : Quant) (first : ℕ) (cs : List (List ℕ))
    → Selects σ first (lost_values winner (map (holds σ) cs))
    → all_hold σ (lost winner first cs) ≡ true
lost_from σ Exists first cs h = falsified_from σ first cs h
lost_from σ Forall first cs h = satisfied_from σ first cs (λ t. sym (all_of σ cs) ∙ sym h.0 ∙ t)

pub unselected_won : (σ : Assignment) (winner : Quant) (first : ℕ) (cs : List (List ℕ))
    → Selects σ first (lost_values winner (map (holds σ) cs))
    → list_any (number_true σ) (selectors first (count_of winner cs)) ≡ false
    → all_hold σ cs ≡ bad_of (opposite winner)
unselected_won σ Exists first cs h f = unselected_hold σ first cs h f
unselected_won σ Forall first cs h f =
    sym (all_of σ cs) ∙ sym h.0 ∙ (or_parts (number_true σ (2 * first)) false f).0
