-- Numbers of steps.
use Rattle.std.proofs.Common.{◌≡◌, ℕ, zero, suc, ◌+◌, ◌-◌, ◌<◌, ◌≤◌, ◌==◌, ⊎_elim, List, [], ◌∷◌, length, drop, get_or, set, Contains, refl, sym, ap, ap₂, ◌∙◌, arith, subst, get_or-set_same, get_or-set_other}
use Rattle.std.proofs.lemmas.Bool.{cases_Bool, cond-true, cond-false, eqb-true, eq-eqb, true≢false}
use Rattle.std.proofs.lemmas.List.{get_or-map}
use Rattle.std.proofs.lemmas.List.Elements.{Contains-get_or}
use Rattle.calculus.proofs.Lists.{contains_cons, contains_nil, contains_tail}
use Rattle.step_core.specs.declared.listing.CoreStep.TheVariants.{Input}
use Rattle.step_core.specs.declared.listing.Line.{Line}
use Rattle.step_core.specs.Cores.{number_in, step_numbered}

pub drop_inside : (xs : List ℕ) (i x : ℕ) → Contains (drop i xs) x → Contains xs x
drop_inside xs zero x h = h
drop_inside [] (suc i) x h = absurd (contains_nil x h)
drop_inside (y ∷ xs) (suc i) x h = contains_tail y xs x (drop_inside xs i x h)

drop_at : (xs : List ℕ) (i : ℕ) → i < length xs → drop i xs ≡ get_or xs i 0 ∷ drop (suc i) xs
drop_at [] i below = absurd (omega arith)
drop_at (x ∷ xs) zero below = refl
drop_at (x ∷ xs) (suc i) below = drop_at xs i (omega arith)

-- the numbers of the last ids, by their distance from the end
abbrev pub AreNumbers : ℕ → List ℕ → ℕ → List ℕ → Type 0
AreNumbers end ids left numbers = (id : ℕ) → Contains (drop left ids) id
    → get_or numbers (end - id) 0 ≡ left + number_in (drop left ids) id

pub numbers_more : (end : ℕ) (ids numbers new : List ℕ) (left id : ℕ) → 0 < left → left ≤ length ids
    → ((x : ℕ) → Contains ids x → (x ≤ end) × (end - x < length numbers)) → id ≡ get_or ids (left - 1) 0
    → new ≡ set numbers (end - id) (left - 1 + 1) → AreNumbers end ids left numbers → AreNumbers end ids (left - 1) new
numbers_more end ids numbers new left id some within inside is writes are x i =
    let at : left - 1 < length ids = omega arith in
    let next : suc (left - 1) ≡ left = omega arith in
    let split : drop (left - 1) ids ≡ id ∷ drop left ids = drop_at ids (left - 1) at
    ∙ ap₂ (λ (h n : ℕ). h ∷ drop n ids) (sym is) next in
    let here : Contains ids id = subst (Contains ids) (sym is) (Contains-get_or ids (left - 1) 0 at) in
    let low = inside id here in
    let low_in : end - id < length numbers = low.1 in
    ⊎_elim
    (λ t.
    let e : id ≡ x = eqb-true id x t in
    let n : number_in (drop (left - 1) ids) x ≡ 1 = ap (λ xs. number_in xs x) split
    ∙ cond-true (id == x) 1 (number_in (drop left ids) x + 1) t in
    ap₂ (λ (xs : List ℕ) (y : ℕ). get_or xs (end - y) 0) writes (sym e)
    ∙ get_or-set_same numbers (end - id) (left - 1 + 1) 0 low_in
    ∙ ap (λ m. left - 1 + m) (sym n))
    (λ f.
    let apart : id ≡ x → ⊥ = λ e. true≢false (sym (eq-eqb id x e) ∙ f) in
    let later : Contains (drop left ids) x =
    ⊎_elim (λ e. absurd (apart e)) (λ j. j) (contains_cons id (drop left ids) x (subst (λ xs. Contains xs x) split i))
    in
    let high = inside x (drop_inside ids left x later) in
    let a = low.0 in
    let b = high.0 in
    let other : (end - id ≡ end - x) → ⊥ = λ e. apart (omega (arith, a, b, e)) in
    let n : number_in (drop (left - 1) ids) x ≡ number_in (drop left ids) x + 1 = ap (λ xs. number_in xs x) split
    ∙ cond-false (id == x) 1 (number_in (drop left ids) x + 1) f in
    let sum : left + number_in (drop left ids) x ≡ left - 1 + (number_in (drop left ids) x + 1) = omega arith in
    ap (λ (xs : List ℕ). get_or xs (end - x) 0) writes
    ∙ get_or-set_other numbers (end - id) (end - x) (left - 1 + 1) 0 (λ e. other (sym e))
    ∙ are x later ∙ sum ∙ ap (λ m. left - 1 + m) (sym n))
    (cases_Bool (id == x))

-- the step of a line
pub line_step : (lines : List Line) (i : ℕ) (l : Line) → 1 ≤ i → i ≤ length lines → l ≡ get_or lines (i - 1) l
    → step_numbered lines i ≡ l.step
line_step lines i l first last is =
    let below : i - 1 < length lines = omega arith in
    get_or-map (λ (m : Line). m.step) lines (i - 1) l Input below ∙ ap (λ (m : Line). m.step) (sym is)
