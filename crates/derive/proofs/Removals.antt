-- Rows without some of their literals.
use Rattle.std.proofs.Common.{◌≡◌, ℕ, suc, ◌+◌, ◌<◌, ◌≤◌, Bool, ◌||◌, ◌==◌, List, [], ◌∷◌, ◌++◌, length, filter, take, get_or, is_some, sym, refl, ap, ◌∙◌, ⊎_elim, arith}
use Rattle.std.specs.List.{list_any}
use Rattle.std.proofs.lemmas.Bool.{cases_Bool, cond-true, cond-false}
use Rattle.std.proofs.lemmas.List.{take_more}
use Rattle.prefix.specs.Literal.{Literal}
use Rattle.prefix.specs.Scopes.{Scope}
use Rattle.prefix.specs.declared.quant.Quant.{Quant}
use Rattle.truth.specs.Truth.{assumed_value}
use Rattle.calculus.specs.Rows.{Row, reduce, is_pivot, stays}

pub filter_short : {X : Type 0} (p : X → Bool) (xs : List X) → length (filter p xs) ≤ length xs
filter_short p [] = omega arith
filter_short p (x ∷ xs) =
    let h = filter_short p xs in
    ⊎_elim (λ t. rw (cond-true (p x) (x ∷ filter p xs) (filter p xs) t) (omega arith))
    (λ f. rw (cond-false (p x) (x ∷ filter p xs) (filter p xs) f) (omega arith))
    (cases_Bool (p x))

-- a filter that leaves as many leaves all
pub filter_whole : {X : Type 0} (p : X → Bool) (xs : List X) → length (filter p xs) ≡ length xs → filter p xs ≡ xs
filter_whole p [] e = refl
filter_whole p (x ∷ xs) e =
    ⊎_elim
    (λ t.
    let is = cond-true (p x) (x ∷ filter p xs) (filter p xs) t in
    let f : suc (length (filter p xs)) ≡ suc (length xs) = rw is at e in
    is ∙ ap (λ ys. x ∷ ys) (filter_whole p xs (omega arith)))
    (λ n.
    let h = filter_short p xs in
    let f : length (filter p xs) ≡ suc (length xs) = rw (cond-false (p x) (x ∷ filter p xs) (filter p xs) n) at e in
    absurd (omega arith))
    (cases_Bool (p x))

-- so does a reduction
pub reduced_whole : (pivot : Quant) (scopes : List Scope) (row out : Row) → out ≡ reduce pivot scopes row
    → length out ≡ length row → out ≡ row
reduced_whole pivot scopes row out is e =
    ⊎_elim
    (λ t.
    let once : out ≡ filter (stays pivot scopes row) row = is ∙ cond-true (list_any (is_pivot pivot scopes) row)
    (filter (stays pivot scopes row) row) row t in
    once ∙ filter_whole (stays pivot scopes row) row (ap (λ (r : Row). length r) (sym once) ∙ e))
    (λ f. is ∙ cond-false (list_any (is_pivot pivot scopes) row) (filter (stays pivot scopes row) row) row f)
    (cases_Bool (list_any (is_pivot pivot scopes) row))

-- what is assumed with one assumption more
assumed_push : (xs : List Literal) (l : Literal) (v : ℕ) → is_some (assumed_value (xs ++ l ∷ []) v) ≡
    (is_some (assumed_value xs v) || l.variable == v)
assumed_push [] l v = ⊎_elim (λ t. rw t refl) (λ f. rw f refl) (cases_Bool (l.variable == v))
assumed_push (x ∷ xs) l v = ⊎_elim (λ t. rw t refl) (λ f. rw f (assumed_push xs l v)) (cases_Bool (x.variable == v))

pub assumed_more : (xs : List Literal) (i v : ℕ) (l : Literal) (old new : Bool) → i < length xs → l ≡ get_or xs i l
    → old ≡ is_some (assumed_value (take i xs) v) → new ≡ (old || l.variable == v)
    → new ≡ is_some (assumed_value (take (i + 1) xs) v)
assumed_more xs i v l old new within is before step =
    step ∙ ap (λ b. b || l.variable == v) before ∙ sym (assumed_push (take i xs) l v)
    ∙ ap (λ ys. is_some (assumed_value ys v)) (ap (λ m. take i xs ++ m ∷ []) is ∙ sym (take_more xs i l within))
