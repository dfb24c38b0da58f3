-- Lists of selectors.
use Rattle.std.proofs.Common.{◌≡◌, ℕ, zero, suc, ◌+◌, ◌*◌, ◌<◌, ◌≤◌, [], ◌∷◌, ◌++◌, ap, ◌∙◌, arith}
use Rattle.std.specs.List.{All}
use Rattle.std.proofs.lemmas.List.Elements.{All-cons}
use Rattle.certcheck.specs.Check.{selectors}

push : (first n : ℕ) → selectors first (suc n) ≡ selectors first n ++ 2 * (first + n) ∷ []
push first zero = let e : first ≡ first + 0 = omega arith in ap (λ p. 2 * p ∷ []) e
push first (suc n) =
    let e : suc first + n ≡ first + suc n = omega arith in
    ap (λ r. 2 * first ∷ r) (push (suc first) n ∙ ap (λ p. selectors (suc first) n ++ 2 * p ∷ []) e)

pub selectors_push : (first n : ℕ) → selectors first (n + 1) ≡ selectors first n ++ 2 * (first + n) ∷ []
selectors_push first n = let e : n + 1 ≡ suc n = omega arith in ap (selectors first) e ∙ push first n

pub selectors_small : (first n : ℕ) → first + n ≤ 1048577 → All (λ k. k < 2097154) (selectors first n)
selectors_small first zero h = λ k d below. absurd (omega arith)
selectors_small first (suc n) h =
    let here : 2 * first < 2097154 = omega (arith, h) in
    All-cons (λ k. k < 2097154) (2 * first) (selectors (suc first) n) here
    (selectors_small (suc first) n (omega (arith, h)))

-- a run of selectors in two parts
pub selectors_joined : (first a b : ℕ) → selectors first (a + b) ≡ selectors first a ++ selectors (first + a) b
selectors_joined first zero b =
    let none : zero + b ≡ b = omega arith in
    let here : first ≡ first + zero = omega arith in
    ap (selectors first) none ∙ ap (λ f. selectors f b) here
selectors_joined first (suc a) b =
    let more : suc a + b ≡ suc (a + b) = omega arith in
    let next : suc first + a ≡ first + suc a = omega arith in
    ap (selectors first) more
    ∙ ap (λ r. 2 * first ∷ r)
    (selectors_joined (suc first) a b ∙ ap (λ f. selectors (suc first) a ++ selectors f b) next)
