-- The scope with a number.
use Rattle.std.proofs.Common.{◌≡◌, ℕ, ◌+◌, ◌-◌, ◌<◌, List, [], length, get_or, Option, Some, None, sym, ap, ap₂, ◌∙◌, arith}
use Rattle.std.specs.Prelude.{◌==◌, slice_get, unwrap_or}
use Rattle.std.specs.Option.{option_map}
use Rattle.std.proofs.lemmas.Bool.{cond-false, ne_eqb}
use Rattle.prefix.specs.declared.quant.Quant.{Quant}
use Rattle.prefix.specs.Scopes.{Scope, quantifier_at, variables_at}
use Rattle.truth.proofs.OrderLemmas.{slice_get_in}

-- its quantifier and its variables make it
pub scope_found : (ss : List Scope) (i : ℕ) (d : Scope) (q : Quant) (found : Option Quant) (vs : List ℕ)
    → i < length ss
    → found ≡ quantifier_at ss (i + 1) → found ≡ Some q → vs ≡ variables_at ss (i + 1)
    → get_or ss i d ≡ record { quantifier = q; variables = vs }
scope_found ss i d q found vs low is some those =
    let back : i + 1 - 1 ≡ i = omega arith in
    let here : slice_get ss (i + 1 - 1) ≡ Some (get_or ss i d) = ap (slice_get ss) back ∙ slice_get_in ss i d low in
    let quantifier : Some q ≡ Some (get_or ss i d).quantifier =
    sym some ∙ is
    ∙ cond-false (i + 1 == 0) None (option_map (λ (s : Scope). s.quantifier) (slice_get ss (i + 1 - 1)))
    (ne_eqb (i + 1) 0 (λ e. omega arith))
    ∙ ap (option_map (λ (s : Scope). s.quantifier)) here in
    let same : q ≡ (get_or ss i d).quantifier = cc in
    let variables : vs ≡ (get_or ss i d).variables =
    those ∙ ap (λ o. unwrap_or (option_map (λ (s : Scope). s.variables) o) []) here in
    let Make : Quant → List ℕ → Scope = λ k us. record { quantifier = k; variables = us } in
    sym (ap₂ Make same variables)
