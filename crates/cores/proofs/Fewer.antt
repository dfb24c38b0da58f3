-- With fewer clauses a true formula stays true.
use Rattle.std.proofs.Common.{◌≡◌, Bool, true, false, List, [], ◌∷◌, Contains, Option, Some, None, ⊎_elim}
use Rattle.std.proofs.lemmas.Bool.{and_parts, and_from, or_cases, or_left, or_right}
use Rattle.prefix.specs.declared.quant.Quant.{Quant}
use Rattle.prefix.specs.declared.quant.Quant.TheVariants.{Exists, Forall}
use Rattle.prefix.specs.Literal.{Literal}
use Rattle.prefix.specs.Scopes.{BoundVariable, Scope, prefix_order}
use Rattle.calculus.proofs.Lists.{all_at, all_from}
use Rattle.truth.specs.Matrix.{Values, clause_true, no_values, with_value}
use Rattle.truth.specs.Truth.{assumed_value, joined_under, truth_under, truth_under_from}

-- each clause of one list is one of the other
abbrev pub IsPartOf : List (List Literal) → List (List Literal) → Type 0
IsPartOf fewer more = (c : List Literal) → Contains fewer c → Contains more c

joined_more : (o : Option Bool) (q : Quant) (f g : Bool → Bool) → ((b : Bool) → f b ≡ true → g b ≡ true)
    → joined_under o q f ≡ true → joined_under o q g ≡ true
joined_more (Some b) q f g h e = h b e
joined_more None Exists f g h e =
    ⊎_elim (λ l. or_left (g false) (g true) (h false l)) (λ r. or_right (g false) (g true) (h true r))
    (or_cases (f false) (f true) e)
joined_more None Forall f g h e =
    let parts = and_parts (f false) (f true) e in
    and_from (g false) (g true) (h false parts.0) (h true parts.1)

from_here : (asm : List Literal) (xs : List BoundVariable) (fewer more : List (List Literal)) (σ : Values)
    → IsPartOf fewer more → truth_under_from asm xs more σ ≡ true → truth_under_from asm xs fewer σ ≡ true
from_here asm [] fewer more σ part e =
    all_from (clause_true σ) fewer (λ c i. all_at (clause_true σ) more e c (part c i))
from_here asm (x ∷ xs) fewer more σ part e =
    joined_more (assumed_value asm x.variable) x.quantifier
    (λ b. truth_under_from asm xs more (with_value x.variable b σ))
    (λ b. truth_under_from asm xs fewer (with_value x.variable b σ))
    (λ b t. from_here asm xs fewer more (with_value x.variable b σ) part t) e

pub fewer_true : (asm : List Literal) (ss : List Scope) (fewer more : List (List Literal)) → IsPartOf fewer more
    → truth_under asm ss more ≡ true → truth_under asm ss fewer ≡ true
fewer_true asm ss fewer more part e = from_here asm (prefix_order ss) fewer more no_values part e
