use Rattle.std.proofs.Common.{◌≡◌, true, false, List, [], ◌∷◌, refl, ap, ◌∙◌}
use Rattle.prefix.specs.Literal.{Literal}
use Rattle.prefix.specs.Scopes.{BoundVariable, prefix_order}
use Rattle.truth.specs.Matrix.{Values, no_values, with_value}
use Rattle.truth.specs.Truth.{truth_from, truth_under_from, joined}
use Rattle.truth.proofs.laws.no_assumptions.Goals as goal

-- the same of what is left, under the values so far
from_here : (xs : List BoundVariable) (cs : List (List Literal)) (σ : Values) → truth_under_from [] xs cs σ ≡ truth_from
    xs cs σ
from_here [] cs σ = refl
from_here (x ∷ xs) cs σ =
    ap (λ b. joined x.quantifier b (truth_under_from [] xs cs (with_value x.variable true σ)))
    (from_here xs cs (with_value x.variable false σ))
    ∙ ap (joined x.quantifier (truth_from xs cs (with_value x.variable false σ)))
    (from_here xs cs (with_value x.variable true σ))

pub returns : goal.returns
returns c ss cs = from_here (prefix_order ss) cs no_values
