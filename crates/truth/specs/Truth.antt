-- The truth of a closed formula in prenex form, by recursion over its variables in prefix order, as the textbooks and
-- QDIMACS 1.1 define it; and how many values this recursion tries.
use Rattle.std.specs.Prelude.{ℕ, ◌+◌, Bool, true, false, not, ◌==◌, ◌||◌, ◌&&◌, if◌then◌else◌, List, [], ◌∷◌, Option, Some, None}
use Rattle.prefix.specs.declared.quant.Quant.{Quant}
use Rattle.prefix.specs.declared.quant.Quant.TheVariants.{Exists, Forall}
use Rattle.prefix.specs.Literal.{Literal}
use Rattle.prefix.specs.Scopes.{Scope, BoundVariable, prefix_order}
use Rattle.truth.specs.Matrix.{Values, no_values, with_value, matrix_true}

-- the truth of `Q v` from those of what is left at the two values of v
abbrev pub joined : Quant → Bool → Bool → Bool
joined Exists a b = a || b
joined Forall a b = a && b

-- the truth of what is left, under the values so far
abbrev pub truth_from : List BoundVariable → List (List Literal) → Values → Bool
truth_from [] cs σ = matrix_true σ cs
truth_from (x ∷ xs) cs σ =
    joined x.quantifier (truth_from xs cs (with_value x.variable false σ))
    (truth_from xs cs (with_value x.variable true σ))

-- whether the answer at one value settles a variable
abbrev pub settles : Quant → Bool → Bool
settles Exists b = b
settles Forall b = not b

-- how many values are tried, false first, and true only where false doesn't settle the variable
abbrev pub plain_steps_from : List BoundVariable → List (List Literal) → Values → ℕ
plain_steps_from [] cs σ = 0
plain_steps_from (x ∷ xs) cs σ =
    let at_false = with_value x.variable false σ in
    if settles x.quantifier (truth_from xs cs at_false) then 1 + plain_steps_from xs cs at_false
    else 1 + plain_steps_from xs cs at_false + (1 + plain_steps_from xs cs (with_value x.variable true σ))

-- the value that an assumption gives a variable
abbrev pub assumed_value : List Literal → ℕ → Option Bool
assumed_value [] v = None
assumed_value (l ∷ ls) v = if l.variable == v then Some l.positive else assumed_value ls v

-- both values of a variable, or the assumed one
abbrev pub joined_under : Option Bool → Quant → (Bool → Bool) → Bool
joined_under None q f = joined q (f false) (f true)
joined_under (Some b) q f = f b

-- the truth where assumed variables take their assumed value alone
abbrev pub truth_under_from : List Literal → List BoundVariable → List (List Literal) → Values → Bool
truth_under_from asm [] cs σ = matrix_true σ cs
truth_under_from asm (x ∷ xs) cs σ =
    joined_under (assumed_value asm x.variable) x.quantifier
    (λ b. truth_under_from asm xs cs (with_value x.variable b σ))

-- the truth of a formula: of all its variables in prefix order, where none has a value yet
abbrev pub truth : List Scope → List (List Literal) → Bool
truth ss cs = truth_from (prefix_order ss) cs no_values

-- the same under assumptions
abbrev pub truth_under : List Literal → List Scope → List (List Literal) → Bool
truth_under asm ss cs = truth_under_from asm (prefix_order ss) cs no_values

-- how many values the plain recursion tries for a formula
abbrev pub plain_steps : List Scope → List (List Literal) → ℕ
plain_steps ss cs = plain_steps_from (prefix_order ss) cs no_values
