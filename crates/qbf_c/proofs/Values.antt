-- The value that is told of a variable.
use Rattle.std.proofs.Common.{◌≡◌, ℕ, ℤ, Bool, Option, Some, None, ap, ap₂, ◌∙◌}
use Rattle.std.specs.Prelude.{IfSome}
use Rattle.prefix.specs.Literal.{Literal, signed_number}
use Rattle.truth.specs.Truth.{assumed_value}
use Rattle.calculus.specs.Rows.{Assignment}
use Rattle.engine.specs.State.{VerdictState}

abbrev literal : ℕ → Bool → Literal
literal x b = record { variable = x; positive = b }

-- of an assumed variable the number of the assumed literal is told
pub assumed_number : (o : Option VerdictState) (values : VerdictState → Assignment) (x : ℕ) (l : Literal) (n : ℤ)
    → n ≡ signed_number l → IfSome o (λ v. l ≡ record { variable = x; positive = values v x })
    → IfSome o (λ v. (b : Bool) → assumed_value v.assumptions x ≡ Some b → l.positive ≡ b)
    → IfSome o (λ v. (b : Bool) → assumed_value v.assumptions x ≡ Some b
    → n ≡ signed_number (record { variable = x; positive = b }))
assumed_number None values x l n is value assumed = tt
assumed_number (Some v) values x l n is value assumed = λ b at.
    is ∙ ap signed_number (ap₂ literal (ap (λ (k : Literal). k.variable) value) (assumed b at))
