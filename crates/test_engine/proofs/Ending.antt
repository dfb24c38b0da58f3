-- What the tests see of assumptions and of end rows.
use Rattle.std.proofs.Common.{◌≡◌, ℕ, ◌+◌, ◌<◌, ◌≤◌, Bool, true, false, IsTrue, List, length, drop, ◌==◌, if◌then◌else◌, get_or, Some, None, sym, ap, ◌∙◌}
use Rattle.std.proofs.lemmas.Bool.{cond-false, cond-true}
use Rattle.std.proofs.lemmas.List.{drop_all, drop_more}
use Rattle.prefix.specs.Literal.{Literal}
use Rattle.prefix.specs.Scopes.{Scope}
use Rattle.prefix.specs.declared.quant.Quant.{Quant}
use Rattle.truth.specs.Truth.{assumed_value}
use Rattle.calculus.specs.Rows.{is_bad_at, is_pivot}
use Rattle.calculus.specs.Verdicts.{is_assumed}

-- the value that assumptions from a place on give a variable

assumed_from : (xs : List Literal) (v k : ℕ) (x : Literal) → k < length xs → x ≡ get_or xs k x
    → assumed_value (drop k xs) v ≡ (if x.variable == v then Some x.positive else assumed_value (drop (k + 1) xs) v)
assumed_from xs v k x below is =
    ap (λ (ls : List Literal). assumed_value ls v) (drop_more xs k x below)
    ∙ ap (λ (l : Literal). if l.variable == v then Some l.positive else assumed_value (drop (k + 1) xs) v) (sym is)

pub assumed_next : (xs : List Literal) (v k : ℕ) (x : Literal) → k < length xs → x ≡ get_or xs k x
    → (x.variable == v) ≡ false → assumed_value (drop (k + 1) xs) v ≡ assumed_value (drop k xs) v
assumed_next xs v k x below is other =
    sym (assumed_from xs v k x below is
    ∙ cond-false (x.variable == v) (Some x.positive) (assumed_value (drop (k + 1) xs) v) other)

pub assumed_here : (xs : List Literal) (v k : ℕ) (x : Literal) → k < length xs → x ≡ get_or xs k x
    → (x.variable == v) ≡ true → assumed_value (drop k xs) v ≡ Some x.positive
assumed_here xs v k x below is same =
    assumed_from xs v k x below is
    ∙ cond-true (x.variable == v) (Some x.positive) (assumed_value (drop (k + 1) xs) v) same

pub assumed_past : (xs : List Literal) (v k : ℕ) → length xs ≤ k → assumed_value (drop k xs) v ≡ None
assumed_past xs v k past = ap (λ (ls : List Literal). assumed_value ls v) (drop_all k xs past)

-- a literal that may stand in an end row
pub record MayEnd (side : Quant) (scopes : List Scope) (assumptions : List Literal) (l : Literal) : Type 0 where
  pub pivot : IsTrue (is_pivot side scopes l) → IsTrue (is_assumed assumptions l)
  pub bad : (b : Bool) → assumed_value assumptions l.variable ≡ Some b → IsTrue (is_bad_at side b l)
