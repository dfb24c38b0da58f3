-- The rules over what the reader keeps: scopes, marks of what is known, and counts.
use Rattle.std.specs.Prelude.{◌≡◌, ℕ, ℤ, ◌+◌, nat_abs, Bool, false, not, ◌&&◌, nat_le, List, [], ◌∷◌, length, slice_index_or, Option, None, Result, Ok, Err}
use Rattle.prefix.specs.declared.quant.Quant.{Quant}
use Rattle.prefix.specs.declared.quant.Quant.TheVariants.{Exists}
use Rattle.reading.specs.declared.refusal.Quantity.TheVariants.{Scopes, Clauses}
use Rattle.qdimacs.specs.Formula.{QuantSet}
use Rattle.qdimacs.specs.Kept.{last_differs}
use Rattle.qcir_reader.specs.declared.refusal.QcirRefusal.{QcirRefusal}
use Rattle.qcir_reader.specs.Rules.{Outcome, refused, limit, is_no_name, is_no_variable}
use Rattle.truth.specs.Limits.{max_scopes, max_clauses}
use Rattle.qcir_reader.specs.Answers.{Is}

-- whether a variable under this quantifier would begin a scope too many
abbrev pub is_beyond : Quant → List QuantSet → Bool
is_beyond q scopes = last_differs q scopes && nat_le max_scopes (length scopes)

abbrev pub variable_rules_kept : List Bool → List QuantSet → Quant → ℤ → ℕ → List (Bool × Outcome)
variable_rules_kept marks scopes q n line =
    (is_no_variable n, refused 71 line)
    ∷ (slice_index_or marks (nat_abs n) false, refused 73 line)
    ∷ (is_beyond q scopes, limit Scopes line)
    ∷ []

abbrev pub name_rules_kept : List Bool → List QuantSet → ℕ → ℤ → ℕ → List (Bool × Outcome)
name_rules_kept marks scopes amount n line =
    (is_no_variable n, refused 71 line)
    ∷ (slice_index_or marks (nat_abs n) false, refused 73 line)
    ∷ (is_beyond Exists scopes, limit Scopes line)
    ∷ (nat_le max_clauses amount, limit Clauses line)
    ∷ []

abbrev pub input_rules_kept : List Bool → ℕ → ℕ → ℤ → ℕ → List (Bool × Outcome)
input_rules_kept marks amount count n line =
    (is_no_name n, refused 71 line)
    ∷ (not (slice_index_or marks (nat_abs n) false), refused 74 line)
    ∷ (nat_le max_clauses (amount + count + 1), limit Clauses line)
    ∷ []

-- the end, for an output that is a literal
abbrev pub output_rules_kept : List Bool → ℤ → ℕ → List (Bool × Outcome)
output_rules_kept marks n line =
    (is_no_name n, refused 74 line) ∷ (not (slice_index_or marks (nat_abs n) false), refused 74 line) ∷ []

-- No rule refuses and the answer is this, or it is that of the first rule that refuses.
abbrev pub Checks : {A : Type 0} → Result A QcirRefusal → Option Outcome → A → Type 0
Checks (Ok x) found value = (found ≡ None) × (x ≡ value)
Checks (Err e) found value = Is e found
