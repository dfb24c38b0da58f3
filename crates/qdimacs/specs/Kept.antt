-- What the reader keeps of sets and clauses, and the rules over it.
use Rattle.std.specs.Prelude.{◌≡◌, ℕ, ◌≤◌, ℤ, nat_abs, Bool, true, false, not, ◌&&◌, nat_lt, nat_le, if◌then◌else◌, List, [], ◌∷◌, ◌++◌, length, map, slice_index_or, Option, None, Result, Ok, Err}
use Rattle.prefix.specs.Literal.{Literal}
use Rattle.prefix.specs.declared.quant.Quant.{Quant}
use Rattle.prefix.specs.declared.quant.Quant.TheVariants.{Exists}
use Rattle.prefix.specs.Scopes.{is_among, AreDistinct}
use Rattle.lexer.specs.declared.token.Word.TheVariants.{Num}
use Rattle.reading.specs.declared.refusal.ReadRefusal.{ReadRefusal}
use Rattle.reading.specs.declared.refusal.Quantity.TheVariants.{Scopes, Literals}
use Rattle.qdimacs.specs.declared.sets.Row.{Row}
use Rattle.qdimacs.specs.Formula.{QuantSet, same_quant, declared}
use Rattle.clauses.specs.Clause.{is_tautology, as_row}
pub use Rattle.builder.specs.NewScope.{AreNew}
use Rattle.qdimacs.specs.Rules.{Outcome, refused, limit}
use Rattle.truth.specs.Limits.{max_scopes, max_literals}
use Rattle.reading.specs.Words.{is_natural}
use Rattle.qdimacs.specs.Step.{Is}

-- The sets that rows stand for.
abbrev pub sets_of : List Row → List QuantSet
sets_of rows = map (λ (r : Row). (r.quant, r.vars.items)) rows

-- The marks say which numbers are in a list.
abbrev pub AreMarks : List Bool → List ℕ → Type 0
AreMarks marks vs = (v : ℕ) → slice_index_or marks v false ≡ is_among v vs

-- Whether a variable under this quantifier begins a scope behind these.
abbrev pub last_differs : Quant → List QuantSet → Bool
last_differs q [] = true
last_differs q (x ∷ []) = not (same_quant x.0 q)
last_differs q (x ∷ y ∷ rest) = last_differs q (y ∷ rest)

-- One more variable in the last scope.
abbrev pub with_last : ℕ → List QuantSet → List QuantSet
with_last v [] = []
with_last v (x ∷ []) = (x.0, x.1 ++ v ∷ []) ∷ []
with_last v (x ∷ y ∷ rest) = x ∷ with_last v (y ∷ rest)

-- One more variable joins the last scope, or begins one.
abbrev pub put_last : Quant → ℕ → List QuantSet → List QuantSet
put_last q v [] = (q, v ∷ []) ∷ []
put_last q v (x ∷ []) = if same_quant x.0 q then (x.0, x.1 ++ v ∷ []) ∷ [] else x ∷ (q, v ∷ []) ∷ []
put_last q v (x ∷ y ∷ rest) = x ∷ put_last q v (y ∷ rest)

-- Free variables behind those of an outermost existential scope, or in a scope of their own.
abbrev pub put_front : List ℕ → List QuantSet → List QuantSet
put_front [] scopes = scopes
put_front (v ∷ vs) [] = (Exists, v ∷ vs) ∷ []
put_front (v ∷ vs) (x ∷ rest) = if same_quant x.0 Exists then (x.0, x.1 ++ v ∷ vs) ∷ rest
    else (Exists, v ∷ vs) ∷ x ∷ rest

-- The rules of a variable, over marks and merged scopes.
abbrev pub variable_rules_kept : ℕ → List Bool → List QuantSet → Quant → ℤ → ℕ → List (Bool × Outcome)
variable_rules_kept vars marks scopes q n line =
    (not (is_natural (Num n) && nat_le (nat_abs n) vars), refused 12 line)
    ∷ (slice_index_or marks (nat_abs n) false, refused 13 line)
    ∷ (last_differs q scopes && nat_le max_scopes (length scopes), limit Scopes line)
    ∷ []

-- The rules of a literal, where so many came before it.
abbrev pub literal_rules_kept : ℕ → ℕ → ℤ → ℕ → List (Bool × Outcome)
literal_rules_kept vars amount n line =
    (nat_lt vars (nat_abs n), refused 12 line)
    ∷ (nat_le max_literals amount, limit Literals line)
    ∷ []

-- No rule refuses, or the answer is that of the first that does.
abbrev pub Checks : {A : Type 0} → Result A ReadRefusal → Option Outcome → Type 0
Checks (Ok x) found = found ≡ None
Checks (Err e) found = Is e found

-- The matrix with one more clause, unless it is a tautology.
abbrev pub with_clause : List ℤ → List (List Literal) → List (List Literal)
with_clause clause rows = if is_tautology clause then rows else rows ++ as_row clause ∷ []

-- Sets that a prefix takes as its scopes.
pub record AreScopes (sets : List QuantSet) : Type 0 where
  pub few : length sets ≤ 65536
  pub distinct : AreDistinct (declared sets)
  pub each : (v : ℕ) → is_among v (declared sets) ≡ true → (1 ≤ v) × (v ≤ 1048576)
