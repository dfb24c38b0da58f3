-- The literals that are chosen for a cover.
use Rattle.std.specs.Prelude.{◌≡◌, ℕ, ◌≤◌, ◌⊎◌, Bool, false, ◌&&◌, ◌||◌, ◌==◌, if◌then◌else◌, nat_lt, true, IsTrue, IsFalse, List, Contains, Option, Some, None, slice_index_or}
use Rattle.std.specs.Bool.{beq}
use Rattle.prefix.specs.declared.quant.Quant.{Quant}
use Rattle.prefix.specs.declared.quant.Quant.TheVariants.{Exists, Forall}
use Rattle.prefix.specs.Literal.{Literal}
use Rattle.prefix.specs.Scopes.{Scope}
use Rattle.truth.specs.Matrix.{Values, literal_true}
use Rattle.calculus.specs.Rows.{Row, depth_of, is_pivot}

-- whether a literal is true, and of a variable with that quantifier
abbrev pub is_true_one : Quant → List Scope → Values → Literal → Bool
is_true_one quantifier scopes values literal = is_pivot quantifier scopes literal && literal_true values literal

-- a true literal of a clause with that quantifier, of the latest scope of those; none where there is no such literal
abbrev pub IsInnermost : Quant → List Scope → Values → Row → Option Literal → Type 0
IsInnermost quantifier scopes values clause None =
    (l : Literal) → Contains clause l → IsFalse (is_true_one quantifier scopes values l)
IsInnermost quantifier scopes values clause (Some taken) =
    Contains clause taken × IsTrue (is_true_one quantifier scopes values taken)
    × ((l : Literal) → Contains clause l → IsTrue (is_true_one quantifier scopes values l)
    → depth_of scopes l.variable ≤ depth_of scopes taken.variable)

-- a table that has the chosen literals at the numbers of their variables
abbrev pub Choices : Type 0
Choices = List (Option Literal)

-- the literal that is chosen over a variable, if there is one
abbrev pub chosen_at : Choices → ℕ → Option Literal
chosen_at table x = slice_index_or table x None

-- whether there is a literal, of this sign
abbrev pub has_sign : Option Literal → Bool → Bool
has_sign None positive = false
has_sign (Some literal) positive = beq literal.positive positive

-- whether a literal of this sign is chosen over the variable of a literal
abbrev pub is_chosen : Choices → Literal → Bool
is_chosen table literal = has_sign (chosen_at table literal.variable) literal.positive

-- whether a literal is to be taken in the place of that one, if there is one: it is of a later scope, or of the same
-- and chosen already
abbrev pub is_better : Choices → List Scope → Option Literal → Literal → Bool
is_better table scopes None literal = true
is_better table scopes (Some other) literal =
    nat_lt (depth_of scopes other.variable) (depth_of scopes literal.variable)
    || (depth_of scopes other.variable == depth_of scopes literal.variable && is_chosen table literal)

-- one more literal is chosen
abbrev pub Chooses : Choices → Choices → Literal → Type 0
Chooses old new literal = (x : ℕ) → chosen_at new x ≡ (if x == literal.variable then Some literal else chosen_at old x)

-- a literal that may stand in a cover: a true literal of a clause; an existential one is of the latest scope of the
-- clause's true existential ones, and a universal one is of a clause without a true existential one
pub record MayCover (scopes : List Scope) (values : Values) (matrix : List Row) (literal : Literal) : Type 0 where
  pub is_true : IsTrue (literal_true values literal)
  pub clause : Row
  pub stands : Contains matrix clause
  pub holds : Contains clause literal
  pub latest : IsTrue (is_pivot Exists scopes literal) → (m : Literal) → Contains clause m
      → IsTrue (is_true_one Exists scopes values m) → depth_of scopes m.variable ≤ depth_of scopes literal.variable
  pub alone : IsTrue (is_pivot Forall scopes literal) → (m : Literal) → Contains clause m
      → IsFalse (is_true_one Exists scopes values m)

-- each chosen literal stands at its variable, and may stand in a cover
abbrev pub AreChoices : List Scope → Values → List Row → Choices → Type 0
AreChoices scopes values matrix table = (x : ℕ) (l : Literal) → chosen_at table x ≡ Some l
    → (l.variable ≡ x) × MayCover scopes values matrix l

-- a literal of the clause is chosen
abbrev pub IsHit : Choices → Row → Type 0
IsHit table clause = (l : Literal) × Contains clause l × (chosen_at table l.variable ≡ Some l)

-- each clause with a true literal of that quantifier is hit
abbrev pub AreHitWith : Quant → List Scope → Values → List Row → Choices → Type 0
AreHitWith quantifier scopes values clauses table = (clause : Row) (l : Literal) → Contains clauses clause
    → Contains clause l → IsTrue (is_true_one quantifier scopes values l) → IsHit table clause

-- each clause is hit
abbrev pub AreHit : List Row → Choices → Type 0
AreHit clauses table = (clause : Row) → Contains clauses clause → IsHit table clause

-- each clause is hit, but for these others
abbrev pub AreHitBut : List Row → List Row → Choices → Type 0
AreHitBut others clauses table = (clause : Row) → Contains clauses clause → Contains others clause ⊎ IsHit table clause

-- Literals are chosen for these clauses: one of each clause with a true existential literal, and one of each clause but
-- for these others, which are some of them.
pub record AreChosenBut (scopes : List Scope) (values : Values) (others clauses : List Row)
    (table : Choices) : Type 0 where
  pub choices : AreChoices scopes values clauses table
  pub existential : AreHitWith Exists scopes values clauses table
  pub hit : AreHitBut others clauses table
  pub among : (clause : Row) → Contains others clause → Contains clauses clause
