-- The theorems on derivations that callers cite, as statements for contracts.
use Rattle.std.specs.Prelude.{◌≡◌, ℕ, nat_lt, if◌then◌else◌, IsTrue, List, Contains, Some, None}
use Rattle.prefix.specs.declared.quant.Quant.TheVariants.{Exists}
use Rattle.prefix.specs.Scopes.{Scope, all_variables}
use Rattle.calculus.specs.Rows.{Row, variables_in}
use Rattle.calculus.specs.Derivations.{AgreeOn, Step, Why, Extends, IsDerivation}
use Rattle.calculus.specs.Derivations.Why.{Given}
use Rattle.derive.specs.State.{Note, State, OpenClause, next_id, is_live, is_step, note_at, side_at, row_of, why_at, steps_of, clauses_of, open_clauses, IsLegalFor}
use Rattle.derive.specs.Adding.{Adds, Removes}
use Rattle.derive.specs.Dropping.{Drops, is_from}
pub use Rattle.derive.specs.Growing.{Grows}

-- Each live step but a finish stays legal when the prefix gets scopes and variables.
abbrev pub PrefixesMayGrow : Type 0
PrefixesMayGrow = (old new : List Scope) (d : State) → Extends old new → IsLegalFor old d → IsLegalFor new d

-- a variable stands in the row of a live step
abbrev pub IsNamed : State → ℕ → Type 0
IsNamed d x = (id : ℕ) × IsTrue (is_live d id) × Contains (variables_in (row_of d id)) x

-- Each live step but a finish stays legal when the prefix changes and agrees with the old one on the variables of live
-- steps: the others may leave it.
abbrev pub PrefixesMayChange : Type 0
PrefixesMayChange = (old new : List Scope) (d : State) → AgreeOn old new (IsNamed d) → IsLegalFor old d
    → IsLegalFor new d

-- A prefix agrees with a larger one, from which variables left, on its own variables.
abbrev pub SmallerPrefixesAgree : Type 0
SmallerPrefixesAgree = (old new : List Scope) → Extends new old → AgreeOn old new (Contains (all_variables new))

-- The listed steps are those under the ids that `is_step` holds of, with the side, the row and the reason that are
-- told there.
pub record StepsAreListed : Type 0 where
  pub listed : (d : State) (id : ℕ) → IsTrue (is_step d id) →
      Contains (steps_of d) (record { id = id; side = side_at d id; row = row_of d id; why = why_at d id })
  pub stands : (d : State) (s : Step) → Contains (steps_of d) s → IsTrue (is_step d s.id)
  pub told : (d : State) (s : Step) → Contains (steps_of d) s →
      s ≡ record { id = s.id; side = side_at d s.id; row = row_of d s.id; why = why_at d s.id }

-- the ids from one on are dropped, and no other
pub record CutsTo (first : ℕ) (after cut : State) : Type 0 where
  pub drops : Drops (is_from first) after cut
  pub front : (id : ℕ) → note_at cut id ≡ (if nat_lt id first then note_at after id else None)

-- A derivation grows by added steps, and so by removals, and by growing twice. A cut to the id that came next before
-- gives the steps and the open clauses from before again, and is a growth.
pub record GrowthLaws : Type 0 where
  pub itself : (d : State) → Grows d d
  pub follows : (first middle last : State) → Grows first middle → Grows middle last → Grows first last
  pub adds : (before middle after : State) (id : ℕ) (note : Note) (row : Row) → Grows before middle →
      Adds middle after id note row → Grows before after
  pub removes : (before middle after : State) (id on : ℕ) (why : Why) (row : Row) → Grows before middle →
      Removes middle after id on why row → Grows before after
  pub restores : (before after cut : State) → Grows before after → CutsTo (next_id before) after cut →
      (steps_of cut ≡ steps_of before) × (clauses_of cut ≡ clauses_of before)
  pub cuts : (before after cut : State) → Grows before after → CutsTo (next_id before) after cut → Grows before cut

-- An open clause is an input step of the side of clauses, with its frame as tag, and with its row.
pub record ClausesAreListed : Type 0 where
  pub note : (d : State) (c : OpenClause) → Contains (clauses_of d) c →
      note_at d c.id ≡ Some (record { side = Exists; why = Given; tag = c.frame })
  pub row : (d : State) (c : OpenClause) → Contains (clauses_of d) c → row_of d c.id ≡ c.row

-- It is legal for every formula that has the open clauses, and no others, in whatever order and number.
abbrev pub SameClausesServe : Type 0
SameClausesServe = (scopes : List Scope) (d : State) (clauses : List Row) →
    ((row : Row) → Contains (open_clauses d) row → Contains clauses row) →
    ((row : Row) → Contains clauses row → Contains (open_clauses d) row) → IsLegalFor scopes d →
    IsDerivation scopes clauses (steps_of d)
