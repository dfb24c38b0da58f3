-- Clauses over variables of a prefix.
use Rattle.std.proofs.Common.{◌≡◌, ℕ, ◌≤◌, ℤ, nat_abs, Bool, true, false, ◌||◌, List, [], ◌∷◌, map, length, refl, sym, ap, ◌∙◌}
use Rattle.std.specs.Prelude.{◌==◌, is_some, Contains, pos}
use Rattle.std.specs.List.{AllByRecursion, list_all}
use Rattle.std.proofs.lemmas.List.{length-map}
use Rattle.std.proofs.lemmas.Bool.{eqb-true, and_parts}
use Rattle.prefix.specs.Literal.{Literal}
use Rattle.prefix.specs.Scopes.{Scope, is_among, level_of, all_variables, IsPrefix}
use Rattle.prefix.proofs.InsertionLemmas.{level_found}
use Rattle.calculus.specs.Rows.{Row, IsRow, variables_in}
use Rattle.calculus.proofs.Levels.{has_level}
use Rattle.calculus.proofs.Lists.{among_from, among_at, contains_map_of}
use Rattle.clauses.specs.Clause.{as_row, variables_of, has_literal}
use Rattle.clauses.specs.Codes.{IsInRange}
use Rattle.clauses.proofs.Ascending.{ascending_is, ascending_among}
use Rattle.frames.specs.Commands.{is_known}

among_all : (P : ℕ → Type 0) (vs : List ℕ) (v : ℕ) → AllByRecursion P vs → is_among v vs ≡ true → P v
among_all P [] v all e = absurd (cc)
among_all P (x ∷ xs) v all e = by (x == v) refl e (λ f. among_all P xs v all.1 f)
  where
    by : (b : Bool) → (x == v) ≡ b → (b || is_among v xs) ≡ true → (is_among v xs ≡ true → P v) → P v
    by true f g rest = rw (← eqb-true x v f) all.0
    by false f g rest = rest g

-- a variable of a prefix has a number in range
pub known_in_range : (scopes : List Scope) (v : ℕ) → IsPrefix scopes → is_some (level_of scopes v) ≡ true
    → (1 ≤ v) × (v ≤ 1048576)
known_in_range scopes v valid e = among_all (λ x. (1 ≤ x) × (x ≤ 1048576)) (all_variables scopes) v valid.in_range
    (sym (level_found scopes v) ∙ e)

pub all_in_range : (scopes : List Scope) (clause : List ℤ) → IsPrefix scopes → list_all (is_known scopes) clause
    ≡ true → AllByRecursion IsInRange clause
all_in_range scopes [] valid e = tt
all_in_range scopes (n ∷ ns) valid e =
    let parts = and_parts (is_known scopes n) (list_all (is_known scopes) ns) e in
    (known_in_range scopes (nat_abs n) valid parts.0, all_in_range scopes ns valid parts.1)

known_among : (scopes : List Scope) (clause : List ℤ) (v : ℕ) → list_all (is_known scopes) clause ≡ true
    → is_among v (map nat_abs clause) ≡ true → is_some (level_of scopes v) ≡ true
known_among scopes [] v e f = absurd (cc)
known_among scopes (n ∷ ns) v e f = by (nat_abs n == v) refl f (λ g. known_among scopes ns v parts.1 g)
  where
    parts : (is_known scopes n ≡ true) × (list_all (is_known scopes) ns ≡ true)
    parts = and_parts (is_known scopes n) (list_all (is_known scopes) ns) e

    by : (b : Bool) → (nat_abs n == v) ≡ b → (b || is_among v (map nat_abs ns)) ≡ true
        → (is_among v (map nat_abs ns) ≡ true → is_some (level_of scopes v) ≡ true) → is_some (level_of scopes v)
        ≡ true
    by true g h rest = ap (λ x. is_some (level_of scopes x)) (sym (eqb-true (nat_abs n) v g)) ∙ parts.0
    by false g h rest = rest h

row_variables : (clause : List ℤ) (vs : List ℕ) → variables_in
    (map (λ v. record { variable = v; positive = has_literal (pos v) clause }) vs) ≡ vs
row_variables clause [] = refl
row_variables clause (v ∷ vs) = ap (λ xs. v ∷ xs) (row_variables clause vs)

pub in_prefix : (scopes : List Scope) (v : ℕ) → is_some (level_of scopes v) ≡ true → Contains (all_variables scopes) v
in_prefix scopes v e = among_at (all_variables scopes) v (sym (level_found scopes v) ∙ e)

-- the row of a clause over the prefix
pub row_of_clause : (scopes : List Scope) (clause : List ℤ) → list_all (is_known scopes) clause ≡ true
    → IsRow scopes (as_row clause)
row_of_clause scopes clause e = record {
  ascending = rw (row_variables clause (variables_of clause)) (ascending_is (map nat_abs clause));
  over_prefix = λ l c.
      let there = contains_map_of (λ (m : Literal). m.variable) (as_row clause) l c in
      let among : is_among l.variable (variables_of clause)
      ≡ true = sym (ap (is_among l.variable) (row_variables clause (variables_of clause)))
      ∙ among_from (variables_in (as_row clause)) l.variable there in
      in_prefix scopes l.variable (known_among scopes clause l.variable e
      (sym (ascending_among l.variable (map nat_abs clause)) ∙ among));
}

pub row_length : (clause : List ℤ) → length (as_row clause) ≡ length (variables_of clause)
row_length clause = length-map (variables_of clause) _

-- rows stay rows where variables are added
pub rows_kept : (old new : List Scope) (rows : List Row)
    → ((v : ℕ) → is_some (level_of old v) ≡ true → is_some (level_of new v) ≡ true) → AllByRecursion (IsRow old) rows
    → AllByRecursion (IsRow new) rows
rows_kept old new [] h all = tt
rows_kept old new (r ∷ rs) h all = (
  record {
    ascending = all.0.ascending;
    over_prefix = λ l c. in_prefix new l.variable (h l.variable (has_level old l.variable (all.0.over_prefix l c)));
  },
  rows_kept old new rs h all.1,
)

-- a number out of range is no variable of a prefix
pub unknown : (scopes : List Scope) (n : ℤ) → IsPrefix scopes → ((1 ≤ nat_abs n) → (nat_abs n ≤ 1048576) → ⊥)
    → is_known scopes n ≡ false
unknown scopes n valid out = by (is_known scopes n) refl
  where
    by : (b : Bool) → is_known scopes n ≡ b → b ≡ false
    by true e = let range = known_in_range scopes (nat_abs n) valid e in absurd (out range.0 range.1)
    by false e = refl
