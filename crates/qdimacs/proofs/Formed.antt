-- Formulas that were read: clauses over the prefix, within the limits.
use Rattle.std.proofs.Common.{◌≡◌, ℕ, suc, ◌+◌, ◌≤◌, ℤ, pos, nat_abs, Bool, true, false, not, ◌&&◌, ◌||◌, List, [], ◌∷◌, length, map, refl, sym, ap, subst, ◌∙◌, arith, length-append}
use Rattle.std.specs.Prelude.{◌==◌, if◌then◌else◌, filter, flat_map}
use Rattle.std.specs.List.{AllByRecursion}
use Rattle.std.proofs.lemmas.Bool.{eq-eqb, or_left, or_right}
use Rattle.std.proofs.lemmas.List.{map-append, length-map}
use Rattle.prefix.specs.declared.quant.Quant.TheVariants.{Exists}
use Rattle.prefix.specs.Literal.{Literal}
use Rattle.prefix.specs.Scopes.{Scope, all_variables, is_among, IsAscending}
use Rattle.prefix.proofs.ScopeLemmas.{is_among-append}
use Rattle.truth.specs.declared.formula.Formula.{Formula}
use Rattle.qdimacs.specs.Formula.{QuantSet, declared, formula_of, free, in_order, literals_of, matrix_of, occurring, scopes_of}
use Rattle.clauses.specs.Clause.{ascending, as_row, has_literal, is_tautology}
use Rattle.truth.specs.Formed.{IsClauseOver, IsFormed}
use Rattle.truth.specs.Limits.{max_clauses, max_literals}
use Rattle.clauses.proofs.Ascending.{ascending_among, ascending_is, ascending_short}
use Rattle.qdimacs.proofs.Finishing.{filter_among}
use Rattle.qdimacs.proofs.Merged.{merged_declared}

-- the variables of scopes in order are those that the sets declare
pub ordered_among : (v : ℕ) (sets : List QuantSet) → is_among v (all_variables (map in_order sets)) ≡ is_among v
    (declared sets)
ordered_among v [] = refl
ordered_among v (x ∷ xs) =
    is_among-append v (ascending x.1) (all_variables (map in_order xs))
    ∙ ap (λ b. b || is_among v (all_variables (map in_order xs))) (ascending_among v x.1)
    ∙ ap (λ b. is_among v x.1 || b) (ordered_among v xs)
    ∙ sym (is_among-append v x.1 (declared xs))

-- a variable that occurs is in a scope
known : (v : ℕ) (sets : List QuantSet) (clauses : List (List ℤ)) → is_among v (occurring clauses) ≡ true
    → is_among v (all_variables (map in_order (scopes_of sets clauses))) ≡ true
known v sets clauses occurs =
    ordered_among v (scopes_of sets clauses)
    ∙ ap (is_among v) (merged_declared ((Exists, free sets clauses) ∷ sets))
    ∙ is_among-append v (free sets clauses) (declared sets)
    ∙ ap (λ b. b || is_among v (declared sets))
    (filter_among v (λ u. not (is_among u (declared sets))) (occurring clauses)
    ∙ ap (λ b. b && not (is_among v (declared sets))) occurs)
    ∙ either (is_among v (declared sets))
  where
    either : (b : Bool) → ((true && not b) || b) ≡ true
    either true = refl
    either false = refl

-- the literal of a variable in the row of a clause
abbrev literal_in : List ℤ → ℕ → Literal
literal_in clause v = record { variable = v; positive = has_literal (pos v) clause }

variables_back : (clause : List ℤ) (vs : List ℕ) → map (λ (l : Literal). l.variable) (map (literal_in clause) vs) ≡ vs
variables_back clause [] = refl
variables_back clause (v ∷ vs) = ap (λ ws. v ∷ ws) (variables_back clause vs)

row_over : (scopes : List Scope) (clause : List ℤ) (vs : List ℕ)
    → ((v : ℕ) → is_among v vs ≡ true → is_among v (all_variables scopes) ≡ true)
    → AllByRecursion (λ (l : Literal). is_among l.variable (all_variables scopes) ≡ true) (map (literal_in clause) vs)
row_over scopes clause [] f = tt
row_over scopes clause (v ∷ vs) f = (
  f v (or_left (v == v) (is_among v vs) (eq-eqb v v refl)),
  row_over scopes clause vs
      (λ u h. f u (or_right (v == u) (is_among u vs) h)),
)

row_is : (scopes : List Scope) (clause : List ℤ)
    → ((v : ℕ) → is_among v (map nat_abs clause) ≡ true → is_among v (all_variables scopes) ≡ true)
    → IsClauseOver scopes (as_row clause)
row_is scopes clause f =
    let vs : List ℕ = ascending (map nat_abs clause) in (
      subst IsAscending (sym (variables_back clause vs)) (ascending_is (map nat_abs clause)),
      row_over scopes clause vs (λ v h. f v (sym (ascending_among v (map nat_abs clause)) ∙ h)),
    )

among_first : (v : ℕ) (clause : List ℤ) (clauses : List (List ℤ)) → is_among v (occurring (clause ∷ clauses)) ≡
    (is_among v (map nat_abs clause) || is_among v (occurring clauses))
among_first v clause clauses = ap (is_among v) (map-append nat_abs clause (literals_of clauses)) ∙ is_among-append v
    (map nat_abs clause) (occurring clauses)

rows_over : (scopes : List Scope) (clauses : List (List ℤ))
    → ((v : ℕ) → is_among v (occurring clauses) ≡ true → is_among v (all_variables scopes) ≡ true)
    → AllByRecursion (IsClauseOver scopes) (matrix_of clauses)
rows_over scopes [] f = tt
rows_over scopes (c ∷ cs) f =
    by (is_tautology c)
    (row_is scopes c
    (λ v h. f v (among_first v c cs ∙ or_left (is_among v (map nat_abs c)) (is_among v (occurring cs)) h)))
    (rows_over scopes cs
    (λ v h. f v (among_first v c cs ∙ or_right (is_among v (map nat_abs c)) (is_among v (occurring cs)) h)))
  where
    by : (t : Bool) → IsClauseOver scopes (as_row c) → AllByRecursion (IsClauseOver scopes) (matrix_of cs)
        → AllByRecursion (IsClauseOver scopes)
        (map as_row (if not t then c ∷ filter (λ d. not (is_tautology d)) cs else filter (λ d. not (is_tautology d))
        cs))
    by true one rest = rest
    by false one rest = (one, rest)

pub rows_few : (clauses : List (List ℤ)) → length (matrix_of clauses) ≤ length clauses
rows_few [] = omega arith
rows_few (c ∷ cs) = by (is_tautology c) (rows_few cs)
  where
    by : (t : Bool) → length (matrix_of cs) ≤ length cs
        → length (map as_row (if not t then c ∷ filter (λ d. not (is_tautology d)) cs else filter
        (λ d. not (is_tautology d)) cs)) ≤ suc (length cs)
    by true h = omega (arith, h)
    by false h = omega (arith, h)

-- how many literals rows have
abbrev amount_in : List (List Literal) → ℕ
amount_in rows = length (flat_map (λ row. row) rows)

row_short : (clause : List ℤ) → length (as_row clause) ≤ length clause
row_short clause = omega (
  arith,
  length-map (ascending (map nat_abs clause)) (literal_in clause),
  ascending_short
      (map nat_abs clause),
  length-map clause nat_abs,
)

literals_few : (clauses : List (List ℤ)) → amount_in (matrix_of clauses) ≤ length (literals_of clauses)
literals_few [] = omega arith
literals_few (c ∷ cs) = by (is_tautology c) (literals_few cs)
  where
    both : length (literals_of (c ∷ cs)) ≡ length c + length (literals_of cs)
    both = length-append c (literals_of cs)

    by : (t : Bool) → amount_in (matrix_of cs) ≤ length (literals_of cs)
        → amount_in
        (map as_row (if not t then c ∷ filter (λ d. not (is_tautology d)) cs else filter (λ d. not (is_tautology d))
        cs)) ≤ length (literals_of (c ∷ cs))
    by true h = omega (arith, h, both)
    by false h = omega (arith, h, both, row_short c, length-append (as_row c) (flat_map (λ row. row) (matrix_of cs)))

-- a formula of sets and clauses that keep to the limits
pub formed_of : (vars count : ℕ) (sets : List QuantSet) (clauses : List (List ℤ)) (f : Formula)
    → f ≡ formula_of vars count sets clauses → length clauses ≤ max_clauses → length (literals_of clauses) ≤
    max_literals → IsFormed f
formed_of vars count sets clauses f is few low = subst IsFormed (sym is) (record {
  rows = rows_over (map in_order (scopes_of sets clauses)) clauses (λ v h. known v sets clauses h);
  count = omega (arith, rows_few clauses, few);
  amount = omega (arith, literals_few clauses, low);
})
