-- The formula of the sets and clauses that were read.
use Rattle.std.specs.Prelude.{ℕ, ℤ, nat_abs, Bool, true, false, not, List, [], ◌∷◌, ◌++◌, map, filter, flat_map}
use Rattle.prefix.specs.Literal.{Literal}
use Rattle.prefix.specs.Scopes.{Scope, is_among}
use Rattle.clauses.specs.Clause.{as_row, ascending, is_tautology}
use Rattle.truth.specs.declared.formula.Formula.{Formula}
use Rattle.prefix.specs.declared.quant.Quant.{Quant}
use Rattle.prefix.specs.declared.quant.Quant.TheVariants.{Exists, Forall}

-- A quantifier with its variables, as a set of the text gives them (QDIMACS 1.1, input format: quant_set).
abbrev pub QuantSet : Type 0
QuantSet = Quant × List ℕ

abbrev pub same_quant : Quant → Quant → Bool
same_quant Exists Exists = true
same_quant Forall Forall = true
same_quant Exists Forall = false
same_quant Forall Exists = false

-- a scope in front of others; neighbours of one quantifier are one
abbrev pub join_if : Bool → Quant → List ℕ → Quant → List ℕ → List QuantSet → List QuantSet
join_if true q vs r us rest = (q, vs ++ us) ∷ rest
join_if false q vs r us rest = (q, vs) ∷ (r, us) ∷ rest

abbrev pub join : Quant → List ℕ → List QuantSet → List QuantSet
join q [] scopes = scopes
join q (v ∷ vs) [] = (q, v ∷ vs) ∷ []
join q (v ∷ vs) (scope ∷ rest) = join_if (same_quant q scope.0) q (v ∷ vs) scope.0 scope.1 rest

-- empty sets are left out, neighbours of one quantifier merged
abbrev pub merged : List QuantSet → List QuantSet
merged [] = []
merged (set ∷ sets) = join set.0 set.1 (merged sets)

-- the literals of clauses, one clause after another
abbrev pub literals_of : List (List ℤ) → List ℤ
literals_of clauses = flat_map (λ c. c) clauses

-- the variables that occur in these clauses
abbrev pub occurring : List (List ℤ) → List ℕ
occurring clauses = map nat_abs (literals_of clauses)

abbrev pub declared : List QuantSet → List ℕ
declared sets = flat_map (λ set. set.1) sets

-- the variables that occur in a clause and stand in no set
abbrev pub free : List QuantSet → List (List ℤ) → List ℕ
free sets clauses = filter (λ v. not (is_among v (declared sets))) (occurring clauses)

-- free variables are existential and outermost (QDIMACS 1.1, semantics of free variables)
abbrev pub scopes_of : List QuantSet → List (List ℤ) → List QuantSet
scopes_of sets clauses = merged ((Exists, free sets clauses) ∷ sets)

-- The scope of a merged set: its variables ascend.
abbrev pub in_order : QuantSet → Scope
in_order set = record { quantifier = set.0; variables = ascending set.1 }

-- The rows of the clauses that are no tautology.
abbrev pub matrix_of : List (List ℤ) → List (List Literal)
matrix_of clauses = map as_row (filter (λ c. not (is_tautology c)) clauses)

-- The formula of sets and clauses, with the two numbers of the header.
abbrev pub formula_of : ℕ → ℕ → List QuantSet → List (List ℤ) → Formula
formula_of vars count sets clauses = record {
  prefix = map in_order (scopes_of sets clauses);
  clauses = matrix_of clauses;
  declared_vars = vars;
  declared_clauses = count;
}
