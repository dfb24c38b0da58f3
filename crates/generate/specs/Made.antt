-- The formula that a seed, a number of variables and a number of clauses stand for.
use Rattle.std.specs.Prelude.{ℕ, ◌+◌, ◌-◌, ◌*◌, ◌/◌, ◌%◌, max, min, ◌==◌, nat_le, nat_lt, if◌then◌else◌, List, [], ◌∷◌, map}
use Rattle.std.specs.List.{range_with_len}
use Rattle.prefix.specs.declared.quant.Quant.{Quant}
use Rattle.prefix.specs.declared.quant.Quant.TheVariants.{Exists, Forall}
use Rattle.prefix.specs.Literal.{Literal}
use Rattle.prefix.specs.Scopes.{Scope}
use Rattle.truth.specs.declared.formula.Formula.{Formula}
use Rattle.generate.specs.Draws.{drawn, start_of}

-- Six numbers are drawn for each clause, so those of clause i have the numbers from 6 i to 6 i + 5. The first three
-- give three different places below v; place x is that of variable x + 1.

-- the first place
abbrev pub first_place : ℕ → ℕ → ℕ → ℕ
first_place start v i = drawn start (6 * i) v

-- the second place: one and so many steps more on from the first, where the last place is followed by place 0
abbrev pub second_from : ℕ → ℕ → ℕ → ℕ
second_from v x step = (x + 1 + step) % v

abbrev pub second_place : ℕ → ℕ → ℕ → ℕ
second_place start v i = second_from v (first_place start v i) (drawn start (6 * i + 1) (v - 1))

-- a place moved past a taken one that isn't above it
abbrev pub past : ℕ → ℕ → ℕ
past taken t = if nat_le taken t then t + 1 else t

-- the third place: moved past the lesser of two taken ones, and then past the greater
abbrev pub third_from : ℕ → ℕ → ℕ → ℕ
third_from x y t = past (max x y) (past (min x y) t)

abbrev pub third_place : ℕ → ℕ → ℕ → ℕ
third_place start v i =
    third_from (first_place start v i) (second_place start v i) (drawn start (6 * i + 2) (v - 2))

-- the literal at a place; the drawn sign 1 negates it
abbrev pub literal_at : ℕ → ℕ → Literal
literal_at place sign = record { variable = place + 1; positive = sign == 0 }

-- the literals of clause i in the order in which their signs are drawn
abbrev pub literals_drawn : ℕ → ℕ → ℕ → List Literal
literals_drawn start v i =
    literal_at (first_place start v i) (drawn start (6 * i + 3) 2)
    ∷ literal_at (second_place start v i) (drawn start (6 * i + 4) 2)
    ∷ literal_at (third_place start v i) (drawn start (6 * i + 5) 2)
    ∷ []

-- literals in the order of their variables
abbrev pub put : Literal → List Literal → List Literal
put l [] = l ∷ []
put l (k ∷ ks) = if nat_lt l.variable k.variable then l ∷ k ∷ ks else k ∷ put l ks

abbrev pub by_variable : List Literal → List Literal
by_variable [] = []
by_variable (l ∷ ls) = put l (by_variable ls)

-- clause i
abbrev pub clause_at : ℕ → ℕ → ℕ → List Literal
clause_at start v i = by_variable (literals_drawn start v i)

-- so many variables from one on, under a quantifier
abbrev pub scope_from : Quant → ℕ → ℕ → Scope
scope_from q first count = record { quantifier = q; variables = range_with_len first count }

-- The scopes over v variables: existential, universal, and existential again, the first two with a third of the
-- variables each, rounded down.
abbrev pub scopes_over : ℕ → List Scope
scopes_over v =
    scope_from Exists 1 (v / 3)
    ∷ scope_from Forall (v / 3 + 1) (v / 3)
    ∷ scope_from Exists (2 * (v / 3) + 1) (v - 2 * (v / 3))
    ∷ []

-- the first m clauses
abbrev pub clauses_from : ℕ → ℕ → ℕ → List (List Literal)
clauses_from start v m = map (clause_at start v) (range_with_len 0 m)

-- the formula of a seed, with v variables and m clauses
abbrev pub made : ℕ → ℕ → ℕ → Formula
made seed v m = record {
  prefix = scopes_over v;
  clauses = clauses_from (start_of seed) v m;
  declared_vars = v;
  declared_clauses = m;
}
