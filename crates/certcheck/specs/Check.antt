-- The check formula of a circuit, which says that the circuit loses.
-- Its clauses are first written as circuit literals, as AIGER 1.9 writes those, and come to rows as the crate `builder`
-- says. Variable v of the circuit is variable v of the formula, and the selectors come behind those.
use Rattle.std.specs.Prelude.{ℕ, zero, suc, ◌+◌, ◌*◌, ◌==◌, Bool, if◌then◌else◌, List, [], ◌∷◌, ◌++◌, length, map, Option, Some, None}
use Rattle.std.specs.List.{flat_map, range_with_len}
use Rattle.prefix.specs.declared.quant.Quant.{Quant}
use Rattle.prefix.specs.declared.quant.Quant.TheVariants.{Exists, Forall}
use Rattle.prefix.specs.Literal.{Literal}
use Rattle.prefix.specs.Scopes.{Scope}
use Rattle.truth.specs.declared.formula.Formula.{Formula}
use Rattle.truth.specs.Truth.{assumed_value}
use Rattle.aig.specs.Circuits.{edge_number}
use Rattle.aig.specs.declared.edge.And.{And}
use Rattle.aig.specs.declared.strategy.Output.{Output}
use Rattle.aig.specs.declared.strategy.Strategy.{Strategy}
use Rattle.builder.specs.Rows.{flipped, rows_of}

-- a variable of the formula that was decided, with its literal in the circuit
pub record Named : Type 0 where
  pub variable : ℕ
  pub number : ℕ

-- the inputs, where as many come before them
abbrev pub named_inputs : ℕ → List ℕ → List Named
named_inputs place [] = []
named_inputs place (x ∷ xs) = record { variable = x; number = 2 * suc place } ∷ named_inputs (suc place) xs

-- the outputs
abbrev pub named_output : ℕ → Output → Named
named_output inputs o = record { variable = o.var; number = edge_number inputs o.edge }

abbrev pub named_outputs : ℕ → List Output → List Named
named_outputs inputs outputs = map (named_output inputs) outputs

-- all of them
abbrev pub names : Strategy → List Named
names s = named_inputs 0 s.inputs ++ named_outputs s.aig.inputs s.outputs

-- the circuit's literal of a variable
abbrev pub number_in : List Named → ℕ → ℕ
number_in [] x = 0
number_in (n ∷ ns) x = if n.variable == x then n.number else number_in ns x

-- a literal itself, or its opposite
abbrev pub number_when : Bool → ℕ → ℕ
number_when positive n = if positive then n else flipped n

-- the circuit's literal of a literal
abbrev pub number_of : List Named → Literal → ℕ
number_of ns l = number_when l.positive (number_in ns l.variable)

-- the clauses of the formula, over the circuit
abbrev pub numbered : List Named → List (List Literal) → List (List ℕ)
numbered ns clauses = map (map (number_of ns)) clauses

-- what says that a variable has its assumed value, if any
abbrev pub given_of : ℕ → Option Bool → List ℕ
given_of n None = []
given_of n (Some b) = number_when b n ∷ []

abbrev pub given : List Literal → List Named → List ℕ
given assumptions ns = flat_map (λ (n : Named). given_of n.number (assumed_value assumptions n.variable)) ns

-- a clause for each literal
abbrev pub units : List ℕ → List (List ℕ)
units ns = map (λ n. n ∷ []) ns

-- l is the conjunction of a and b
abbrev pub conjunction : ℕ → ℕ → ℕ → List (List ℕ)
conjunction l a b = (flipped l ∷ a ∷ []) ∷ (flipped l ∷ b ∷ []) ∷ (l ∷ flipped a ∷ flipped b ∷ []) ∷ []

-- each gate is the conjunction of its edges, in the circuit's order: the greater literal comes first
abbrev pub gate_clauses : ℕ → ℕ → List And → List (List ℕ)
gate_clauses inputs place [] = []
gate_clauses inputs place (g ∷ gates) =
    conjunction (2 * (inputs + place + 1)) (edge_number inputs g.left) (edge_number inputs g.right)
    ++ gate_clauses inputs (suc place) gates

-- a selector for each clause: where it is true the clause is false
abbrev pub falsified : ℕ → List (List ℕ) → List (List ℕ)
falsified first [] = []
falsified first (c ∷ cs) = map (λ n. flipped (2 * first) ∷ flipped n ∷ []) c ++ falsified (suc first) cs

-- one selector: where it is true all clauses are
abbrev pub satisfied : ℕ → List (List ℕ) → List (List ℕ)
satisfied first cs = map (λ c. flipped (2 * first) ∷ c) cs

-- the matrix is decided against the winner
abbrev pub lost : Quant → ℕ → List (List ℕ) → List (List ℕ)
lost Exists first cs = falsified first cs
lost Forall first cs = satisfied first cs

-- how many selectors that takes
abbrev pub lost_count : Quant → List (List Literal) → ℕ
lost_count Exists clauses = length clauses
lost_count Forall clauses = 1

-- so many selectors
abbrev pub selectors : ℕ → ℕ → List ℕ
selectors first zero = []
selectors first (suc n) = 2 * first ∷ selectors (suc first) n

-- the greatest variable of the circuit
abbrev pub greatest : Strategy → ℕ
greatest s = s.aig.inputs + length s.aig.gates

-- what says that an output has its assumed value, for each assumed output
abbrev pub given_outputs : List Literal → Strategy → List ℕ
given_outputs assumptions s = given assumptions (named_outputs s.aig.inputs s.outputs)

-- the variables: those of the circuit and the selectors
abbrev pub variable_count : List (List Literal) → List Literal → Strategy → ℕ
variable_count clauses assumptions s =
    greatest s + lost_count s.winner clauses + length (given_outputs assumptions s)

-- the selectors of the matrix, and those of the assumed outputs
abbrev pub all_selectors : List (List Literal) → List Literal → Strategy → List ℕ
all_selectors clauses assumptions s =
    selectors (greatest s + 1) (lost_count s.winner clauses)
    ++ selectors (greatest s + 1 + lost_count s.winner clauses) (length (given_outputs assumptions s))

-- Assumed inputs have their values; the gates are what they are; where its selector is true the matrix is decided
-- against the winner, or an assumed output has the wrong value; and a selector is true.
abbrev pub check_clauses : List (List Literal) → List Literal → Strategy → List (List ℕ)
check_clauses clauses assumptions s =
    units (given assumptions (named_inputs 0 s.inputs))
    ++ (gate_clauses s.aig.inputs 0 s.aig.gates
    ++ (lost s.winner (greatest s + 1) (numbered (names s) clauses)
    ++ (falsified (greatest s + 1 + lost_count s.winner clauses) (units (given_outputs assumptions s))
    ++ all_selectors clauses assumptions s ∷ [])))

-- one existential scope with the variables 1 to n, or none
abbrev pub scopes_to : ℕ → List Scope
scopes_to zero = []
scopes_to (suc n) = record { quantifier = Exists; variables = range_with_len 1 (suc n) } ∷ []

-- the formula of rows over existential variables 1 to n
abbrev pub formula_over : ℕ → List (List Literal) → Formula
formula_over n rows = record {
  prefix = scopes_to n;
  clauses = rows;
  declared_vars = n;
  declared_clauses = length rows;
}

-- the check formula of a circuit for clauses and assumptions
abbrev pub checked : List (List Literal) → List Literal → Strategy → Formula
checked clauses assumptions s =
    formula_over (variable_count clauses assumptions s) (rows_of (check_clauses clauses assumptions s))
