-- What the answer is, and the clauses of a part of the formula.
use Rattle.std.specs.Prelude.{◌≡◌, ℕ, ◌+◌, nat_lt, if◌then◌else◌, List, [], ◌∷◌, ◌++◌, length, map, Option, Some, None, Result, Ok, Err}
use Rattle.std.specs.Option.{option_map}
use Rattle.prefix.specs.declared.quant.Quant.{Quant}
use Rattle.prefix.specs.declared.quant.Quant.TheVariants.{Exists, Forall}
use Rattle.prefix.specs.Literal.{Literal}
use Rattle.truth.specs.declared.formula.Formula.{Formula}
use Rattle.reading.specs.declared.refusal.Quantity.{Quantity}
use Rattle.reading.specs.declared.refusal.Quantity.TheVariants.{Variables, Clauses, Literals}
use Rattle.truth.specs.Limits.{max_vars}
use Rattle.aig.specs.declared.strategy.Strategy.{Strategy}
use Rattle.builder.specs.declared.beyond.Beyond.{Beyond}
use Rattle.builder.specs.declared.beyond.Beyond.TheVariants.{Clauses as OfClauses, Literals as OfLiterals}
use Rattle.builder.specs.Building.{beyond_of}
use Rattle.builder.specs.Rows.{flipped}
use Rattle.certcheck.specs.declared.fault.CheckFault.{CheckFault}
use Rattle.certcheck.specs.declared.fault.CheckFault.TheVariants.{Limit, NoMemory}
use Rattle.certcheck.specs.Check.{names, numbered, lost, lost_count, falsified, units, selectors, greatest}

-- the quantity of a limit of rows
abbrev pub quantity_of : Beyond → Quantity
quantity_of OfClauses = Clauses
quantity_of OfLiterals = Literals

-- the limit that a formula goes beyond, if any: that of variables, else one of its rows
abbrev pub limit_of : Formula → Option Quantity
limit_of f = if nat_lt max_vars f.declared_vars then Some Variables else option_map quantity_of (beyond_of f.clauses)

-- The answer is the formula, or the limit that it goes beyond; want of memory says nothing.
abbrev pub IsAnswer : Result Formula CheckFault → Formula → Type 0
IsAnswer (Ok g) f = (g ≡ f) × (limit_of f ≡ None)
IsAnswer (Err (Limit quantity)) f = limit_of f ≡ Some quantity
IsAnswer (Err NoMemory) f = Unit {0}

-- how many selectors come before that of the clause at a place
abbrev pub selectors_before : Quant → ℕ → ℕ
selectors_before Exists place = place
selectors_before Forall place = 0

-- what its selector says of a clause: that it is false, or true
abbrev pub lost_clause : Quant → ℕ → List ℕ → List (List ℕ)
lost_clause Exists s c = map (λ n. flipped s ∷ flipped n ∷ []) c
lost_clause Forall s c = (flipped s ∷ c) ∷ []

-- what says that the circuit loses, with the literals that say it of the assumed outputs, behind the gates
abbrev pub losing_clauses : List (List Literal) → List ℕ → Strategy → List (List ℕ)
losing_clauses clauses outputs s =
    lost s.winner (greatest s + 1) (numbered (names s) clauses)
    ++ (falsified (greatest s + 1 + lost_count s.winner clauses) (units outputs)
    ++ selectors (greatest s + 1) (lost_count s.winner clauses + length outputs) ∷ [])
