-- Worked values: what small cores remove, and what the first removal with a bad row forces.
use Rattle.std.specs.Prelude.{◌≡◌, ℕ, ◌==◌, true, false, List, [], ◌∷◌, Option, Some, None}
use Rattle.prefix.specs.declared.quant.Quant.TheVariants.{Exists, Forall}
use Rattle.prefix.specs.Literal.{Literal}
use Rattle.calculus.specs.Rows.{Row, Assignment}
use Rattle.calculus.specs.Limits.{gate_weight}
use Rattle.calculus.specs.Worked.{existential_first, universal_first}
use Rattle.calculus.specs.Derivations.{Inference}
use Rattle.calculus.specs.Derivations.Reason.{Input as ByInput, One as ByOne, Two as ByTwo}
use Rattle.aig.specs.Circuits.{Circuit}
use Rattle.aig.specs.declared.edge.Edge.{Edge}
use Rattle.aig.specs.declared.edge.Node.TheVariants.{Constant, Input as ByPlace}
use Rattle.step_core.specs.declared.listing.Line.{Line}
use Rattle.step_core.specs.declared.listing.CoreStep.TheVariants.{One, Two}
use Rattle.extract.specs.Removals.{Removed, first_bad, goes, removals, stands_over, weight_of, weights_of}
use Rattle.extract.specs.Tables.{Agrees, AreEdges, AreKept, Covers, CoversRemoved, CoversRow, IsAssumedEdge, IsInputEdge, IsPlayTable, IsReady, IsRuledEdge, Keeps, edge_of, removals_of_line, removed_of, unmarked}
use Rattle.extract.specs.declared.index.Removal.{Removal}

-- a variable as a literal
abbrev pub plus : ℕ → Literal
plus x = record { variable = x; positive = true }

-- its negation
abbrev pub minus : ℕ → Literal
minus x = record { variable = x; positive = false }

-- the clauses 1 2 and -1 -2 with their reductions 2 and -2 under e 2, a 1, and the empty resolvent
abbrev pub clause_core : List Inference
clause_core =
    record { row = plus 1 ∷ plus 2 ∷ []; reason = ByInput }
    ∷ record { row = minus 1 ∷ minus 2 ∷ []; reason = ByInput }
    ∷ record { row = plus 2 ∷ []; reason = ByOne (plus 1 ∷ plus 2 ∷ []) }
    ∷ record { row = minus 2 ∷ []; reason = ByOne (minus 1 ∷ minus 2 ∷ []) }
    ∷ record { row = []; reason = ByTwo (plus 2 ∷ []) (minus 2 ∷ []) 2 }
    ∷ []

-- the cubes -1 2 and 1 -2 with their reductions -1 and 1 under a 1, e 2, and the empty resolvent
abbrev pub cube_core : List Inference
cube_core =
    record { row = minus 1 ∷ plus 2 ∷ []; reason = ByInput }
    ∷ record { row = plus 1 ∷ minus 2 ∷ []; reason = ByInput }
    ∷ record { row = minus 1 ∷ []; reason = ByOne (minus 1 ∷ plus 2 ∷ []) }
    ∷ record { row = plus 1 ∷ []; reason = ByOne (plus 1 ∷ minus 2 ∷ []) }
    ∷ record { row = []; reason = ByTwo (plus 1 ∷ []) (minus 1 ∷ []) 1 }
    ∷ []

-- what the first of them removes of 1, and what the second removes of 2
abbrev pub of_one : List Removed
of_one = record { row = plus 2 ∷ []; value = false } ∷ record { row = minus 2 ∷ []; value = true } ∷ []

abbrev pub of_two : List Removed
of_two = record { row = minus 1 ∷ []; value = true } ∷ record { row = plus 1 ∷ []; value = false } ∷ []

-- two removals whose rows may be bad at once, in either order
abbrev pub three_first : List Removed
three_first =
    record { row = plus 3 ∷ []; value = false } ∷ record { row = plus 4 ∷ plus 5 ∷ []; value = true } ∷ []

abbrev pub three_last : List Removed
three_last =
    record { row = plus 4 ∷ plus 5 ∷ []; value = true } ∷ record { row = plus 3 ∷ []; value = false } ∷ []

-- one variable alone is true
abbrev pub only : ℕ → Assignment
only x y = x == y

-- what goes where a row is left, and what steps remove
pub record WorkedRemovals : Type 0 where
  pub stands : stands_over (plus 2 ∷ minus 3 ∷ []) 3 ≡ true
  pub stands_not : stands_over (plus 2 ∷ minus 3 ∷ []) 1 ≡ false
  pub goes_alone : goes 1 (plus 2 ∷ []) (plus 1) ≡ true
  pub stays : goes 2 (plus 2 ∷ []) (plus 2) ≡ false
  pub of_another : goes 2 [] (plus 1) ≡ false
  pub clauses : removals Exists 1 clause_core ≡ of_one
  pub resolvents_remove_none : removals Exists 2 clause_core ≡ []
  pub cubes : removals Forall 2 cube_core ≡ of_two

-- what the first removal with a bad row forces, which is not always what the last one does
pub record WorkedRules : Type 0 where
  pub first_bad_clause : first_bad Exists (only 1) of_one ≡ Some false
  pub second_bad_clause : first_bad Exists (only 2) of_one ≡ Some true
  pub first_bad_cube : first_bad Forall (only 2) of_two ≡ Some true
  pub second_bad_cube : first_bad Forall (only 1) of_two ≡ Some false
  pub both_bad : first_bad Exists (only 1) three_first ≡ Some false
  pub both_bad_turned : first_bad Exists (only 1) three_last ≡ Some true
  pub first_good : first_bad Exists (only 3) three_first ≡ Some true
  pub half_bad : first_bad Exists (only 5) three_last ≡ Some false
  pub cube_half_bad : first_bad Forall (only 4) three_last ≡ None
  pub none : first_bad Exists (only 2) [] ≡ None

-- the clause 1 2 3 of which a step leaves 2
abbrev pub two_go : List Inference
two_go =
    record { row = plus 1 ∷ plus 2 ∷ plus 3 ∷ []; reason = ByInput }
    ∷ record { row = plus 2 ∷ []; reason = ByOne (plus 1 ∷ plus 2 ∷ plus 3 ∷ []) }
    ∷ []

-- the cube -1 2 3 of which a step leaves 2 3, and the resolvent 2, which removes nothing
abbrev pub one_goes : List Inference
one_goes =
    record { row = minus 1 ∷ plus 2 ∷ plus 3 ∷ []; reason = ByInput }
    ∷ record { row = plus 2 ∷ plus 3 ∷ []; reason = ByOne (minus 1 ∷ plus 2 ∷ plus 3 ∷ []) }
    ∷ record { row = plus 2 ∷ []; reason = ByTwo (plus 2 ∷ plus 3 ∷ []) (plus 2 ∷ minus 3 ∷ []) 3 }
    ∷ []

-- a removal costs a gate for each literal of its row and one more: the row that is left, for each literal that goes
pub record WorkedWeights : Type 0 where
  pub nothing : weight_of [] ≡ 0
  pub both : weight_of three_first ≡ 5
  pub of_each : weights_of (λ x. removals Exists x clause_core) (2 ∷ 1 ∷ []) ≡ 4
  pub two_removed : weights_of (λ x. removals Exists x two_go) (1 ∷ 2 ∷ 3 ∷ []) ≡ 4
  pub two_removed_gates : gate_weight two_go ≡ 4
  pub one_removed : weights_of (λ x. removals Forall x one_goes) (3 ∷ 2 ∷ 1 ∷ []) ≡ 3
  pub one_removed_gates : gate_weight one_goes ≡ 3

-- the rows of the first core
abbrev pub clause_rows : List Row
clause_rows =
    (plus 1 ∷ plus 2 ∷ []) ∷ (minus 1 ∷ minus 2 ∷ []) ∷ (plus 2 ∷ []) ∷ (minus 2 ∷ []) ∷ [] ∷ []

-- its third step, and its last
abbrev pub third : Line
third = record { lits = plus 2 ∷ []; step = One 1 }

abbrev pub last : Line
last = record { lits = []; step = Two 3 4 2 }

-- the constant true
abbrev pub always : Edge
always = record { node = Constant; negated = true }

-- the removals of the first core by variable: of 1, where 2 and -2 are left
abbrev pub clause_index : List (List Removal)
clause_index = [] ∷ (record { step = 2; value = false } ∷ record { step = 3; value = true } ∷ []) ∷ []

-- the rows of the second core, and its removals: of 2, where -1 and 1 are left
abbrev pub cube_rows : List Row
cube_rows =
    (minus 1 ∷ plus 2 ∷ []) ∷ (plus 1 ∷ minus 2 ∷ []) ∷ (minus 1 ∷ []) ∷ (plus 1 ∷ []) ∷ [] ∷ []

abbrev pub cube_index : List (List Removal)
cube_index = [] ∷ [] ∷ (record { step = 2; value = true } ∷ record { step = 3; value = false } ∷ []) ∷ []

-- the constant false
abbrev pub never : Edge
never = record { node = Constant; negated = false }

-- a circuit with an input and no gate, its edge, and the opposite one
abbrev pub wire : Circuit
wire = record { inputs = 1; gates = [] }

abbrev pub same : Edge
same = record { node = ByPlace 0; negated = false }

abbrev pub other : Edge
other = record { node = ByPlace 0; negated = true }

-- tables over 1 and 2: an edge for 2 alone, and for both of them
abbrev pub one_edge : Edge → List (Option Edge)
one_edge b = None ∷ None ∷ Some b ∷ []

abbrev pub two_edges : Edge → Edge → List (Option Edge)
two_edges a b = None ∷ Some a ∷ Some b ∷ []

-- tables by variable, and removals by the places of their steps, which count from 0
pub record WorkedTables : Type 0 where
  pub edge : edge_of (None ∷ Some always ∷ []) 1 ≡ Some always
  pub no_edge : edge_of (None ∷ Some always ∷ []) 0 ≡ None
  pub past_the_table : edge_of (None ∷ Some always ∷ []) 2 ≡ None
  pub at_its_place : removals_of_line Exists 1 2 clause_rows third ≡ record { step = 2; value = false } ∷ []
  pub of_none : removals_of_line Exists 2 2 clause_rows third ≡ []
  pub of_resolvent : removals_of_line Exists 2 4 clause_rows last ≡ []
  pub stands_for :
      removed_of clause_rows (record { step = 2; value = false }) ≡ record { row = plus 2 ∷ []; value = false }
  pub stamped : unmarked (0 ∷ 0 ∷ 3 ∷ []) Exists 2 2 (plus 1 ∷ plus 2 ∷ []) ≡ []
  pub stamped_before : unmarked (0 ∷ 0 ∷ 2 ∷ []) Exists 2 2 (plus 1 ∷ plus 2 ∷ [])
      ≡ record { step = 2; value = false } ∷ []
  pub past_the_stamps : unmarked (0 ∷ []) Forall 1 2 (plus 1 ∷ plus 2 ∷ [])
      ≡ record { step = 2; value = true } ∷ []

-- values that agree with a table, what a table covers, edges that stand, and a table that keeps another's edges
pub record WorkedCovers : Type 0 where
  pub agrees : Agrees wire (true ∷ []) (two_edges same same) (λ x. true)
  pub agrees_not : Agrees wire (true ∷ []) (two_edges same same) (only 2) → ⊥
  pub covers : Covers (one_edge same) (2 ∷ [])
  pub covers_not : Covers (one_edge same) (2 ∷ 1 ∷ []) → ⊥
  pub row : CoversRow (one_edge same) (minus 2 ∷ [])
  pub row_not : CoversRow (one_edge same) (plus 1 ∷ plus 2 ∷ []) → ⊥
  pub removed : CoversRemoved (one_edge same) of_one
  pub removed_not : CoversRemoved (one_edge same) of_two → ⊥
  pub stand : AreEdges wire (two_edges always other)
  pub stand_not : AreEdges (record { inputs = 0; gates = [] }) (one_edge same) → ⊥
  pub keeps : Keeps (one_edge same) (two_edges always same)
  pub keeps_not : Keeps (one_edge same) (two_edges always other) → ⊥

-- the edges of an input and of assumed variables
pub record WorkedGiven : Type 0 where
  pub input : IsInputEdge wire (2 ∷ []) 2 same
  pub opposite_input : IsInputEdge wire (2 ∷ []) 2 other → ⊥
  pub no_input : IsInputEdge wire (2 ∷ []) 1 same → ⊥
  pub assumed : IsAssumedEdge (plus 1 ∷ []) 1 always
  pub assumed_false : IsAssumedEdge (minus 1 ∷ []) 1 never
  pub turned : IsAssumedEdge (minus 1 ∷ []) 1 always → ⊥
  pub not_assumed : IsAssumedEdge (plus 1 ∷ []) 2 always → ⊥

-- edges by the rule: 1 gets the value of 2 from the first core, and 2 the opposite of 1 from the second; what is kept
-- for rows; and what has to stand before the rule is asked
pub record WorkedEdges : Type 0 where
  pub ruled : IsRuledEdge Exists clause_rows clause_index wire (two_edges same same) 1
  pub ruled_not : IsRuledEdge Exists clause_rows clause_index wire (two_edges always same) 1 → ⊥
  pub cubes : IsRuledEdge Forall cube_rows cube_index wire (two_edges same other) 2
  pub cubes_not : IsRuledEdge Forall cube_rows cube_index wire (two_edges same same) 2 → ⊥
  pub kept : AreKept Exists clause_rows wire (one_edge same) (one_edge other)
  pub kept_not : AreKept Exists clause_rows wire (one_edge same) (one_edge same) → ⊥
  pub ready : IsReady clause_rows clause_index (1 ∷ []) (one_edge same)
  pub ready_in_order : IsReady clause_rows clause_index (2 ∷ 1 ∷ []) []
  pub ready_not : IsReady clause_rows clause_index (1 ∷ 2 ∷ []) [] → ⊥

-- the whole tables of both cores, and one with 1 assumed false, which the rule isn't asked for
pub record WorkedPlays : Type 0 where
  pub clauses : IsPlayTable Exists existential_first [] clause_core (2 ∷ []) wire (two_edges same same)
  pub clauses_not : IsPlayTable Exists existential_first [] clause_core (2 ∷ []) wire (two_edges always same) → ⊥
  pub half : IsPlayTable Exists existential_first [] clause_core (2 ∷ []) wire (one_edge same) → ⊥
  pub cubes : IsPlayTable Forall universal_first [] cube_core (1 ∷ []) wire (two_edges same other)
  pub cubes_not : IsPlayTable Forall universal_first [] cube_core (1 ∷ []) wire (two_edges same same) → ⊥
  pub given : IsPlayTable Exists universal_first (minus 1 ∷ []) [] (2 ∷ []) wire (two_edges never same)
  pub given_not : IsPlayTable Exists universal_first (minus 1 ∷ []) [] (2 ∷ []) wire (two_edges always same) → ⊥
