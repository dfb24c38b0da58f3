-- Circuits without the gates that no output is reached from. Gates and their edges are those of AIGER 1.9.
use Rattle.std.specs.Prelude.{◌≡◌, ℕ, ◌<◌, ◌≤◌, ◌⊎◌, Bool, List, length, map, slice_index_or, Contains}
use Rattle.aig.specs.Circuits.{value_of}
use Rattle.aig.specs.Strategies.{IsStrategy, output_vars}
use Rattle.aig.specs.declared.edge.And.{And}
use Rattle.aig.specs.declared.edge.Edge.{Edge}
use Rattle.aig.specs.declared.edge.Node.{Node}
use Rattle.aig.specs.declared.edge.Node.TheVariants.{Constant, Input, Gate}
use Rattle.aig.specs.declared.strategy.Output.{Output}
use Rattle.aig.specs.declared.strategy.Strategy.{Strategy}

-- the gate of a circuit at a place
abbrev pub IsAt : List And → ℕ → And → Type 0
IsAt gates k g = (k < length gates) × (slice_index_or gates k g ≡ g)

-- one of a gate's two edges comes from the gate at a place
abbrev pub IsOver : And → ℕ → Type 0
IsOver g j = (g.left.node ≡ Gate j) ⊎ (g.right.node ≡ Gate j)

-- a gate that the edge of an output comes from, or an edge of a gate that is reached
pub data IsReached (s : Strategy) : ℕ → Type 0 where
  of_output : (o : Output) (j : ℕ) → Contains s.outputs o → o.edge.node ≡ Gate j → IsReached s j
  of_gate : (g : And) (k j : ℕ) → IsReached s k → IsAt s.aig.gates k g → IsOver g j → IsReached s j

-- The same winner and inputs, and outputs of the same variables in the same order with the same values at all inputs;
-- no more gates, and each of them is reached.
pub record IsTrimmed (old new : Strategy) : Type 0 where
  pub winner : new.winner ≡ old.winner
  pub inputs : new.inputs ≡ old.inputs
  pub strategy : IsStrategy new
  pub vars : output_vars new.outputs ≡ output_vars old.outputs
  pub values : (i : ℕ) (d : Output) (inputs : List Bool) → i < length old.outputs
      → value_of new.aig inputs (slice_index_or new.outputs i d).edge
      ≡ value_of old.aig inputs (slice_index_or old.outputs i d).edge
  pub size : length new.aig.gates ≤ length old.aig.gates
  pub reached : (j : ℕ) → j < length new.aig.gates → IsReached new j

-- an edge, a gate and an output where each gate has another place
abbrev pub moved_node : (ℕ → ℕ) → Node → Node
moved_node place Constant = Constant
moved_node place (Input i) = Input i
moved_node place (Gate j) = Gate (place j)

abbrev pub moved : (ℕ → ℕ) → Edge → Edge
moved place e = record { node = moved_node place e.node; negated = e.negated }

abbrev pub moved_gate : (ℕ → ℕ) → And → And
moved_gate place g = record { left = moved place g.left; right = moved place g.right }

abbrev pub moved_output : (ℕ → ℕ) → Output → Output
moved_output place o = record { var = o.var; edge = moved place o.edge }

-- exactly the gates that are reached, in their order, each at the place that it then has
pub record KeepsReached (old new : Strategy) : Type 0 where
  pub place : ℕ → ℕ
  pub rises : (i j : ℕ) → IsReached old i → IsReached old j → i < j → place i < place j
  pub within : (j : ℕ) → IsReached old j → place j < length new.aig.gates
  pub onto : (k : ℕ) → k < length new.aig.gates → (j : ℕ) × IsReached old j × (place j ≡ k)
  pub gates : (j : ℕ) (d : And) → IsReached old j
      → slice_index_or new.aig.gates (place j) d ≡ moved_gate place (slice_index_or old.aig.gates j d)
  pub outputs : new.outputs ≡ map (moved_output place) old.outputs
