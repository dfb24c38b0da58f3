-- Marks of the gates that are reached, and tables with an edge of the new circuit for each gate of the old one.
use Rattle.std.specs.Prelude.{◌≡◌, ℕ, zero, suc, ◌+◌, ◌<◌, ◌≤◌, ◌==◌, if◌then◌else◌, Bool, true, false, ◌||◌, List, [], ◌∷◌, length, slice_index_or, Contains, Option, Some, None}
use Rattle.aig.specs.Circuits.{Circuit, opposite, value_of, zero as never}
use Rattle.aig.specs.declared.edge.And.{And}
use Rattle.aig.specs.declared.edge.Edge.{Edge}
use Rattle.aig.specs.declared.edge.Node.{Node}
use Rattle.aig.specs.declared.edge.Node.TheVariants.{Constant, Input, Gate}
use Rattle.aig.specs.declared.strategy.Output.{Output}
use Rattle.aig.specs.declared.strategy.Strategy.{Strategy}
use Rattle.trim.specs.Trimmed.{IsAt, IsOver, IsReached, moved_gate}

-- the place of the gate that an edge comes from
abbrev pub gate_in : Node → Option ℕ
gate_in Constant = None
gate_in (Input i) = None
gate_in (Gate j) = Some j

-- whether an edge comes from the gate at a place
abbrev pub is_at : Option ℕ → ℕ → Bool
is_at None j = false
is_at (Some k) j = k == j

abbrev pub is_from : Edge → ℕ → Bool
is_from e j = is_at (gate_in e.node) j

-- whether one of a gate's edges does
abbrev pub is_over : And → ℕ → Bool
is_over g j = is_from g.left j || is_from g.right j

-- whether the gate at a place is marked
abbrev pub is_marked : List Bool → ℕ → Bool
is_marked marks j = slice_index_or marks j false

-- Marks of gates that are reached. Those that these outputs come from are marked, and those that a marked gate from
-- this place on comes from.
pub record AreMarks (s : Strategy) (outputs : List Output) (from : ℕ) (marks : List Bool) : Type 0 where
  pub room : length marks ≡ length s.aig.gates
  pub sound : (j : ℕ) → is_marked marks j ≡ true → IsReached s j
  pub first : (o : Output) (j : ℕ) → Contains outputs o → o.edge.node ≡ Gate j → is_marked marks j ≡ true
  pub closed : (g : And) (k j : ℕ) → from ≤ k → is_marked marks k ≡ true → IsAt s.aig.gates k g → IsOver g j
      → is_marked marks j ≡ true

-- how many gates before a place are marked
abbrev pub rank : List Bool → ℕ → ℕ
rank [] j = 0
rank (b ∷ marks) zero = 0
rank (b ∷ marks) (suc j) = (if b then 1 else 0) + rank marks j

-- the edge of the gate at a place
abbrev pub edge_of : ℕ → Edge
edge_of j = record { node = Gate j; negated = false }

-- an edge, or the opposite one
abbrev pub with_sign : Bool → Edge → Edge
with_sign negated e = if negated then opposite e else e

-- what a table of gates' edges has for an edge
abbrev pub through_at : List Edge → Edge → Option ℕ → Edge
through_at table e None = e
through_at table e (Some j) = with_sign e.negated (slice_index_or table j never)

abbrev pub through : List Edge → Edge → Edge
through table e = through_at table e (gate_in e.node)

abbrev pub output_through : List Edge → Output → Output
output_through table o = record { var = o.var; edge = through table o.edge }

-- a circuit of the marked gates before a place, in their order, each with the value that it had; the table has their
-- edges
pub record Rebuilds (old : Circuit) (marks : List Bool) (upto : ℕ) (table : List Edge) (new : Circuit) : Type 0 where
  pub inputs : new.inputs ≡ old.inputs
  pub len : length table ≡ upto
  pub size : length new.gates ≡ rank marks upto
  pub edges : (j : ℕ) (d : Edge) → j < upto → is_marked marks j ≡ true
      → slice_index_or table j d ≡ edge_of (rank marks j)
  pub gates : (j : ℕ) (d : And) → j < upto → is_marked marks j ≡ true
      → slice_index_or new.gates (rank marks j) d ≡ moved_gate (rank marks) (slice_index_or old.gates j d)
  pub values : (j : ℕ) (inputs : List Bool) → j < upto → is_marked marks j ≡ true
      → value_of new inputs (edge_of (rank marks j)) ≡ value_of old inputs (edge_of j)
