-- AIGER 1.9 in binary, as far as it describes circuits without latches: which bytes denote which circuit. This form is
-- that of the first AIGER (Biere, *The AIGER And-Inverter Graph (AIG) Format*, version 20071012).
use Rattle.std.specs.Prelude.{◌≡◌, ℕ, ◌+◌, ◌-◌, ◌*◌, ◌%◌, ◌<◌, ◌≤◌, false, List, [], ◌∷◌, ◌++◌, codes, length}
use Rattle.std.specs.List.{flat_map}
use Rattle.aig.specs.Circuits.{AreDistinct, IsGate, edge_number}
use Rattle.aig.specs.declared.edge.And.{And}
use Rattle.aig.specs.declared.edge.Node.TheVariants.{Gate}
use Rattle.aig.specs.declared.strategy.Strategy.{Strategy}
use Rattle.blocks.specs.Lines.{Line, line_text, text_of}
use Rattle.aiger_out.specs.Aag.{AreLiteralsOf, EachAt, IsInputSymbol, IsOutputLine, IsOutputSymbol, comment_lines, header_line}

-- the number that groups of 7 bits stand for, the lowest first; the high bit of a byte doesn't count
abbrev pub groups_number : List ℕ → ℕ
groups_number [] = 0
groups_number (byte ∷ bytes) = byte % 128 + 128 * groups_number bytes

-- The bytes of one number: all but the last have their high bit. There are no more of them than the number wants: what
-- follows a group isn't 0.
abbrev pub AreGroups : List ℕ → Type 0
AreGroups [] = ⊥
AreGroups (byte ∷ []) = byte < 128
AreGroups (byte ∷ next ∷ bytes) =
    (128 ≤ byte) × (byte < 256) × (0 < groups_number (next ∷ bytes)) × AreGroups (next ∷ bytes)

-- the bytes of a number
pub record IsDelta (number : ℕ) (bytes : List ℕ) : Type 0 where
  pub groups : AreGroups bytes
  pub value : groups_number bytes ≡ number

-- The gate at a place has the literal lhs of its edge, and is the conjunction of rhs0 and rhs1: the bytes of lhs - rhs0
-- and those of rhs0 - rhs1. So lhs itself isn't written. A gate is over inputs and earlier gates alone, and the greater
-- literal of the two comes first.
pub record IsGateBytes (inputs place : ℕ) (bytes : List ℕ) (gate : And) : Type 0 where
  pub lhs : ℕ
  pub rhs0 : ℕ
  pub rhs1 : ℕ
  pub first : List ℕ
  pub second : List ℕ
  pub parts : bytes ≡ first ++ second
  pub literal : lhs ≡ edge_number inputs (record { node = Gate place; negated = false })
  pub first_delta : IsDelta (lhs - rhs0) first
  pub second_delta : IsDelta (rhs0 - rhs1) second
  pub edges : AreLiteralsOf inputs gate rhs0 rhs1
  pub later : rhs0 < lhs
  pub ordered : rhs1 ≤ rhs0
  pub proper : IsGate inputs place gate

-- pieces one after the other, with nothing in between
abbrev pub joined : List (List ℕ) → List ℕ
joined pieces = flat_map (λ piece. piece) pieces

-- Bytes denote a strategy's circuit: they are the header `aig M I L O A` with the circuit's counts, a line for each
-- output, the bytes of each gate, a symbol for each input and output, whose name is the number of its variable, and the
-- comment. The inputs have no lines. No two gates have the same two edges.
pub record IsAigBytes (bytes : List ℕ) (s : Strategy) : Type 0 where
  pub output_lines : List Line
  pub gate_bytes : List (List ℕ)
  pub input_symbols : List Line
  pub output_symbols : List Line
  pub whole : bytes
      ≡ line_text (header_line (codes "aig") (length s.inputs) (length s.outputs) (length s.aig.gates))
      ++ (text_of output_lines ++ (joined gate_bytes
      ++ text_of (input_symbols ++ (output_symbols ++ comment_lines s.winner))))
  pub named : s.aig.inputs ≡ length s.inputs
  pub outputs : EachAt (IsOutputLine s.aig) 0 output_lines s.outputs
  pub gates : EachAt (IsGateBytes s.aig.inputs) 0 gate_bytes s.aig.gates
  pub distinct : AreDistinct s.aig.gates
  pub input_names : EachAt IsInputSymbol 0 input_symbols s.inputs
  pub output_names : EachAt IsOutputSymbol 0 output_symbols s.outputs
