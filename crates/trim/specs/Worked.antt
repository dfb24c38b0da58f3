-- Worked values: three gates one of which is not reached, and what trimming makes of them.
use Rattle.std.specs.Prelude.{◌≡◌, ◌+◌, true, false, [], ◌∷◌, Some, None}
use Rattle.prefix.specs.declared.quant.Quant.TheVariants.{Exists, Forall}
use Rattle.aig.specs.Circuits.{Circuit, one, opposite, zero}
use Rattle.aig.specs.Worked.{both_gate, conjunction, gate, input, none_gate}
use Rattle.aig.specs.declared.edge.And.{And}
use Rattle.aig.specs.declared.edge.Edge.{Edge}
use Rattle.aig.specs.declared.edge.Node.TheVariants.{Gate, Input}
use Rattle.aig.specs.declared.strategy.Strategy.{Strategy}
use Rattle.trim.specs.Trimmed.{IsAt, IsOver, IsReached, IsTrimmed, KeepsReached, moved, moved_gate, moved_output}
use Rattle.trim.specs.Marks.{AreMarks, Rebuilds, gate_in, is_from, is_marked, is_over, output_through, rank, through}

-- the first input, and not none of both: the third gate of three
abbrev pub upper : And
upper = record { left = opposite (gate 1); right = input 0 }

abbrev pub three : Circuit
three = record { inputs = 2; gates = both_gate ∷ none_gate ∷ upper ∷ [] }

-- the same over the first gate
abbrev pub upper_of_two : And
upper_of_two = record { left = opposite (gate 0); right = input 0 }

-- the last two of them, with the gate that the last comes from at its place there
abbrev pub two : Circuit
two = record { inputs = 2; gates = none_gate ∷ upper_of_two ∷ [] }

-- 3 and 4 by these edges of a circuit over 1 and 2
abbrev pub with_outputs : Circuit → Edge → Edge → Strategy
with_outputs circuit a b = record {
  aig = circuit;
  winner = Exists;
  inputs = 1 ∷ 2 ∷ [];
  outputs = record { var = 3; edge = a } ∷ record { var = 4; edge = b } ∷ [];
}

-- 3 is the opposite of the last gate, and 4 the second; the first gate is not reached
abbrev pub untrimmed : Strategy
untrimmed = with_outputs three (opposite (gate 2)) (gate 1)

abbrev pub trimmed : Strategy
trimmed = with_outputs two (opposite (gate 1)) (gate 0)

-- 3 is 1, and the only gate is not reached
abbrev pub first_input : Strategy
first_input = record conjunction { outputs = record { var = 3; edge = input 0 } ∷ [] }

-- 3 by two gates, where one suffices: both of 1 and 2, and this and 1
abbrev pub repeated : Strategy
repeated = record conjunction {
  aig = record { inputs = 2; gates = both_gate ∷ record { left = gate 0; right = input 0 } ∷ [] };
  outputs = record { var = 3; edge = gate 1 } ∷ [];
}

-- edges and gates at other places, and what they come from
pub record WorkedEdges : Type 0 where
  pub gate_moved : moved (λ j. j + 7) (opposite (gate 2)) ≡ opposite (gate 9)
  pub input_stays : moved (λ j. j + 7) (opposite (input 2)) ≡ opposite (input 2)
  pub constant_stays : moved (λ j. j + 7) one ≡ one
  pub both_moved : moved_gate (λ j. j + 7) upper ≡ record { left = opposite (gate 8); right = input 0 }
  pub output_moved :
      moved_output (λ j. j + 7) (record { var = 4; edge = gate 1 }) ≡ record { var = 4; edge = gate 8 }
  pub comes_from : gate_in (Gate 2) ≡ Some 2
  pub comes_from_none : gate_in (Input 2) ≡ None
  pub from : is_from (opposite (gate 2)) 2 ≡ true
  pub not_from : is_from (opposite (gate 2)) 1 ≡ false
  pub not_from_gate : is_from (input 2) 2 ≡ false
  pub left_over : is_over upper 1 ≡ true
  pub right_over : is_over (record { left = gate 1; right = gate 0 }) 0 ≡ true
  pub not_over : is_over upper 0 ≡ false
  pub through_gate : through (zero ∷ input 1 ∷ gate 5 ∷ []) (opposite (gate 2)) ≡ opposite (gate 5)
  pub through_input : through (zero ∷ input 1 ∷ gate 5 ∷ []) (opposite (input 2)) ≡ opposite (input 2)
  pub output_through : output_through (zero ∷ gate 5 ∷ []) (record { var = 4; edge = gate 1 })
      ≡ record { var = 4; edge = gate 5 }

-- which gates are marked, and how many before a place
pub record WorkedMarks : Type 0 where
  pub marked : is_marked (false ∷ true ∷ []) 1 ≡ true
  pub unmarked : is_marked (false ∷ true ∷ []) 0 ≡ false
  pub behind : is_marked (false ∷ true ∷ []) 2 ≡ false
  pub none_before : rank (false ∷ true ∷ true ∷ []) 1 ≡ 0
  pub one_before : rank (false ∷ true ∷ true ∷ []) 2 ≡ 1
  pub two_before : rank (false ∷ true ∷ true ∷ []) 3 ≡ 2
  pub reached : AreMarks untrimmed untrimmed.outputs 0 (false ∷ true ∷ true ∷ [])
  pub too_many : AreMarks untrimmed untrimmed.outputs 0 (true ∷ true ∷ true ∷ []) → ⊥
  pub too_few : AreMarks untrimmed untrimmed.outputs 0 (false ∷ true ∷ false ∷ []) → ⊥
  pub not_closed : AreMarks (with_outputs three (gate 2) zero) [] 2 (false ∷ false ∷ true ∷ []) → ⊥
  pub closed_behind : AreMarks (with_outputs three (gate 2) zero) [] 3 (false ∷ false ∷ true ∷ [])

-- what is reached, and what isn't
pub record WorkedReached : Type 0 where
  pub at_place : IsAt three.gates 2 upper
  pub at_no_place : IsAt three.gates 1 upper → ⊥
  pub over_gate : IsOver upper 1
  pub over_input : IsOver upper 0 → ⊥
  pub from_output : IsReached untrimmed 2
  pub from_gate : IsReached (with_outputs three (gate 2) zero) 1
  pub not_reached : IsReached untrimmed 0 → ⊥

-- the two passes' results while the new circuit grows
pub record WorkedRebuilds : Type 0 where
  pub none : Rebuilds three (false ∷ true ∷ true ∷ []) 1 (zero ∷ []) (record { inputs = 2; gates = [] })
  pub one : Rebuilds three (false ∷ true ∷ true ∷ []) 2 (zero ∷ gate 0 ∷ [])
      (record { inputs = 2; gates = none_gate ∷ [] })
  pub all : Rebuilds three (false ∷ true ∷ true ∷ []) 3 (zero ∷ gate 0 ∷ gate 1 ∷ []) two
  pub too_many : Rebuilds three (false ∷ true ∷ true ∷ []) 3 (gate 0 ∷ gate 1 ∷ gate 2 ∷ []) three → ⊥
  pub other_edge : Rebuilds three (false ∷ true ∷ true ∷ []) 2 (zero ∷ opposite (gate 0) ∷ [])
      (record { inputs = 2; gates = none_gate ∷ [] }) → ⊥

-- what is trimmed, and what isn't
pub record WorkedTrims : Type 0 where
  pub whole : IsTrimmed untrimmed trimmed
  pub no_gate : IsTrimmed first_input (record first_input { aig = record { inputs = 2; gates = [] } })
  pub not_trimmed : IsTrimmed untrimmed untrimmed → ⊥
  pub other_sign : IsTrimmed untrimmed (with_outputs two (gate 1) (gate 0)) → ⊥
  pub other_order : IsTrimmed untrimmed (record trimmed {
    outputs = record { var = 4; edge = gate 0 } ∷ record { var = 3; edge = opposite (gate 1) } ∷ [];
  }) → ⊥
  pub other_winner : IsTrimmed untrimmed (record trimmed { winner = Forall }) → ⊥
  pub already_trimmed : IsTrimmed trimmed trimmed
  pub one_gate_more : IsTrimmed conjunction repeated → ⊥
  pub kept : KeepsReached untrimmed trimmed
  pub not_kept : KeepsReached untrimmed untrimmed → ⊥
  pub other_gate : KeepsReached untrimmed (with_outputs (record {
    inputs = 2;
    gates = none_gate ∷ record { left = gate 0; right = input 0 } ∷ [];
  }) (opposite (gate 1)) (gate 0)) → ⊥
