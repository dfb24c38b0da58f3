-- Worked values: small circuits whose values are known.
use Rattle.std.specs.Prelude.{◌≡◌, ℕ, ◌==◌, true, false, not, [], ◌∷◌}
use Rattle.prefix.specs.declared.quant.Quant.TheVariants.{Exists}
use Rattle.aig.specs.Circuits.{Circuit, zero, one, opposite, value_of, edge_number, gate_of, AreDistinct, AreGates, AreProper, Folds, IsGate, Makes}
use Rattle.aig.specs.Strategies.{IsStrategy, values_of}
use Rattle.aig.specs.declared.edge.And.{And}
use Rattle.aig.specs.declared.edge.Edge.{Edge}
use Rattle.aig.specs.declared.edge.Node.TheVariants.{Input, Gate}
use Rattle.aig.specs.declared.strategy.Strategy.{Strategy}

-- an input
abbrev pub input : ℕ → Edge
input i = record { node = Input i; negated = false }

-- a gate
abbrev pub gate : ℕ → Edge
gate j = record { node = Gate j; negated = false }

-- the second input and the first
abbrev pub both : Circuit
both = record { inputs = 2; gates = record { left = input 1; right = input 0 } ∷ [] }

-- a gate that is true where both inputs are, and one that is true where none is
abbrev pub both_gate : And
both_gate = record { left = input 1; right = input 0 }

abbrev pub none_gate : And
none_gate = record { left = opposite (input 1); right = opposite (input 0) }

-- a gate with its edges exchanged
abbrev pub exchanged : And → And
exchanged g = record { left = g.right; right = g.left }

-- both gates
abbrev pub both_and_none : Circuit
both_and_none = record { inputs = 2; gates = both_gate ∷ none_gate ∷ [] }

-- one of two inputs alone: neither both of them nor none
abbrev pub either : Circuit
either = record {
  inputs = 2;
  gates =
      record { left = input 1; right = input 0 }
      ∷ record { left = opposite (input 1); right = opposite (input 0) }
      ∷ record { left = opposite (gate 1); right = opposite (gate 0) }
      ∷ [];
}

-- 3 is to be the conjunction of 1 and 2
abbrev pub conjunction : Strategy
conjunction = record {
  aig = both;
  winner = Exists;
  inputs = 1 ∷ 2 ∷ [];
  outputs = record { var = 3; edge = gate 0 } ∷ [];
}

-- numbers in a circuit with two inputs: the constants, the inputs, then the gates
pub record WorkedNumbers : Type 0 where
  pub zero : edge_number 2 zero ≡ 0
  pub one : edge_number 2 one ≡ 1
  pub first_input : edge_number 2 (input 0) ≡ 2
  pub second_input : edge_number 2 (input 1) ≡ 4
  pub first_gate : edge_number 2 (gate 0) ≡ 6
  pub its_opposite : edge_number 2 (opposite (gate 0)) ≡ 7
  pub second_gate : edge_number 2 (gate 1) ≡ 8

-- what is a gate, as the first one over two inputs: no constant, no equal or opposite edges, and not over itself
pub record WorkedGates : Type 0 where
  pub of_inputs : IsGate 2 0 (record { left = input 1; right = opposite (input 0) })
  pub of_constant : IsGate 2 0 (record { left = one; right = input 0 }) → ⊥
  pub with_constant : IsGate 2 0 (record { left = input 0; right = zero }) → ⊥
  pub of_equals : IsGate 2 0 (record { left = input 0; right = input 0 }) → ⊥
  pub of_opposites : IsGate 2 0 (record { left = input 0; right = opposite (input 0) }) → ⊥
  pub of_itself : IsGate 2 0 (record { left = gate 0; right = input 0 }) → ⊥
  pub with_itself : IsGate 2 0 (record { left = input 0; right = gate 0 }) → ⊥
  pub of_no_input : IsGate 2 0 (record { left = input 2; right = input 0 }) → ⊥

-- an edge is that one
abbrev pub Is : Edge → Edge → Type 0
Is e f = f ≡ e

-- what a conjunction gives without a gate, and no other edge: with a constant on either side, of equal edges and of
-- opposite ones; of two different inputs it gives none, and these alone want a gate
pub record WorkedFolds : Type 0 where
  pub with_zero : Folds (input 0) zero (Is zero)
  pub zero_with : Folds zero (input 0) (Is zero)
  pub with_one : Folds (input 0) one (Is (input 0))
  pub one_with : Folds one (input 0) (Is (input 0))
  pub of_equals : Folds (opposite (input 0)) (opposite (input 0)) (Is (opposite (input 0)))
  pub of_opposites : Folds (input 0) (opposite (input 0)) (Is zero)
  pub of_different : Folds (input 0) (opposite (input 1)) (λ e. ⊥)
  pub not_other_with_zero : Folds (input 0) zero (Is (input 0)) → ⊥
  pub not_other_zero_with : Folds zero (input 0) (Is (input 0)) → ⊥
  pub not_one_with_one : Folds (input 0) one (Is one) → ⊥
  pub not_one_one_with : Folds one (input 0) (Is one) → ⊥
  pub not_zero_of_equals : Folds (input 0) (input 0) (Is zero) → ⊥
  pub not_either_of_opposites : Folds (input 0) (opposite (input 0)) (Is (input 0)) → ⊥
  pub different_are_proper : AreProper (input 0) (opposite (input 1))
  pub equals_are_not : AreProper (input 0) (input 0) → ⊥
  pub opposites_are_not : AreProper (input 0) (opposite (input 0)) → ⊥
  pub constant_is_not : AreProper one (input 0) → ⊥
  pub nor_at_right : AreProper (input 0) zero → ⊥

-- The gates of a circuit have the greater literal left, and no two have the same edges, in whichever order. So of two
-- edges there is one gate: it is found again where it stands, and put behind the others where it doesn't.
pub record WorkedSharing : Type 0 where
  pub different : AreGates 2 (both_gate ∷ none_gate ∷ [])
  pub gate_twice : AreGates 2 (both_gate ∷ both_gate ∷ []) → ⊥
  pub gate_again_later : AreGates 2 (both_gate ∷ none_gate ∷ both_gate ∷ []) → ⊥
  pub gate_in_other_order : AreDistinct (both_gate ∷ exchanged both_gate ∷ []) → ⊥
  pub lesser_left : AreGates 2 (exchanged both_gate ∷ []) → ⊥
  pub greater_given_last : gate_of 2 (input 0) (input 1) ≡ both_gate
  pub greater_given_first : gate_of 2 (input 1) (input 0) ≡ both_gate
  pub found_again : Makes both both (input 0) (input 1) (gate 0)
  pub not_put_again : Makes both (record { inputs = 2; gates = both_gate ∷ both_gate ∷ [] })
      (input 0) (input 1) (gate 1) → ⊥
  pub put : Makes both both_and_none (opposite (input 0)) (opposite (input 1)) (gate 1)
  pub not_found : Makes both both (opposite (input 0)) (opposite (input 1)) (gate 0) → ⊥
  pub other_not_found : Makes both_and_none both_and_none (input 0) (input 1) (gate 1) → ⊥

-- the values of both circuits
pub record WorkedCircuits : Type 0 where
  pub both_true : value_of both (true ∷ true ∷ []) (gate 0) ≡ true
  pub first_false : value_of both (false ∷ true ∷ []) (gate 0) ≡ false
  pub second_false : value_of both (true ∷ false ∷ []) (gate 0) ≡ false
  pub not_both : value_of both (true ∷ false ∷ []) (opposite (gate 0)) ≡ true
  pub second_input : value_of both (false ∷ true ∷ []) (input 1) ≡ true
  pub always_false : value_of both (true ∷ true ∷ []) zero ≡ false
  pub always_true : value_of both (true ∷ true ∷ []) one ≡ true
  pub either_of_none : value_of either (false ∷ false ∷ []) (gate 2) ≡ false
  pub either_of_first : value_of either (true ∷ false ∷ []) (gate 2) ≡ true
  pub either_of_second : value_of either (false ∷ true ∷ []) (gate 2) ≡ true
  pub either_of_both : value_of either (true ∷ true ∷ []) (gate 2) ≡ false

-- outputs have the circuit's values, all other variables those that they had; and each input has a variable, and each
-- output is an edge of the circuit
pub record WorkedStrategies : Type 0 where
  pub output_rises : values_of conjunction (λ x. not (x == 3)) 3 ≡ true
  pub output_falls : values_of conjunction (λ x. x == 1) 3 ≡ false
  pub input_stays : values_of conjunction (λ x. x == 1) 1 ≡ true
  pub other_input_stays : values_of conjunction (λ x. x == 1) 2 ≡ false
  pub other_stays : values_of conjunction (λ x. x == 4) 4 ≡ true
  pub whole : IsStrategy conjunction
  pub unnamed_input : IsStrategy (record conjunction { inputs = 1 ∷ [] }) → ⊥
  pub loose_output : IsStrategy (record conjunction { outputs = record { var = 3; edge = gate 1 } ∷ [] }) → ⊥
