-- Worked values of the binary form: numbers, gates and whole circuits.
use Rattle.std.specs.Prelude.{ℕ, List, [], ◌∷◌, ◌++◌, codes}
use Rattle.aig.specs.Circuits.{opposite}
use Rattle.aig.specs.Worked.{both_gate, conjunction, exchanged, gate, input, none_gate}
use Rattle.aiger_out.specs.Binary.{IsAigBytes, IsDelta, IsGateBytes}
use Rattle.aiger_out.specs.Worked.{conjunction_exchanged, conjunction_text, negation, one_alone, over}

-- Numbers with their bytes, the lowest group first, and bytes that aren't those of the number.
pub record WorkedDeltas : Type 0 where
  pub zero : IsDelta 0 (0 ∷ [])
  pub one_byte : IsDelta 127 (127 ∷ [])
  pub two_bytes : IsDelta 128 (128 ∷ 1 ∷ [])
  pub three_hundred : IsDelta 300 (172 ∷ 2 ∷ [])
  pub three_bytes : IsDelta 16384 (128 ∷ 128 ∷ 1 ∷ [])
  pub no_bytes : IsDelta 0 [] → ⊥
  pub without_high_bit : IsDelta 300 (44 ∷ 2 ∷ []) → ⊥
  pub high_bit_at_end : IsDelta 300 (172 ∷ 130 ∷ []) → ⊥
  pub highest_first : IsDelta 300 (130 ∷ 44 ∷ []) → ⊥
  pub longer : IsDelta 127 (255 ∷ 0 ∷ []) → ⊥
  pub longer_by_a_third : IsDelta 300 (172 ∷ 130 ∷ 0 ∷ []) → ⊥
  pub no_byte : IsDelta 300 (300 ∷ []) → ⊥
  pub no_byte_in_front : IsDelta 300 (428 ∷ 2 ∷ []) → ⊥

-- Gates over two inputs with their bytes, whichever edge comes first in memory, the second and the third one of them,
-- and one over 151 inputs. Then bytes that are none of theirs: with the lesser literal first, in more groups than are
-- wanted, at another place, with places that count double, of another gate, and of a gate over itself.
pub record WorkedGateBytes : Type 0 where
  pub of_gate : IsGateBytes 2 0 (2 ∷ 2 ∷ []) both_gate
  pub of_exchanged_gate : IsGateBytes 2 0 (2 ∷ 2 ∷ []) (exchanged both_gate)
  pub of_second_gate : IsGateBytes 2 1 (3 ∷ 2 ∷ []) none_gate
  pub of_third_gate : IsGateBytes 2 2 (1 ∷ 2 ∷ []) (over (opposite (gate 1)) (opposite (gate 0)))
  pub of_far_gate : IsGateBytes 151 0 (172 ∷ 2 ∷ 2 ∷ []) both_gate
  pub lesser_first : IsGateBytes 2 0 (4 ∷ 2 ∷ []) both_gate → ⊥
  pub longer : IsGateBytes 2 0 (2 ∷ 130 ∷ 0 ∷ []) both_gate → ⊥
  pub other_place : IsGateBytes 2 1 (2 ∷ 2 ∷ []) both_gate → ⊥
  pub doubled_place : IsGateBytes 2 1 (5 ∷ 2 ∷ []) none_gate → ⊥
  pub other_gate : IsGateBytes 2 0 (2 ∷ 2 ∷ []) (over (input 1) (opposite (input 0))) → ⊥
  pub of_itself : IsGateBytes 2 0 (0 ∷ 2 ∷ []) (over (gate 0) (input 1)) → ⊥

-- the names and the comment of the conjunction, and those of three gates
abbrev pub conjunction_end : List ℕ
conjunction_end = codes "i0 1\ni1 2\no0 3\nc\nskolem\n"

abbrev pub one_alone_end : List ℕ
one_alone_end = codes "i0 2\ni1 7\no0 5\no1 9\nc\nskolem\n"

-- the bytes of three circuits
abbrev pub conjunction_bytes : List ℕ
conjunction_bytes = codes "aig 3 2 0 1 1\n6\n" ++ (2 ∷ 2 ∷ conjunction_end)

abbrev pub negation_bytes : List ℕ
negation_bytes = codes "aig 2 2 0 2 0\n1\n3\ni0 2\ni1 3\no0 1\no1 4\nc\nherbrand\n"

abbrev pub one_alone_bytes : List ℕ
one_alone_bytes = codes "aig 5 2 0 2 3\n10\n7\n" ++ (2 ∷ 2 ∷ 3 ∷ 2 ∷ 1 ∷ 2 ∷ one_alone_end)

-- Whole circuits with their bytes, and bytes that are none of theirs. As with texts, a strategy that has too few
-- variables for its inputs has none, nor has one whose circuit has two gates over the same edges.
pub record WorkedBytes : Type 0 where
  pub of_conjunction : IsAigBytes conjunction_bytes conjunction
  pub of_exchanged : IsAigBytes conjunction_bytes conjunction_exchanged
  pub of_negation : IsAigBytes negation_bytes negation
  pub of_three_gates : IsAigBytes one_alone_bytes one_alone
  pub text : IsAigBytes conjunction_text conjunction → ⊥
  pub other_word : IsAigBytes (codes "aag 3 2 0 1 1\n6\n" ++ (2 ∷ 2 ∷ conjunction_end)) conjunction → ⊥
  pub other_counts : IsAigBytes (codes "aig 3 1 0 2 1\n6\n" ++ (2 ∷ 2 ∷ conjunction_end)) conjunction → ⊥
  pub with_inputs : IsAigBytes (codes "aig 3 2 0 1 1\n2\n4\n6\n" ++ (2 ∷ 2 ∷ conjunction_end)) conjunction → ⊥
  pub lesser_first : IsAigBytes
      (codes "aig 5 2 0 2 3\n10\n7\n" ++ (2 ∷ 2 ∷ 5 ∷ 2 ∷ 1 ∷ 2 ∷ one_alone_end)) one_alone → ⊥
  pub longer : IsAigBytes
      (codes "aig 5 2 0 2 3\n10\n7\n" ++ (130 ∷ 0 ∷ 2 ∷ 3 ∷ 2 ∷ 1 ∷ 2 ∷ one_alone_end)) one_alone → ⊥
  pub exchanged_gates : IsAigBytes
      (codes "aig 5 2 0 2 3\n10\n7\n" ++ (1 ∷ 2 ∷ 3 ∷ 2 ∷ 2 ∷ 2 ∷ one_alone_end)) one_alone → ⊥
  pub other_winner : IsAigBytes
      (codes "aig 2 2 0 2 0\n1\n3\ni0 2\ni1 3\no0 1\no1 4\nc\nskolem\n") negation → ⊥
  pub other_output : IsAigBytes (codes "aig 3 2 0 1 1\n7\n" ++ (2 ∷ 2 ∷ conjunction_end)) conjunction → ⊥
  pub places_as_names : IsAigBytes
      (codes "aig 3 2 0 1 1\n6\n" ++ (2 ∷ 2 ∷ codes "i0 0\ni1 1\no0 0\nc\nskolem\n")) conjunction → ⊥
  pub unnamed : (bytes : List ℕ) → IsAigBytes bytes (record conjunction { inputs = 1 ∷ [] }) → ⊥
  pub gate_twice : (bytes : List ℕ) → IsAigBytes bytes
      (record conjunction { aig = record { inputs = 2; gates = both_gate ∷ both_gate ∷ [] } }) → ⊥
  pub gate_in_other_order : (bytes : List ℕ) → IsAigBytes bytes
      (record conjunction { aig = record { inputs = 2; gates = both_gate ∷ exchanged both_gate ∷ [] } }) → ⊥
