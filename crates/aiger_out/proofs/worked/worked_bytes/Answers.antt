use Rattle.std.specs.Prelude.{codes}
use Rattle.std.proofs.Common.{◌≡◌, ◌<◌, ℕ, List, [], ◌∷◌, ◌++◌, get_or, inl, inr, refl, sym, ap, ◌∙◌, arith}
use Rattle.aig.specs.Circuits.{IsEdge}
use Rattle.aig.specs.Worked.{both_gate, conjunction}
use Rattle.aig.specs.declared.strategy.Strategy.{Strategy}
use Rattle.aiger_out.specs.Binary.{IsAigBytes}
use Rattle.aiger_out.specs.Worked.{conjunction_exchanged, conjunction_text, negation, one_alone}
use Rattle.aiger_out.specs.WorkedBinary.{conjunction_bytes, conjunction_end, one_alone_bytes, one_alone_end, negation_bytes}
use Rattle.aiger_out.proofs.SameBytes.{have_one_form}
use Rattle.aiger_out.proofs.WorkedGates.{alone_distinct, apart, both_are, exchanged_are, last_are, none_are, none_distinct, three_distinct}
use Rattle.aiger_out.proofs.worked.worked_bytes.Goals as goal

denotes_conjunction : IsAigBytes conjunction_bytes conjunction
unfolding IsEdge
denotes_conjunction = record {
  output_lines = (codes "6" ∷ []) ∷ [];
  gate_bytes = (2 ∷ 2 ∷ []) ∷ [];
  input_symbols = (codes "i0" ∷ codes "1" ∷ []) ∷ (codes "i1" ∷ codes "2" ∷ []) ∷ [];
  output_symbols = (codes "o0" ∷ codes "3" ∷ []) ∷ [];
  whole = refl;
  named = refl;
  outputs = (record { stands = omega arith; literal = refl }, tt);
  gates = (both_are, tt);
  distinct = alone_distinct _;
  input_names = (refl, (refl, tt));
  output_names = (refl, tt);
}

denotes_exchanged : IsAigBytes conjunction_bytes conjunction_exchanged
unfolding IsEdge
denotes_exchanged = record {
  output_lines = (codes "6" ∷ []) ∷ [];
  gate_bytes = (2 ∷ 2 ∷ []) ∷ [];
  input_symbols = (codes "i0" ∷ codes "1" ∷ []) ∷ (codes "i1" ∷ codes "2" ∷ []) ∷ [];
  output_symbols = (codes "o0" ∷ codes "3" ∷ []) ∷ [];
  whole = refl;
  named = refl;
  outputs = (record { stands = omega arith; literal = refl }, tt);
  gates = (exchanged_are, tt);
  distinct = alone_distinct _;
  input_names = (refl, (refl, tt));
  output_names = (refl, tt);
}

denotes_negation : IsAigBytes negation_bytes negation
unfolding IsEdge
denotes_negation = record {
  output_lines = (codes "1" ∷ []) ∷ (codes "3" ∷ []) ∷ [];
  gate_bytes = [];
  input_symbols = (codes "i0" ∷ codes "2" ∷ []) ∷ (codes "i1" ∷ codes "3" ∷ []) ∷ [];
  output_symbols = (codes "o0" ∷ codes "1" ∷ []) ∷ (codes "o1" ∷ codes "4" ∷ []) ∷ [];
  whole = refl;
  named = refl;
  outputs = (record { stands = tt; literal = refl }, (record { stands = omega arith; literal = refl }, tt));
  gates = tt;
  distinct = none_distinct;
  input_names = (refl, (refl, tt));
  output_names = (refl, (refl, tt));
}

denotes_three : IsAigBytes one_alone_bytes one_alone
unfolding IsEdge
denotes_three = record {
  output_lines = (codes "10" ∷ []) ∷ (codes "7" ∷ []) ∷ [];
  gate_bytes = (2 ∷ 2 ∷ []) ∷ (3 ∷ 2 ∷ []) ∷ (1 ∷ 2 ∷ []) ∷ [];
  input_symbols = (codes "i0" ∷ codes "2" ∷ []) ∷ (codes "i1" ∷ codes "7" ∷ []) ∷ [];
  output_symbols = (codes "o0" ∷ codes "5" ∷ []) ∷ (codes "o1" ∷ codes "9" ∷ []) ∷ [];
  whole = refl;
  named = refl;
  outputs = (record { stands = omega arith; literal = refl }, (record { stands = omega arith; literal = refl }, tt));
  gates = (both_are, (none_are, (last_are, tt)));
  distinct = three_distinct;
  input_names = (refl, (refl, tt));
  output_names = (refl, (refl, tt));
}

-- two forms of one circuit agree at each place
agree : (s : Strategy) (bytes other : List ℕ) (i m n : ℕ) → IsAigBytes bytes s → IsAigBytes other s
    → get_or bytes i 0 ≡ m → get_or other i 0 ≡ n → (m ≡ n → ⊥) → ⊥
agree s bytes other i m n h g e f differ =
    differ (sym e ∙ ap (λ (t : List ℕ). get_or t i 0) (have_one_form s bytes other h g) ∙ f)

pub returns : goal.returns
returns c = record {
  of_conjunction = denotes_conjunction;
  of_exchanged = denotes_exchanged;
  of_negation = denotes_negation;
  of_three_gates = denotes_three;
  text = λ h. agree conjunction conjunction_text conjunction_bytes 1 97 105 h denotes_conjunction refl refl
      (apart 97 105 (omega arith));
  other_word = λ h. agree conjunction (codes "aag 3 2 0 1 1\n6\n" ++ (2 ∷ 2 ∷ conjunction_end))
      conjunction_bytes 1 97 105 h denotes_conjunction refl refl (apart 97 105 (omega arith));
  other_counts = λ h. agree conjunction (codes "aig 3 1 0 2 1\n6\n" ++ (2 ∷ 2 ∷ conjunction_end))
      conjunction_bytes 6 49 50 h denotes_conjunction refl refl (apart 49 50 (omega arith));
  with_inputs = λ h. agree conjunction (codes "aig 3 2 0 1 1\n2\n4\n6\n" ++ (2 ∷ 2 ∷ conjunction_end))
      conjunction_bytes 14 50 54 h denotes_conjunction refl refl (apart 50 54 (omega arith));
  lesser_first = λ h. agree one_alone one_alone_bytes
      (codes "aig 5 2 0 2 3\n10\n7\n" ++ (2 ∷ 2 ∷ 5 ∷ 2 ∷ 1 ∷ 2 ∷ one_alone_end)) 21 3 5 denotes_three h refl refl
      (apart 3 5 (omega arith));
  longer = λ h. agree one_alone one_alone_bytes
      (codes "aig 5 2 0 2 3\n10\n7\n" ++ (130 ∷ 0 ∷ 2 ∷ 3 ∷ 2 ∷ 1 ∷ 2 ∷ one_alone_end)) 19 2 130 denotes_three h
      refl refl (apart 2 130 (omega arith));
  exchanged_gates = λ h. agree one_alone
      (codes "aig 5 2 0 2 3\n10\n7\n" ++ (1 ∷ 2 ∷ 3 ∷ 2 ∷ 2 ∷ 2 ∷ one_alone_end)) one_alone_bytes 19 1 2 h
      denotes_three refl refl (apart 1 2 (omega arith));
  other_winner = λ h. agree negation negation_bytes
      (codes "aig 2 2 0 2 0\n1\n3\ni0 2\ni1 3\no0 1\no1 4\nc\nskolem\n") 40 104 115 denotes_negation h refl refl
      (apart 104 115 (omega arith));
  other_output = λ h. agree conjunction conjunction_bytes (codes "aig 3 2 0 1 1\n7\n" ++ (2 ∷ 2 ∷ conjunction_end))
      14 54 55 denotes_conjunction h refl refl (apart 54 55 (omega arith));
  places_as_names = λ h. agree conjunction
      (codes "aig 3 2 0 1 1\n6\n" ++ (2 ∷ 2 ∷ codes "i0 0\ni1 1\no0 0\nc\nskolem\n")) conjunction_bytes 21 48 49 h
      denotes_conjunction refl refl (apart 48 49 (omega arith));
  unnamed = λ bytes h. apart 1 2 (omega arith) (sym h.named);
  gate_twice = λ bytes h. h.distinct 0 1 both_gate (omega arith) (let z : 1 < 2 = omega arith in z) (inl (refl, refl));
  gate_in_other_order = λ bytes h.
      h.distinct 0 1 both_gate (omega arith) (let z : 1 < 2 = omega arith in z) (inr (refl, refl));
}
