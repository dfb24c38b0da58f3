use Rattle.std.proofs.Common.{◌≡◌, ◌<◌, ℕ, List, [], ◌∷◌, true, false, inl, get_or, refl, sym, ap, ◌∙◌, arith}
use Rattle.aig.specs.Worked.{both_gate, input, none_gate}
use Rattle.aig.specs.Circuits.{opposite}
use Rattle.aig.specs.declared.edge.And.{And}
use Rattle.aiger_out.specs.Binary.{IsGateBytes}
use Rattle.aiger_out.specs.Worked.{over}
use Rattle.aiger_out.proofs.Deltas.{one_group}
use Rattle.aiger_out.proofs.SameBytes.{gate_form}
use Rattle.aiger_out.proofs.WorkedGates.{apart, both_are, exchanged_are, last_are, none_are, over_inputs, two_bytes}
use Rattle.aiger_out.proofs.worked.worked_gate_bytes.Goals as goal

-- the same gate at the next place, and another gate
both_next : IsGateBytes 2 1 (4 ∷ 2 ∷ []) both_gate
both_next = two_bytes 2 1 4 2 both_gate (inl (refl, refl)) (omega arith) (omega arith)
    (over_inputs 2 1 false false (omega arith)) (omega arith) (omega arith)

one_negated : IsGateBytes 2 0 (2 ∷ 1 ∷ []) (over (input 1) (opposite (input 0)))
one_negated = two_bytes 2 0 4 3 (over (input 1) (opposite (input 0))) (inl (refl, refl)) (omega arith) (omega arith)
    (over_inputs 2 0 false true (omega arith)) (omega arith) (omega arith)

-- two forms of one gate agree at each place
agree : (inputs place : ℕ) (bytes other : List ℕ) (g : And) (i m n : ℕ) → IsGateBytes inputs place bytes g
    → IsGateBytes inputs place other g → get_or bytes i 0 ≡ m → get_or other i 0 ≡ n → (m ≡ n → ⊥) → ⊥
agree inputs place bytes other g i m n h k e f differ =
    differ (sym e ∙ ap (λ (t : List ℕ). get_or t i 0) (gate_form inputs place bytes other g h k) ∙ f)

pub returns : goal.returns
returns c = record {
  of_gate = both_are;
  of_exchanged_gate = exchanged_are;
  of_second_gate = none_are;
  of_third_gate = last_are;
  of_far_gate = record {
    lhs = 304;
    rhs0 = 4;
    rhs1 = 2;
    first = 172 ∷ 2 ∷ [];
    second = 2 ∷ [];
    parts = refl;
    literal = refl;
    first_delta = record { groups = (omega arith, omega arith, omega arith, omega arith); value = refl };
    second_delta = one_group 2 (omega arith);
    edges = inl (refl, refl);
    later = omega arith;
    ordered = omega arith;
    proper = over_inputs 151 0 false false (omega arith);
  };
  lesser_first = λ h. agree 2 0 (2 ∷ 2 ∷ []) (4 ∷ 2 ∷ []) both_gate 0 2 4 both_are h refl refl
      (apart 2 4 (omega arith));
  longer = λ h. agree 2 0 (2 ∷ 2 ∷ []) (2 ∷ 130 ∷ 0 ∷ []) both_gate 1 2 130 both_are h refl refl
      (apart 2 130 (omega arith));
  other_place = λ h. agree 2 1 (2 ∷ 2 ∷ []) (4 ∷ 2 ∷ []) both_gate 0 2 4 h both_next refl refl
      (apart 2 4 (omega arith));
  doubled_place = λ h. agree 2 1 (3 ∷ 2 ∷ []) (5 ∷ 2 ∷ []) none_gate 0 3 5 none_are h refl refl
      (apart 3 5 (omega arith));
  other_gate = λ h. agree 2 0 (2 ∷ 1 ∷ []) (2 ∷ 2 ∷ []) (over (input 1) (opposite (input 0))) 1 1 2 one_negated h
      refl refl (apart 1 2 (omega arith));
  of_itself = λ h. let g : 0 < 0 = h.proper.left_stands in omega arith;
}
