use Rattle.std.proofs.Common.{◌≡◌, ◌<◌, ℕ, zero, suc, [], ◌∷◌, Bool, true, false, inl, inr, length, get_or, refl, arith, ap, ◌∙◌, sym}
use Rattle.aig.specs.Circuits.{Circuit, edge_number, opposite, AreDistinct, IsGate, IsOrdered, Makes}
use Rattle.aig.specs.Worked.{both, both_and_none, both_gate, none_gate, gate, input}
use Rattle.aig.specs.declared.edge.And.{And}
use Rattle.aig.specs.declared.edge.Edge.{Edge}
use Rattle.aig.specs.declared.edge.Node.{Node}
use Rattle.aig.specs.declared.edge.Node.TheVariants.{Constant, Input, Gate}
use Rattle.aig.proofs.worked.worked_sharing.Goals as goal

apart : (m n : ℕ) → n < m → m ≡ n → ⊥
apart m n h e = omega arith

-- the literal of a gate's left edge
abbrev left_number : And → ℕ
left_number g = edge_number 2 g.left

abbrev node_place : Node → ℕ
node_place Constant = 0
node_place (Input i) = i
node_place (Gate j) = j

of_inputs : (k : ℕ) (s t : Bool) → IsGate 2 k (record {
  left = record { node = Input 1; negated = s };
  right = record { node = Input 0; negated = t };
})
of_inputs k s t = record {
  left_stands = let z : 1 < 2 = omega arith in z;
  right_stands = let z : 0 < 2 = omega arith in z;
  left_proper = λ h. h;
  right_proper = λ h. h;
  differ = λ e. apart 1 0 (omega arith) (ap node_place e);
}

are_gates : (i : ℕ) (d : And) → i < 2 → IsGate 2 i (get_or (both_gate ∷ none_gate ∷ []) i d)
are_gates zero d h = of_inputs 0 false false
are_gates (suc zero) d h = of_inputs 1 true true
are_gates (suc (suc i)) d h = absurd (omega arith)

are_ordered : (i : ℕ) (d : And) → i < 2 → IsOrdered 2 (get_or (both_gate ∷ none_gate ∷ []) i d)
are_ordered zero d h = let z : 2 < 4 = omega arith in z
are_ordered (suc zero) d h = let z : 3 < 5 = omega arith in z
are_ordered (suc (suc i)) d h = absurd (omega arith)

are_distinct : AreDistinct (both_gate ∷ none_gate ∷ [])
are_distinct zero zero d before within e = absurd (omega arith)
are_distinct zero (suc zero) d before within (inl e) = apart 5 4 (omega arith) (sym (ap (edge_number 2) e.0))
are_distinct zero (suc zero) d before within (inr e) = apart 4 3 (omega arith) (ap (edge_number 2) e.0)
are_distinct zero (suc (suc j)) d before within e =
    let w : suc (suc j) < 2 = within in absurd (let no : ⊥ = omega arith in no)
are_distinct (suc i) j d before within e = let w : j < 2 = within in absurd (let no : ⊥ = omega arith in no)

not_put : Makes both (record { inputs = 2; gates = both_gate ∷ both_gate ∷ [] }) (input 0) (input 1) (gate 1) → ⊥
not_put (inl f) = apart 2 1 (omega arith) (ap (λ (c : Circuit). length c.gates) f.unchanged)
not_put (inr p) = p.fresh 0 both_gate (let z : 0 < 1 = omega arith in z) refl

other : (i : ℕ) (d : And) → i < 1 → get_or (both_gate ∷ []) i d ≡ none_gate → ⊥
other zero d h e = apart 5 4 (omega arith) (sym (ap left_number e))
other (suc i) d h e = absurd (omega arith)

not_there : Makes both both (opposite (input 0)) (opposite (input 1)) (gate 0) → ⊥
not_there (inl f) = other f.place both_gate f.within (f.gate both_gate)
not_there (inr p) = apart 2 1 (omega arith) (sym (ap length p.gates))

not_that_place : Makes both_and_none both_and_none (input 0) (input 1) (gate 1) → ⊥
not_that_place (inl f) =
    let place : 1 ≡ f.place = ap (λ (e : Edge). node_place e.node) f.edge in
    apart 5 4 (omega arith) (ap left_number (ap (λ k. get_or (both_gate ∷ none_gate ∷ []) k both_gate) place
    ∙ f.gate both_gate))
not_that_place (inr p) = apart 3 2 (omega arith) (sym (ap length p.gates))

pub returns : goal.returns
returns c = record {
  different = record { proper = are_gates; ordered = are_ordered; distinct = are_distinct };
  gate_twice = λ h. h.distinct 0 1 both_gate (omega arith) (let z : 1 < 2 = omega arith in z) (inl (refl, refl));
  gate_again_later = λ h.
      h.distinct 0 2 both_gate (omega arith) (let z : 2 < 3 = omega arith in z) (inl (refl, refl));
  gate_in_other_order = λ h. h 0 1 both_gate (omega arith) (let z : 1 < 2 = omega arith in z) (inr (refl, refl));
  lesser_left = λ h. let bad : 4 < 2 = h.ordered 0 both_gate (let z : 0 < 1 = omega arith in z) in
      absurd (let no : ⊥ = omega arith in no);
  greater_given_last = refl;
  greater_given_first = refl;
  found_again = inl (record {
    unchanged = refl;
    place = 0;
    within = let z : 0 < 1 = omega arith in z;
    gate = λ d. refl;
    edge = refl;
  });
  not_put_again = not_put;
  put = inr (record { inputs = refl; fresh = other; gates = refl; edge = refl });
  not_found = not_there;
  other_not_found = not_that_place;
}
