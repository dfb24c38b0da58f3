-- The gates of worked circuits.
use Rattle.std.proofs.Common.{◌≡◌, ◌+◌, ◌-◌, ◌*◌, ◌<◌, ◌≤◌, ℕ, zero, suc, Bool, true, false, [], ◌∷◌, inl, inr, refl, sym, ap, ◌∙◌, arith}
use Rattle.std.proofs.lemmas.Bool.{true≢false}
use Rattle.aig.specs.Circuits.{AreDistinct, IsGate, opposite}
use Rattle.aig.specs.Worked.{both_gate, either, exchanged, gate, none_gate}
use Rattle.aig.specs.declared.edge.And.{And}
use Rattle.aig.specs.declared.edge.Edge.{Edge}
use Rattle.aig.specs.declared.edge.Node.{Node}
use Rattle.aig.specs.declared.edge.Node.TheVariants.{Constant, Input, Gate}
use Rattle.aiger_out.specs.Aag.{AreLiteralsOf}
use Rattle.aiger_out.specs.Binary.{IsGateBytes}
use Rattle.aiger_out.specs.Worked.{over}
use Rattle.aiger_out.proofs.Deltas.{one_group}

pub apart : (m n : ℕ) → m < n → m ≡ n → ⊥
apart m n h e = omega arith

abbrev place_of : Node → ℕ
place_of Constant = 0
place_of (Input i) = i
place_of (Gate j) = j

-- a gate over the second input and the first, and with its edges exchanged
pub over_inputs : (inputs k : ℕ) (s t : Bool) → 2 ≤ inputs → IsGate inputs k (record {
  left = record { node = Input 1; negated = s };
  right = record { node = Input 0; negated = t };
})
over_inputs inputs k s t h = record {
  left_stands = let z : 1 < inputs = omega arith in z;
  right_stands = let z : 0 < inputs = omega arith in z;
  left_proper = λ h. h;
  right_proper = λ h. h;
  differ = λ e. apart 0 1 (omega arith) (sym (ap place_of e));
}

pub over_exchanged_inputs : (k : ℕ) (s t : Bool) → IsGate 2 k (record {
  left = record { node = Input 0; negated = s };
  right = record { node = Input 1; negated = t };
})
over_exchanged_inputs k s t = record {
  left_stands = let z : 0 < 2 = omega arith in z;
  right_stands = let z : 1 < 2 = omega arith in z;
  left_proper = λ h. h;
  right_proper = λ h. h;
  differ = λ e. apart 0 1 (omega arith) (ap place_of e);
}

-- a gate over the second gate and the first
pub over_gates : (s t : Bool) → IsGate 2 2 (record {
  left = record { node = Gate 1; negated = s };
  right = record { node = Gate 0; negated = t };
})
over_gates s t = record {
  left_stands = let z : 1 < 2 = omega arith in z;
  right_stands = let z : 0 < 2 = omega arith in z;
  left_proper = λ h. h;
  right_proper = λ h. h;
  differ = λ e. apart 0 1 (omega arith) (sym (ap place_of e));
}

-- no gate, one gate alone, and three gates
pub none_distinct : AreDistinct []
none_distinct i j d before within e = absurd (let no : ⊥ = omega arith in no)

pub alone_distinct : (g : And) → AreDistinct (g ∷ [])
alone_distinct g i j d before within e = let w : j < 1 = within in absurd (let no : ⊥ = omega arith in no)

signs_differ : (e f : Edge) → e.negated ≡ false → f.negated ≡ true → e ≡ f → ⊥
signs_differ e f p q same = true≢false (sym q ∙ sym (ap (λ (x : Edge). x.negated) same) ∙ p)

no_gate : (i j : ℕ) → Input i ≡ Gate j → ⊥
no_gate i j e = cc

pub three_distinct : AreDistinct either.gates
three_distinct zero zero d before within e = absurd (let no : ⊥ = omega arith in no)
three_distinct zero (suc zero) d before within (inl e) = signs_differ _ _ refl refl e.0
three_distinct zero (suc zero) d before within (inr e) = signs_differ _ _ refl refl e.0
three_distinct zero (suc (suc zero)) d before within (inl e) = signs_differ _ _ refl refl e.0
three_distinct zero (suc (suc zero)) d before within (inr e) = signs_differ _ _ refl refl e.0
three_distinct (suc zero) zero d before within e = absurd (let no : ⊥ = omega arith in no)
three_distinct (suc zero) (suc zero) d before within e = absurd (let no : ⊥ = omega arith in no)
three_distinct (suc zero) (suc (suc zero)) d before within (inl e) =
    no_gate 1 1 (ap (λ (x : Edge). x.node) e.0)
three_distinct (suc zero) (suc (suc zero)) d before within (inr e) =
    no_gate 1 0 (ap (λ (x : Edge). x.node) e.0)
three_distinct (suc (suc i)) j d before within e =
    let w : j < 3 = within in absurd (let no : ⊥ = omega arith in no)
three_distinct i (suc (suc (suc j))) d before within e =
    let w : suc (suc (suc j)) < 3 = within in absurd (let no : ⊥ = omega arith in no)

-- gates whose two numbers are of one group

pub two_bytes : (inputs place rhs0 rhs1 : ℕ) (g : And) → AreLiteralsOf inputs g rhs0 rhs1
    → rhs0 < 2 * (inputs + place + 1) → rhs1 ≤ rhs0 → IsGate inputs place g → 2 * (inputs + place + 1) - rhs0 < 128
    → rhs0 - rhs1 < 128 → IsGateBytes inputs place ((2 * (inputs + place + 1) - rhs0) ∷ (rhs0 - rhs1) ∷ []) g
two_bytes inputs place rhs0 rhs1 g edges later order proper first second = record {
  lhs = 2 * (inputs + place + 1);
  rhs0 = rhs0;
  rhs1 = rhs1;
  first = (2 * (inputs + place + 1) - rhs0) ∷ [];
  second = (rhs0 - rhs1) ∷ [];
  parts = refl;
  literal = omega arith;
  first_delta = one_group (2 * (inputs + place + 1) - rhs0) first;
  second_delta = one_group (rhs0 - rhs1) second;
  edges = edges;
  later = later;
  ordered = order;
  proper = proper;
}

pub both_are : IsGateBytes 2 0 (2 ∷ 2 ∷ []) both_gate
both_are = two_bytes 2 0 4 2 both_gate (inl (refl, refl)) (omega arith) (omega arith)
    (over_inputs 2 0 false false (omega arith)) (omega arith) (omega arith)

pub exchanged_are : IsGateBytes 2 0 (2 ∷ 2 ∷ []) (exchanged both_gate)
exchanged_are = two_bytes 2 0 4 2 (exchanged both_gate) (inr (refl, refl)) (omega arith) (omega arith)
    (over_exchanged_inputs 0 false false) (omega arith) (omega arith)

pub none_are : IsGateBytes 2 1 (3 ∷ 2 ∷ []) none_gate
none_are = two_bytes 2 1 5 3 none_gate (inl (refl, refl)) (omega arith) (omega arith)
    (over_inputs 2 1 true true (omega arith)) (omega arith) (omega arith)

pub last_are : IsGateBytes 2 2 (1 ∷ 2 ∷ []) (over (opposite (gate 1)) (opposite (gate 0)))
last_are = two_bytes 2 2 9 7 (over (opposite (gate 1)) (opposite (gate 0))) (inl (refl, refl)) (omega arith)
    (omega arith) (over_gates true true) (omega arith) (omega arith)
