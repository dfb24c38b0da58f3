use Rattle.std.proofs.Common.{◌≡◌, ◌<◌, ℕ, refl, arith, ap}
use Rattle.aig.specs.declared.edge.Node.{Node}
use Rattle.aig.specs.declared.edge.Node.TheVariants.{Constant, Input, Gate}
use Rattle.aig.proofs.worked.worked_gates.Goals as goal

abbrev input_number : Node → ℕ
input_number Constant = 0
input_number (Input i) = i
input_number (Gate j) = 0

pub returns : goal.returns
returns c = record {
  of_inputs = record {
    left_stands = let z : 1 < 2 = omega arith in z;
    right_stands = let z : 0 < 2 = omega arith in z;
    left_proper = λ h. h;
    right_proper = λ h. h;
    differ = λ e. let g : 1 ≡ 0 = ap input_number e in absurd (let f : ⊥ = omega arith in f);
  };
  of_constant = λ h. h.left_proper tt;
  with_constant = λ h. h.right_proper tt;
  of_equals = λ h. h.differ refl;
  of_opposites = λ h. h.differ refl;
  of_itself = λ h. let g : 0 < 0 = h.left_stands in absurd (let f : ⊥ = omega arith in f);
  with_itself = λ h. let g : 0 < 0 = h.right_stands in absurd (let f : ⊥ = omega arith in f);
  of_no_input = λ h. let g : 2 < 2 = h.left_stands in absurd (let f : ⊥ = omega arith in f);
}
