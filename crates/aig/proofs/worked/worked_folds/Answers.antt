use Rattle.std.proofs.Common.{◌≡◌, ◌+◌, ◌<◌, ℕ, Some, refl, sym, ap, arith}
use Rattle.std.proofs.lemmas.Bool.{false≢true}
use Rattle.aig.specs.Circuits.{AreProper, Folds, opposite, zero, one}
use Rattle.aig.specs.Worked.{Is, input}
use Rattle.aig.specs.declared.edge.Edge.{Edge}
use Rattle.aig.specs.declared.edge.Node.{Node}
use Rattle.aig.specs.declared.edge.Node.TheVariants.{Constant, Input, Gate}
use Rattle.aig.proofs.Folding.{folds_map, over_equal, over_one_left, over_one_right, over_opposite, over_proper, over_zero_left, over_zero_right}
use Rattle.aig.proofs.worked.worked_folds.Goals as goal

told : (x e : Edge) → Some x ≡ Some e → Is x e
told x e h = (let f : Some x ≡ Some e = h in cc)

-- what a conjunction folds to
folds_to : (a b x : Edge) → Folds a b (λ e. Some x ≡ Some e) → Folds a b (Is x)
folds_to a b x h = folds_map a b (λ e. Some x ≡ Some e) (Is x) (told x) h

abbrev place_of : Node → ℕ
place_of Constant = 0
place_of (Input i) = i + 1
place_of (Gate j) = 0

apart : (a b : Edge) → place_of a.node < place_of b.node → a ≡ b → ⊥
apart a b h e = let f : place_of a.node ≡ place_of b.node = ap (λ (x : Edge). place_of x.node) e in omega (arith, h, f)

different : AreProper (input 0) (opposite (input 1))
different = record {
  left = λ h. h;
  right = λ h. h;
  differ = λ e. let f : 1 ≡ 2 = ap place_of e in omega (arith, f);
}

pub returns : goal.returns
returns c = record {
  with_zero = folds_to (input 0) zero zero (over_zero_right (input 0) zero refl refl);
  zero_with = folds_to zero (input 0) zero (over_zero_left zero (input 0) refl refl);
  with_one = folds_to (input 0) one (input 0) (over_one_right (input 0) one refl refl);
  one_with = folds_to one (input 0) (input 0) (over_one_left one (input 0) refl refl);
  of_equals = folds_to (opposite (input 0)) (opposite (input 0)) (opposite (input 0))
      (over_equal (opposite (input 0)) (opposite (input 0)) refl refl);
  of_opposites = folds_to (input 0) (opposite (input 0)) zero
      (over_opposite (input 0) (opposite (input 0)) (λ h. h) (λ h. h) (λ e. false≢true e));
  of_different = over_proper (input 0) (opposite (input 1)) different (λ e. ⊥);
  not_other_with_zero = λ h. apart zero (input 0) (let z : 0 < 1 = omega arith in z) (h.zero_right refl);
  not_other_zero_with = λ h. apart zero (input 0) (let z : 0 < 1 = omega arith in z) (h.zero_left refl);
  not_one_with_one = λ h. apart one (input 0) (let z : 0 < 1 = omega arith in z) (sym (h.one_right refl));
  not_one_one_with = λ h. apart one (input 0) (let z : 0 < 1 = omega arith in z) (sym (h.one_left refl));
  not_zero_of_equals = λ h. apart zero (input 0) (let z : 0 < 1 = omega arith in z) (sym (h.equal refl));
  not_either_of_opposites = λ h. apart zero (input 0) (let z : 0 < 1 = omega arith in z) (h.opposites refl);
  different_are_proper = different;
  equals_are_not = λ h. h.differ refl;
  opposites_are_not = λ h. h.differ refl;
  constant_is_not = λ h. h.left tt;
  nor_at_right = λ h. h.right tt;
}
