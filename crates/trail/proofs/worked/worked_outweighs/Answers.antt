use Rattle.std.proofs.Common.{◌<◌, ◌≤◌, true, false, [], ◌∷◌, arith}
use Rattle.calculus.specs.Weights.{trail_weight}
use Rattle.calculus.proofs.Weighing.{weight_rises, weight_turns}
use Rattle.trail.proofs.worked.worked_outweighs.Goals as goal

pub returns : goal.returns
unfolding trail_weight
returns c = record {
  outweighs_front = λ n. weight_rises n (true ∷ []) false;
  front_is_lighter = λ h. let e : 5 < 1 = h 3 in omega (arith, e);
  not_itself = λ h. let e : 5 < 5 = h 3 in omega (arith, e);
  in_the_place = λ n fits. weight_turns n [] (false ∷ []) fits;
  not_whatever_number = λ h. let e : 2 < 1 = h 0 in omega (arith, e);
  not_behind_a_decision = λ h. let e : 8 < 7 = h 3 (let z : 1 ≤ 3 = omega arith in z) in omega (arith, e);
}
