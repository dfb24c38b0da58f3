-- The worked values of trials.
use Rattle.std.proofs.Common.{◌≡◌, ◌<◌, ◌-◌, [], ◌∷◌, Contains, refl, sym, ◌∙◌, ⊎_elim, arith}
use Rattle.calculus.specs.Worked.{plus}
use Rattle.calculus.proofs.Lists.{contains_cons, contains_head, contains_nil}
use Rattle.search.specs.Stops.WasSpentWhenDue.{assuming}
use Rattle.search.specs.Worked.{no_steps}
use Rattle.cores.specs.Trials.{new_counter}
use Rattle.cores.specs.Worked.{first_one}
use Rattle.cores.specs.WorkedTrials.{WorkedTrials}

-- what stands in a list of one
only : {A : Type 0} (x y : A) → Contains (x ∷ []) y → y ≡ x
only x y i = ⊎_elim (λ (e : x ≡ y). sym e) (λ n. absurd (contains_nil y n)) (contains_cons x [] y i)

pub trials : WorkedTrials
trials = record {
  memory = tt;
  at_once = record {
    some = [];
    among = λ g i. absurd (contains_nil g i);
    on = record {
      derivation = no_steps;
      matrix = record {
        there = λ row i. absurd (contains_nil row i);
        none_else = λ row i. absurd (contains_nil row i);
      };
      now = new_counter 0;
      whole = refl;
      spent = record {
        spent = refl;
        budget = refl;
        vars = refl;
        due = assuming (omega arith) refl;
        few = omega arith;
        restarts = omega arith;
        short = omega arith;
      };
    };
  };
  never_spent = λ h. (
      let few : h.on.now.spent - 0 < 24 = h.on.spent.few in
      let all : h.on.now.spent ≡ 100 = h.on.spent.spent ∙ h.on.whole in
      omega arith);
  other_budget = λ h. (let other : 0 ≡ 1 = h.on.spent.budget in omega arith);
  of_these = λ stopped h row i. only (plus 1 ∷ []) row (h.matrix.there row i);
  of_all_these = λ stopped h. h.matrix.none_else (plus 1 ∷ []) (contains_head (plus 1 ∷ []) []);
  among = λ stopped h g i. only first_one g (h.among g i);
}
