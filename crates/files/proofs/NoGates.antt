-- The circuit of no gates, for the formula of no clause.
use Rattle.std.proofs.Common.{[], ◌≡◌, true, None, Some, refl, arith}
use Rattle.prefix.specs.declared.quant.Quant.TheVariants.{Exists}
use Rattle.calculus.proofs.Lists.{contains_nil}
use Rattle.aig.specs.Circuits.{AreDistinct}
use Rattle.aig.specs.declared.strategy.Strategy.{Strategy}
use Rattle.solve.specs.Feeding.{opened}
use Rattle.solve.specs.Decisions.{unassumed}
use Rattle.files.specs.Jobs.{gates_for}
use Rattle.solve.specs.Certificates.{Certifies}
use Rattle.solve.specs.Terms.{terms_of}
use Rattle.files.specs.Worked.{anything_fits}

abbrev pub no_gates : Strategy
no_gates = record { aig = record { inputs = 0; gates = [] }; winner = Exists; inputs = []; outputs = [] }

-- no gate stands twice among none
pub none : AreDistinct []
none i j d before within e = absurd (let no : ⊥ = omega arith in no)

pub no_gates_certify : Certifies (opened anything_fits) (unassumed true) [] (gates_for (terms_of 0 0 512) anything_fits)
    no_gates
no_gates_certify = record {
  winner = refl;
  inputs = refl;
  outputs = refl;
  wins = λ inputs allowed. (refl, λ x b e. absurd (let f : None ≡ Some b = e in cc));
  earlier = λ x i. absurd (contains_nil x i);
  assumed = λ x b e. absurd (let f : None ≡ Some b = e in cc);
  first_values = λ e. absurd (let f : None ≡ Some Exists = e in cc);
  few = omega arith;
}
