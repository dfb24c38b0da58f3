use Rattle.std.proofs.Common.{None, ⊎_elim}
use Rattle.calculus.proofs.Searching.{unblocked_clean}
use Rattle.calculus.proofs.TrailLaws.{unblocked_clean_but}
use Rattle.calculus.proofs.search.unblocked_are_clean.Goals as goal

pub returns : goal.returns
returns c = record {
  clean = λ pivot scopes values row bad some free l i. ⊎_elim (λ k. absurd k) (λ b. b)
      (unblocked_clean pivot scopes values None row bad some free l i);
  clean_but = unblocked_clean_but;
}
