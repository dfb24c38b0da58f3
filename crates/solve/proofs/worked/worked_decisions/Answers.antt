use Rattle.std.proofs.Common.{◌≡◌, ◌<◌, true, false, codes, refl, ap, arith}
use Rattle.solve.specs.Worked.{contradiction}
use Rattle.solve.proofs.OneStep.{refutes}
use Rattle.solve.proofs.worked.worked_decisions.Goals as goal

pub returns : goal.returns
returns c = record {
  says_true = refl;
  not_true = λ e. absurd (let f : false ≡ true = e in cc);
  gives_up = tt;
  unsat = refutes contradiction.witness;
  not_sat = λ after d. absurd (let t : false ≡ d.truth = d.right in
      let line : codes "SAT\n" ≡ codes "UNSAT\n" = ap (λ o. o.text) (rw (← t) at d.says_truth) in cc);
  short = λ out after g. absurd (let low : 16 < 16 = g.short in omega (arith, low));
  short_again = λ out after g. absurd (let low : 16 < 16 = g.short in omega (arith, low));
}
