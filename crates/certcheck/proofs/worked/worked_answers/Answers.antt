use Rattle.std.proofs.Common.{◌≡◌, refl, ap, None, Some, arith}
use Rattle.truth.specs.declared.formula.Formula.{Formula}
use Rattle.reading.specs.declared.refusal.Quantity.TheVariants.{Variables, Clauses}
use Rattle.certcheck.proofs.worked.worked_answers.Goals as goal

pub returns : goal.returns
returns c = record {
  formula = (refl, refl);
  not_beyond = λ h. let g : Some Variables ≡ None = h.1 in cc;
  not_another = λ h. let g : 1 ≡ 2 = ap (λ (f : Formula). f.declared_vars) h.0 in absurd (let f : ⊥ = omega (arith, g) in f);
  limit = refl;
  not_within = λ h. let g : None ≡ Some Variables = h in cc;
  not_of_clauses = λ h. let g : Some Variables ≡ Some Clauses = h in cc;
}
