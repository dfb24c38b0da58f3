use Rattle.std.proofs.Common.{◌≡◌, ℕ, refl, ap, arith}
use Rattle.prefix.specs.declared.quant.Quant.TheVariants.{Exists, Forall}
use Rattle.calculus.specs.Derivations.{Why}
use Rattle.calculus.specs.Derivations.Why.{Given, ReducedFrom, ResolvedFrom, FinishedFrom}
use Rattle.derive.specs.State.{side_in, why_in}
use Rattle.derive.proofs.worked.worked_notes.Goals as goal

-- the first id and the variable of a resolution
abbrev first_id : Why → ℕ
first_id Given = 0
first_id (ReducedFrom a) = a
first_id (ResolvedFrom a b x) = a
first_id (FinishedFrom a) = a

abbrev variable : Why → ℕ
variable Given = 0
variable (ReducedFrom a) = 0
variable (ResolvedFrom a b x) = x
variable (FinishedFrom a) = 0

pub returns : goal.returns
returns c = record {
  resolvent = refl;
  turned = λ h. let e : 17179869183 ≡ 12884901893 = ap (λ o. first_id (why_in o)) h in omega (arith, e);
  other_side = λ h. let e : Exists ≡ Forall = ap side_in h in cc;
  other_variable = λ h. let e : 1048575 ≡ 1048576 = ap (λ o. variable (why_in o)) h in omega (arith, e);
  none = refl;
  reduction = refl;
  finish = refl;
  clause = refl;
  cube = refl;
}
