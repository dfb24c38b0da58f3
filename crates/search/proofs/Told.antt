-- What is told of steps.
use Rattle.std.proofs.Common.{◌≡◌, ℕ, ap}
use Rattle.prefix.specs.declared.quant.Quant.{Quant}
use Rattle.prefix.specs.declared.quant.Quant.TheVariants.{Exists, Forall}
use Rattle.calculus.specs.Derivations.{Why}
use Rattle.calculus.specs.Derivations.Why.{Given, ReducedFrom, ResolvedFrom, FinishedFrom}
use Rattle.derive.specs.Told.{told}
use Rattle.derive.specs.declared.step.Step.TheVariants.{InputClause, InputCube, Reduced, Finished, Resolved}

pub told_reduced : (side : Quant) (why : Why) (a : ℕ) → told side why ≡ Reduced a → why ≡ ReducedFrom a
told_reduced Exists Given a e = absurd (let g : InputClause ≡ Reduced a = e in cc)
told_reduced Forall Given a e = absurd (let g : InputCube ≡ Reduced a = e in cc)
told_reduced side (ReducedFrom b) a e = let g : Reduced b ≡ Reduced a = e in let h : b ≡ a = cc in ap ReducedFrom h
told_reduced side (ResolvedFrom b c x) a e = absurd (let g : Resolved b c x ≡ Reduced a = e in cc)
told_reduced side (FinishedFrom b) a e = absurd (let g : Finished b ≡ Reduced a = e in cc)
