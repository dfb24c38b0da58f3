-- A step as it is told to callers.
use Rattle.prefix.specs.declared.quant.Quant.{Quant}
use Rattle.prefix.specs.declared.quant.Quant.TheVariants.{Exists, Forall}
use Rattle.calculus.specs.Derivations.{Why}
use Rattle.calculus.specs.Derivations.Why.{Given, ReducedFrom, ResolvedFrom, FinishedFrom}
use Rattle.derive.specs.declared.step.Step.{Step}
use Rattle.derive.specs.declared.step.Step.TheVariants.{InputClause, InputCube, Reduced, Finished, Resolved}

-- why a step stands, in the words of the calculus
abbrev pub why_of : Step → Why
why_of InputClause = Given
why_of InputCube = Given
why_of (Reduced a) = ReducedFrom a
why_of (Finished a) = FinishedFrom a
why_of (Resolved a b pivot) = ResolvedFrom a b pivot

-- what is told of a step of this side
abbrev pub told : Quant → Why → Step
told Exists Given = InputClause
told Forall Given = InputCube
told side (ReducedFrom a) = Reduced a
told side (ResolvedFrom a b x) = Resolved a b x
told side (FinishedFrom a) = Finished a
