-- The causes of the calculus, as the code names them.
use Rattle.trail.specs.declared.why.Why.{Why}
use Rattle.trail.specs.declared.why.Why.TheVariants.{Assumed, Decided, Propagated}
use Rattle.calculus.specs.Search.{Cause}
use Rattle.calculus.specs.Search.Cause.{Assumed as assumed, Decided as decided, Propagated as propagated}

-- the cause that the code's name stands for
abbrev pub cause_of : Why → Cause
cause_of Assumed = assumed
cause_of Decided = decided
cause_of (Propagated step) = propagated step
