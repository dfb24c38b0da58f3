-- Replies to solves.
use Rattle.std.proofs.Common.{◌≡◌, Bool, refl}
use Rattle.solve.specs.declared.decision.Decision.{Decision}
use Rattle.solve.specs.declared.decision.Decision.TheVariants.{Sat, Unsat, Unknown}
use Rattle.solve.specs.Decisions.{IsRight, told_by as told_by_decision}
use Rattle.session.specs.Steps.{IsSolveReply, reply_to, told_by}

-- a reply tells what the decision does
pub told_same : (decision : Decision) → told_by (reply_to decision) ≡ told_by_decision decision
told_same Sat = refl
told_same Unsat = refl
told_same (Unknown stopped) = refl

-- and says the truth where it does
pub is_right : (truth : Bool) (decision : Decision) → IsRight truth decision
    → IsSolveReply truth (reply_to decision)
is_right truth Sat is = is
is_right truth Unsat is = is
is_right truth (Unknown stopped) is = tt
