use Rattle.std.proofs.Common.{subst}
use Rattle.clean.specs.Reasons.{HaveReasons}
use Rattle.search.proofs.lessons.lesson_of.Goals as goal

pub analyse-requires-clause-reasons : goal.analyse-requires-clause-reasons
analyse-requires-clause-reasons c =
    subst (λ p. HaveReasons p c.args.prefix.now c.args.derivation.now c.args.trail.now) c.in-Exists.is
    c.requires.reasons

pub analyse-requires-in-Forall-clause-reasons : goal.analyse-requires-in-Forall-clause-reasons
analyse-requires-in-Forall-clause-reasons c =
    subst (λ p. HaveReasons p c.args.prefix.now c.args.derivation.now c.args.trail.now) c.in-Forall.is
    c.requires.reasons
