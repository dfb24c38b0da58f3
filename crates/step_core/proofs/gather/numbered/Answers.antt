use Rattle.std.proofs.Common.{inl, inr, refl}
use Rattle.derive.specs.State.{side_at, why_at}
use Rattle.step_core.proofs.Told.{rests_told}
use Rattle.step_core.proofs.gather.numbered.Goals as goal

pub overflow_sub-result : goal.overflow_sub-result
overflow_sub-result c =
    (c.requires.within c.in-Reduced.a (rests_told (side_at c.args.derivation.now c.args.id)
    (why_at c.args.derivation.now c.args.id) _ c.in-Reduced.a c.in-Reduced.ensures.value refl)).0

pub overflow_sub-result-in-Finished : goal.overflow_sub-result-in-Finished
overflow_sub-result-in-Finished c =
    (c.requires.within c.in-Finished.a (rests_told (side_at c.args.derivation.now c.args.id)
    (why_at c.args.derivation.now c.args.id) _ c.in-Finished.a c.in-Finished.ensures.value refl)).0

pub overflow_sub-result-in-Resolved : goal.overflow_sub-result-in-Resolved
overflow_sub-result-in-Resolved c =
    (c.requires.within c.in-Resolved.a (rests_told (side_at c.args.derivation.now c.args.id)
    (why_at c.args.derivation.now c.args.id) _ c.in-Resolved.a c.in-Resolved.ensures.value (inl refl))).0

pub overflow_sub-result-in-Resolved-2 : goal.overflow_sub-result-in-Resolved-2
overflow_sub-result-in-Resolved-2 c =
    (c.requires.within c.in-Resolved.b (rests_told (side_at c.args.derivation.now c.args.id)
    (why_at c.args.derivation.now c.args.id) _ c.in-Resolved.b c.in-Resolved.ensures.value (inr refl))).0
