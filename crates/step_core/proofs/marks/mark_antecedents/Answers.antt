use Rattle.std.proofs.Common.{arith, inl, inr, refl}
use Rattle.derive.specs.State.{side_at, why_at}
use Rattle.step_core.proofs.Told.{antecedent_live, rests_told}
use Rattle.step_core.proofs.marks.mark_antecedents.Goals as goal

pub mark-requires-clause-live : goal.mark-requires-clause-live
mark-requires-clause-live c =
    antecedent_live c.args.derivation.now c.args.id c.in-Reduced.a (side_at c.args.derivation.now c.args.id)
    (c.in-Reduced.ensures.antecedents c.in-Reduced.a
    (rests_told (side_at c.args.derivation.now c.args.id)
    (why_at c.args.derivation.now c.args.id) _ c.in-Reduced.a c.in-Reduced.ensures.value refl))

pub mark-requires-clause-within : goal.mark-requires-clause-within
mark-requires-clause-within c =
    let a = (c.in-Reduced.ensures.antecedents c.in-Reduced.a
    (rests_told (side_at c.args.derivation.now c.args.id)
    (why_at c.args.derivation.now c.args.id) _ c.in-Reduced.a c.in-Reduced.ensures.value refl)).earlier in
    let low = c.requires.within in
    omega arith

pub mark-requires-in-Finished-clause-live : goal.mark-requires-in-Finished-clause-live
mark-requires-in-Finished-clause-live c =
    antecedent_live c.args.derivation.now c.args.id c.in-Finished.a (side_at c.args.derivation.now c.args.id)
    (c.in-Finished.ensures.antecedents c.in-Finished.a
    (rests_told (side_at c.args.derivation.now c.args.id)
    (why_at c.args.derivation.now c.args.id) _ c.in-Finished.a c.in-Finished.ensures.value refl))

pub mark-requires-in-Finished-clause-within : goal.mark-requires-in-Finished-clause-within
mark-requires-in-Finished-clause-within c =
    let a = (c.in-Finished.ensures.antecedents c.in-Finished.a
    (rests_told (side_at c.args.derivation.now c.args.id)
    (why_at c.args.derivation.now c.args.id) _ c.in-Finished.a c.in-Finished.ensures.value refl)).earlier in
    let low = c.requires.within in
    omega arith

pub mark-requires-in-Resolved-clause-live : goal.mark-requires-in-Resolved-clause-live
mark-requires-in-Resolved-clause-live c =
    antecedent_live c.args.derivation.now c.args.id c.in-Resolved.a (side_at c.args.derivation.now c.args.id)
    (c.in-Resolved.ensures.antecedents c.in-Resolved.a
    (rests_told (side_at c.args.derivation.now c.args.id)
    (why_at c.args.derivation.now c.args.id) _ c.in-Resolved.a c.in-Resolved.ensures.value (inl refl)))

pub mark-requires-in-Resolved-clause-within : goal.mark-requires-in-Resolved-clause-within
mark-requires-in-Resolved-clause-within c =
    let a = (c.in-Resolved.ensures.antecedents c.in-Resolved.a
    (rests_told (side_at c.args.derivation.now c.args.id)
    (why_at c.args.derivation.now c.args.id) _ c.in-Resolved.a c.in-Resolved.ensures.value (inl refl))).earlier in
    let low = c.requires.within in
    omega arith

pub mark-requires-in-Resolved-2-clause-live : goal.mark-requires-in-Resolved-2-clause-live
mark-requires-in-Resolved-2-clause-live c =
    antecedent_live c.args.derivation.now c.args.id c.in-Resolved.b (side_at c.args.derivation.now c.args.id)
    (c.in-Resolved.ensures.antecedents c.in-Resolved.b
    (rests_told (side_at c.args.derivation.now c.args.id)
    (why_at c.args.derivation.now c.args.id) _ c.in-Resolved.b c.in-Resolved.ensures.value (inr refl)))

pub mark-requires-in-Resolved-2-clause-within : goal.mark-requires-in-Resolved-2-clause-within
mark-requires-in-Resolved-2-clause-within c =
    let a = (c.in-Resolved.ensures.antecedents c.in-Resolved.b
    (rests_told (side_at c.args.derivation.now c.args.id)
    (why_at c.args.derivation.now c.args.id) _ c.in-Resolved.b c.in-Resolved.ensures.value (inr refl))).earlier in
    let low = c.requires.within in
    omega arith
