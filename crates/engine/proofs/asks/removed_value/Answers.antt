use Rattle.std.proofs.Common.{refl}
use Rattle.derive.specs.State.{side_at, why_at}
use Rattle.step_core.proofs.Told.{antecedent_live, rests_told}
use Rattle.engine.proofs.asks.removed_value.Goals as goal

pub lits-requires-clause-live : goal.lits-requires-clause-live
lits-requires-clause-live c =
    let d = c.args.derivation.now in
    let end = c.args.verdict.end in
    antecedent_live d end c.in-Finished.a (side_at d end) (c.in-Finished.ensures.antecedents c.in-Finished.a
    (rests_told (side_at d end) (why_at d end) _ c.in-Finished.a c.in-Finished.ensures.value refl))
