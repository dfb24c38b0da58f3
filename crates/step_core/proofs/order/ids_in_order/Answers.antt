use Rattle.std.proofs.Common.{subst, sym}
use Rattle.step_core.specs.Gathering.{AreCoreIds}
use Rattle.step_core.proofs.Ordering.{core_closed, parts_are}
use Rattle.step_core.proofs.order.ids_in_order.Goals as goal

pub returns-clause-value : goal.returns-clause-value
returns-clause-value c =
    parts_are c.args.derivation.now c.args.end _ _ _ c.new-ids.ensures.items c.in_ok-push_part.ensures
    c.in_ok-push_part-2.ensures

pub returns-clause-closed : goal.returns-clause-closed
returns-clause-closed c =
    subst (AreCoreIds c.args.derivation.now c.args.end c.args.marks.now) (sym (returns-clause-value c))
    (core_closed c.args.derivation.now c.args.end c.args.marks.now c.requires)
